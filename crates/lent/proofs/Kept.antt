-- Document 01, 'Numbers turned away with': a request that is turned away changes nothing, the lent record included. Assumes nothing.
use Prim.Native.Nat.{ℕ}
use mathlib.Core.Path.{◌≡◌, refl, sym, ◌∙◌, ap}
use mathlib.Core.Bool.{true, true≢false}
use mathlib.Core.List.{List, [], ◌∷◌}
use mathlib.Core.Option.{Option, none, some}
use lib.ListN.{replicate}
use Rattle.record.specs.declared.Asked as Ask
use Rattle.record.specs.declared.Asked.TheVariants as ask
use Rattle.record.specs.declared.Record.{Record}
use Rattle.record.specs.Refusals.{record_of, first_of}
use Rattle.host.specs.declared.Host.{Host}
use Rattle.answer.specs.declared.Answer.{Answer}
use Rattle.answer.specs.declared.Answer.TheVariants.{Refused}
use Rattle.attributes.specs.declared.Nine.{Nine}
use Rattle.attributes.specs.Flat.{flat_size, spots_size, listed, record_at, nine_of}
use Rattle.chip.specs.declared.Chip.{Chip}
use Rattle.chip.specs.declared.FlatChip.{FlatChip}
use Rattle.chip.specs.Chip.{chip_up}
use Rattle.chip.specs.Flat.{chip_of}
use Rattle.access.specs.declared.Acted.{Acted}
use Rattle.access.specs.Access.{selected_by}
use Rattle.access.specs.Refusals.{rows_of, is_refused, Left}
use Rattle.access.proofs.Refused.{left}
use Rattle.himib.specs.declared.Stepped.{Stepped}
use Rattle.himib.specs.Bursts.{noted_on, burst_on}
use Rattle.himib.specs.Step.{after_access, turned, taken, step_of}
use Rattle.himib.specs.Refusals.{Settled}
use Rattle.himib.specs.Runs.{all_at}
use Rattle.himib.proofs.HimibLaws.{addressed_nobody}
use Rattle.himib.proofs.Computing.{computing}
use Rattle.lent.specs.declared.Rest.{Rest}
use Rattle.lent.specs.Lent.{together, requested, c_write}

-- an address half written, three of its six bytes
abbrev half : Host
half = record { page = 31; register = 14; bytes = 1 ∷ 2 ∷ 3 ∷ 0 ∷ 0 ∷ 0 ∷ []; place = 3; writing = true }

abbrev up : Chip
up = chip_up (all_at 0)

-- the same chip as it is kept
abbrev flat_up : FlatChip
flat_up = record { core = up.core; flat = record { counters = replicate flat_size 0; addresses = replicate spots_size 0 } }

module _ (c : Chip) (h : Host) (k : ℕ) where
  abbrev Keeps : Stepped → Type 0
  Keeps s = s.answer ≡ Refused k → s ≡ turned c h k

  -- what is turned away is kept, and what is answered otherwise is not turned away
  keeps : (o : Option ℕ) (s : Stepped) → Settled o c h s → Keeps s
  keeps none s w e = absurd (true≢false (sym (ap is_refused e) ∙ w))
  keeps (some j) s w e = w ∙ ap (λ (a : Answer). record { chip = c; host = h; answer = a }) (sym (ap (λ (t : Stepped). t.answer) w) ∙ e)

  accesses : (o : Option ℕ) (t : Acted) → Left o c.core h t → Keeps (after_access c.attributes t)
  accesses none t w = keeps none _ w
  accesses (some j) t w =
      keeps (some j) _
      (ap (after_access c.attributes) w
      ∙ ap (λ (nine : Nine). turned (record { core = c.core; attributes = nine }) h j) (addressed_nobody h.bytes c.attributes))

  takes : (asked : Ask.Asked) (source : List ℕ) → Keeps (taken asked source c h)
  unfolding taken noted_on burst_on
  takes (ask.Burst b) source = keeps none _ refl
  takes (ask.Quiet q) source = keeps none _ refl
  takes (ask.Access a) source = accesses (first_of (rows_of a (selected_by h))) _ (left c.core c.attributes h a)
  takes ask.Reset source = keeps none _ refl
  takes (ask.Refused j) source = keeps (some j) _ refl

-- A C write that selects nothing leaves an address half written as it was.
selecting_nothing : ((requested (c_write 0x40) up half).answer ≡ Refused 7) × (requested (c_write 0x40) up half ≡ turned up half 7)
unfolding computing
selecting_nothing = (refl, refl)

-- Whatever is turned away leaves chip and record as they were.
pub kept : (q : Record) (c : Chip) (h : Host) (k : ℕ) → (requested q c h).answer ≡ Refused k → requested q c h ≡ turned c h k
kept q c h k e = takes c h k q.asked q.source e

-- So does a function over the lent record: the record that it leaves is the one that it was lent, and its chip stands for the one that it was given.
left_half : together (record { chip = flat_up; answer = Refused 7 }) half ≡ requested (c_write 0x40) up half
unfolding computing listed record_at nine_of
left_half = refl

pub lent_kept : (q : Record) (c : FlatChip) (h : Host) (r : Rest) (z : Host) (k : ℕ) → together r z ≡ requested q (chip_of c) h → r.answer ≡ Refused k
    → (chip_of r.chip ≡ chip_of c) × (z ≡ h)
lent_kept q c h r z k e d =
    let t : together r z ≡ turned (chip_of c) h k = e ∙ kept q (chip_of c) h k (sym (ap (λ (s : Stepped). s.answer) e) ∙ d) in
    (ap (λ (s : Stepped). s.chip) t, ap (λ (s : Stepped). s.host) t)

-- The same of a whole record, of any bytes: one of 31 bytes is turned away with 9.
a_byte_short : step_of up half (replicate 31 0) ≡ turned up half 9
unfolding computing
a_byte_short = refl

pub step_kept : (c : Chip) (h : Host) (bs : List ℕ) (k : ℕ) → (step_of c h bs).answer ≡ Refused k → step_of c h bs ≡ turned c h k
unfolding step_of
step_kept c h bs k e = kept (record_of bs) c h k e
