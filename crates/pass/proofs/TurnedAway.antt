-- Demand 1: what is turned away changes nothing; and any two outcomes that an equation allows are one. Assumes nothing.
--   host_left == on a run: what is not accepted leaves the host's record as it was
use Prim.Native.Nat.{ℕ}
use mathlib.Core.Path.{◌≡◌, refl, sym, subst, ◌∙◌}
use mathlib.Core.Bool.{true, false, true≢false}
use mathlib.Core.List.{List, [], ◌∷◌}
use lib.ListN.{replicate}
use Rattle.host.specs.declared.Host.{Host}
use Rattle.answer.specs.declared.Answer.{Answer}
use Rattle.answer.specs.declared.Answer.TheVariants.{Done, Sent, Value, Refused}
use Rattle.answer.specs.Answer.{number_of}
use Rattle.chip.specs.declared.Chip.{Chip}
use Rattle.himib.specs.declared.Stepped.{Stepped}
use Rattle.himib.specs.Step.{turned, step_of}
use Rattle.himib.proofs.Refused.{refused_untouched}
use Rattle.himib.specs.Runs.{Point, happening, accepted, counter_at, run_of}
use Rattle.pass.specs.Judged.{happens, run}
use Rattle.pass.specs.Pass.{TurnedAwayIsStill, OneOutcome}
use Rattle.record.specs.Records.{burst_record, no_address, pulse_record, plain_record, c_write_record, d_write_record, d_read_record}
use Rattle.pass.specs.Examples.{up}
use Rattle.pass.proofs.Computing.{step_computes}

-- INSTANCE

-- One refusal of each number but 10, which is the octet check's. The chip has a frame behind it, and the host's record is three bytes into a write of TP0's
-- address when it meets the first six; for the others a register that is not listed, and S, are selected.
abbrev written : Point
written =
    run up
    (burst_record 256 0 1000 64 0 0 0 no_address ∷ c_write_record 0x10 ∷ c_write_record 0xee ∷ d_write_record 1 ∷ d_write_record 2 ∷ d_write_record 3 ∷ [])

abbrev unlisted : Point
unlisted = run written (c_write_record 0x03 ∷ [])

abbrev setting : Point
setting = run written (c_write_record 0x00 ∷ c_write_record 0xfe ∷ [])

abbrev turned_from : Point → ℕ → Stepped
turned_from p k = turned p.chip p.host k

abbrev meets : Point → List ℕ → Stepped
meets p bs = step_of p.chip p.host bs

three_bytes : (written.host.place ≡ 3) × (counter_at 8 0 written ≡ 1)
unfolding step_computes happening run_of
three_bytes = (refl {a = 3}, refl {a = 1})

-- the bytes alone decide the first six, wherever they are met
abbrev Six : Point → Type 0
Six p = (meets p (replicate 31 0) ≡ turned_from p 9)
    × (meets p (plain_record 9 0 0) ≡ turned_from p 8)
    × (meets p (pulse_record 0x100) ≡ turned_from p 3)
    × (meets p (burst_record 1 0 511 64 0 0 0 no_address) ≡ turned_from p 2)
    × (meets p (burst_record 0 0 1000 64 0 0 0 no_address) ≡ turned_from p 1)
    × (meets p (c_write_record 0x20) ≡ turned_from p 7)

six : (p : Point) → Six p
unfolding step_computes
six p = (refl, refl, refl, refl, refl, refl)

-- the host's record decides the others, on any chip: P 3 R 14 is selected, which is not listed, or P 0 R 30, which is S
abbrev copy : List ℕ
copy = 1 ∷ 2 ∷ 3 ∷ 0 ∷ 0 ∷ 0 ∷ []

abbrev selecting : Chip → ℕ → ℕ → Point
selecting s page register = record { chip = s; host = record { page = page; register = register; bytes = copy; place = 0; writing = true } }

abbrev Fifth : Point → Type 0
Fifth p = meets p d_read_record ≡ turned_from p 5

abbrev Others : Point → Type 0
Others p = (meets p d_read_record ≡ turned_from p 6) × (meets p (d_write_record 0) ≡ turned_from p 4)

by_selection : (s : Chip) → Fifth (selecting s 3 14) × Others (selecting s 0 30)
unfolding step_computes
by_selection s = (refl, (refl, refl))

selected : ((selecting unlisted.chip 3 14).host ≡ unlisted.host) × ((selecting setting.chip 0 30).host ≡ setting.host)
unfolding step_computes happening run_of
selected = (refl, refl)

abbrev beside : Point → Host → Point
beside p h = record { chip = p.chip; host = h }

each_number : Six written × Fifth unlisted × Others setting
each_number = (
  six written,
  subst (λ (h : Host). Fifth (beside unlisted h)) selected.0 (by_selection unlisted.chip).0,
  subst (λ (h : Host). Others (beside setting h)) selected.1 (by_selection setting.chip).1,
)

-- THE THEOREMS

pub turned_away_is_still : TurnedAwayIsStill
turned_away_is_still s h bs k e = let u = refused_untouched s h bs k e in (u.chip, u.host, u.outputs, u.value)

not_accepted : (a : Answer) → accepted a ≡ false → a ≡ Refused (number_of a)
unfolding accepted
not_accepted Done e = absurd (true≢false e)
not_accepted (Sent w out) e = absurd (true≢false e)
not_accepted (Value v) e = absurd (true≢false e)
not_accepted (Refused k) e = refl

pub host_left : (p : Point) (r : List ℕ) → accepted (happens p r).answer ≡ false → (happens p r).after.host ≡ p.host
unfolding happening
host_left p r e = let a = (step_of p.chip p.host r).answer in (turned_away_is_still p.chip p.host r (number_of a) (not_accepted a e)).1

pub one_outcome : OneOutcome
one_outcome A defined one other p q = p ∙ sym q
