-- What a line of `tell` says. Assumes nothing.
--   same_answer  == it begins with the line of the run program
--   one_told     == two outcomes that `tell` allows are equal
--   as_c_reads   == its word for interrupt and interface error is the byte that a C read of the same chip gives
--   moved_where  == a port is in the word of a counter exactly if that counter of it differs
use Prim.Native.Nat.{ℕ, ◌+◌, ◌-◌, ◌<◌}
use mathlib.Core.Path.{◌≡◌, refl, sym, ap, ap₂, ◌∙◌}
use mathlib.Core.List.{List, [], ◌∷◌, ◌++◌}
use native.Mathlib.Omega.{arith}
use lib.ListN.{length, length-append}
use lib.Seq.{take_at}
use Rattle.ports.specs.Sets.{port_count, has}
use Rattle.ports.proofs.Sets.{has_gather}
use Rattle.host.specs.declared.Host.{Host}
use Rattle.answer.specs.declared.Answer.TheVariants.{Value}
use Rattle.answer.specs.Line.{newline, line_of}
use Rattle.attributes.specs.declared.Nine.{Nine}
use Rattle.attributes.specs.Nine.{counter_of}
use Rattle.chip.specs.declared.Core.{Core}
use Rattle.chip.specs.declared.FlatChip.{FlatChip}
use Rattle.chip.proofs.FlatLaws.{chip_one}
use Rattle.access.specs.Access.{c_read_of}
use Rattle.himib.specs.Runs.{Point}
use Rattle.telling.specs.declared.Told.{Told}
use Rattle.telling.specs.Telling.{spoken, spelt, told_as, differ, moved_of, status_of, words_of, tell_of, OneTold, SameAnswer}
use Rattle.telling.proofs.TellingLaws.{said_line}

abbrev told : FlatChip → Host → ℕ → Told
told c h next = record { chip = c; host = h; next = next }

pub one_told : OneTold
one_told s h n bs old place t u x y m k p q =
    let e = p.after ∙ sym q.after in (
      ap (λ (c : FlatChip). told c t.host t.next) (chip_one t.chip u.chip m k (ap (λ (p : Point). p.chip) e))
          ∙ ap₂ (told u.chip) (ap (λ (p : Point). p.host) e) (p.wrote.next ∙ sym q.wrote.next),
      p.wrote.bytes ∙ sym q.wrote.bytes,
    )

pub same_answer : SameAnswer
unfolding tell_of told_as
same_answer n h =
    let front : List ℕ = spoken n h.answer in
    let k : length front ≡ length (line_of n h.answer) - 1 =
    rw (said_line n h.answer) (omega (arith, length-append front (newline ∷ []))) in
    ap (λ (l : List ℕ). l ++ (newline ∷ []))
    (take_at front (spelt (words_of h.before.chip h.after.chip h.after.host) ++ (newline ∷ [])) (length (line_of n h.answer) - 1) k)
    ∙ sym (said_line n h.answer)

pub as_c_reads : (c : Core) (h : Host) → (c_read_of c h).answer ≡ Value (status_of c)
unfolding c_read_of
as_c_reads c h = refl

pub moved_where : (before after : Nine) (r i : ℕ) → i < port_count → has (moved_of before after r) i ≡ differ (counter_of before i r) (counter_of after i r)
unfolding moved_of
moved_where before after r i h = has_gather 9 (λ i. differ (counter_of before i r) (counter_of after i r)) i h
