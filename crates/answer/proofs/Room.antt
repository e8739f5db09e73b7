-- Whether there is room for a line, and what follows. Assumes nothing.
--   room, past_end, short_of_room == the three cases
--   written, unwritten == what `put_line` shows with room and without
use Prim.Native.Nat.{ℕ, ◌+◌, ◌-◌, ◌^◌, ◌≤◌, ◌<◌}
use mathlib.Core.Path.{◌≡◌, ◌∙◌}
use mathlib.Core.Bool.{true, false}
use mathlib.Core.List.{List}
use native.Mathlib.Omega.{arith}
use borrow.Author.Tests.{le-leb, lt-leb}
use lib.ListN.{length}
use lib.Seq.{sets-eq}
use Rattle.answer.specs.declared.Answer.{Answer}
use Rattle.answer.specs.Answer.{number_of}
use Rattle.answer.specs.Line.{line_of}
use Rattle.answer.specs.Put.{Put, WrittenLine, has_room, laid, after_line, with_line}
use Rattle.answer.proofs.Lengths.{line_length_le}

pub room : (old : List ℕ) (at : ℕ) → at ≤ length old → 32 ≤ length old - at → has_room old at ≡ true
unfolding has_room
room old at h k = simp (le-leb _ _ h, le-leb _ _ k)

pub past_end : (old : List ℕ) (at : ℕ) → length old < at → has_room old at ≡ false
unfolding has_room
past_end old at h = simp (lt-leb _ _ h)

pub short_of_room : (old : List ℕ) (at : ℕ) → at ≤ length old → length old - at < 32 → has_room old at ≡ false
unfolding has_room
short_of_room old at h k = simp (le-leb _ _ h, lt-leb _ _ k)

pub written : {old mid new : List ℕ} {at n r : ℕ} {a : Answer} → at ≤ length old → 32 ≤ length old - at → n < 2 ^ 64 → number_of a < 256
    → Put old at (line_of n a) mid r → new ≡ mid → WrittenLine old at n a new r
unfolding after_line with_line laid
written {old} {mid} {new} {at} {n} {r} {a} h k m l p e =
    let yes : has_room old at ≡ true = room old at h k in
    let short : length (line_of n a) ≤ 29 = line_length_le n a m l in
    let inside : at + length (line_of n a) ≤ length old = omega arith in
    record { next = rw yes p.next; bytes = rw yes (e ∙ p.bytes ∙ sets-eq (line_of n a) old at inside); short = omega (arith, p.next) }

pub unwritten : (old : List ℕ) (at n : ℕ) (a : Answer) → has_room old at ≡ false → WrittenLine old at n a old at
unfolding after_line with_line
unwritten old at n a full = record { next = rw full; bytes = rw full; short = omega arith }
