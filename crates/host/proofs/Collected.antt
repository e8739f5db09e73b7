-- Document 01, 'Host registers': a write of several bytes takes effect at the last of them; a turn and a C write lose what was
-- written before. Assumes nothing.
use Prim.Native.Nat.{ℕ, zero, suc, ◌+◌, ◌≤◌, ◌<◌}
use mathlib.Core.Path.{◌≡◌, refl, ◌∙◌, ap}
use mathlib.Core.Bool.{Bool, true, false}
use mathlib.Core.List.{List, [], ◌∷◌, ◌++◌}
use native.Mathlib.Omega.{arith}
use native.Mathlib.Numerals.{one-add}
use native.Mathlib.Nat.{add-zero}
use lib.ListN.{length, get_or, set, drop, replicate}
use lib.Seq.{sets, sets-eq}
use Rattle.host.specs.declared.Host.{Host}
use Rattle.host.specs.declared.Writing.{Writing}
use Rattle.host.specs.Sequence.{power_up, with_sequence, selects, selected, place_for, is_last, next_place, read_byte, wrote_byte}
use Rattle.host.specs.InARow.{completions, after_writes}
use Rattle.host.proofs.Places.{next_on, next_over, goes_on, last, not_yet}
use Rattle.host.proofs.Afresh.{turned_to_writing, restarted_by_a_selection}

one_more : (n : ℕ) → replicate n false ++ (false ∷ []) ≡ false ∷ replicate n false
one_more zero = refl
one_more (suc n) = ap (λ (t : List Bool). false ∷ t) (one_more n)

abbrev takes : ℕ → ℕ → Host → ℕ → Writing
takes n b h i = record { host = with_sequence h (set h.bytes i b) (next_place n i) true; complete = is_last n i }

pub write_first : (n b : ℕ) (h : Host) → place_for true n h ≡ 0 → wrote_byte n b h ≡ takes n b h 0
unfolding wrote_byte
write_first n b h e = rw e

pub write_on : (n b : ℕ) (bs : List ℕ) (h : Host) (i : ℕ) → i < n
    → wrote_byte n b (with_sequence h bs i true) ≡ takes n b (with_sequence h bs i true) i
unfolding wrote_byte
write_on n b bs h i u = rw (goes_on n h bs true i u)

-- writes that go on in a sequence
module _ (n : ℕ) (h : Host) where
  on_completions : (i b : ℕ) (bs cs : List ℕ) → i + length bs < n
      → completions n (b ∷ bs) (with_sequence h cs i true) ≡ replicate (length bs) false ++ (is_last n (i + length bs) ∷ [])
  unfolding completions
  on_completions i b [] cs u = rw (write_on n b cs h i (omega arith), add-zero i)
  on_completions i b (d ∷ bs) cs u =
      let e : suc i + length bs ≡ i + suc (length bs) = omega arith in
      rw (write_on n b cs h i (omega arith), not_yet n i (omega arith), next_on n i (omega arith), ← e)
      (ap (λ (t : List Bool). false ∷ t) (on_completions (suc i) d bs (set cs i b) (omega arith)))

  on_host : (i b : ℕ) (bs cs : List ℕ) → i + length bs < n
      → after_writes n (b ∷ bs) (with_sequence h cs i true) ≡ with_sequence h (sets cs i (b ∷ bs)) (next_place n (i + length bs)) true
  unfolding after_writes
  on_host i b [] cs u = rw (add-zero i) (ap (λ (x : Writing). x.host) (write_on n b cs h i (omega arith)))
  on_host i b (d ∷ bs) cs u =
      let e : suc i + length bs ≡ i + suc (length bs) = omega arith in
      rw (write_on n b cs h i (omega arith), next_on n i (omega arith), ← e)
      (on_host (suc i) d bs (set cs i b) (omega arith))

-- Writes in a row from the first byte on, no more than the register has bytes: they stand in the record in their order; none
-- but the last of them can be complete, and that one is exactly if the register has no further byte.
pub record Collected (n b : ℕ) (bs : List ℕ) (h : Host) : Type 0 where
  pub complete : completions n (b ∷ bs) h ≡ replicate (length bs) false ++ (is_last n (length bs) ∷ [])
  pub host : after_writes n (b ∷ bs) h ≡ with_sequence h (sets h.bytes 0 (b ∷ bs)) (next_place n (length bs)) true

-- three bytes of six
three_of_six : (place_for true 6 power_up ≡ 0)
    × (completions 6 (2 ∷ 4 ∷ 6 ∷ []) power_up ≡ false ∷ false ∷ false ∷ [])
    × ((after_writes 6 (2 ∷ 4 ∷ 6 ∷ []) power_up).bytes ≡ 2 ∷ 4 ∷ 6 ∷ 0 ∷ 0 ∷ 0 ∷ [])
unfolding completions after_writes wrote_byte place_for next_place is_last
three_of_six = (refl, refl, refl)

pub collected : (n b : ℕ) (bs : List ℕ) (h : Host) → place_for true n h ≡ 0 → length bs < n → Collected n b bs h
unfolding completions after_writes
collected n b [] h e u =
    record { complete = rw (write_first n b h e); host = ap (λ (x : Writing). x.host) (write_first n b h e) }
collected n b (d ∷ bs) h e u =
    record {
      complete =
          rw (write_first n b h e, not_yet n 0 (omega arith), next_on n 0 (omega arith), ← (one-add (length bs)))
          (ap (λ (t : List Bool). false ∷ t) (on_completions n h 1 d bs (set h.bytes 0 b) (omega arith)));
      host =
          rw (write_first n b h e, next_on n 0 (omega arith), ← (one-add (length bs)))
          (on_host n h 1 d bs (set h.bytes 0 b) (omega arith));
    }

-- Fewer writes than the register has bytes are not complete.
pub fewer : (n : ℕ) (bs : List ℕ) (h : Host) → place_for true n h ≡ 0 → length bs < n → completions n bs h ≡ replicate (length bs) false
unfolding completions
fewer n [] h e u = refl
fewer n (b ∷ bs) h e u =
    (collected n b bs h e (omega arith)).complete ∙ rw (not_yet n (length bs) (omega arith)) (one_more (length bs))

-- As many writes as the register has bytes are complete exactly at the last; the record then begins with the written bytes,
-- in their order, and the sequence is at its first byte again.
pub record Written (n b : ℕ) (bs : List ℕ) (h : Host) : Type 0 where
  pub complete : completions n (b ∷ bs) h ≡ replicate (length bs) false ++ (true ∷ [])
  pub host : after_writes n (b ∷ bs) h ≡ with_sequence h ((b ∷ bs) ++ drop n h.bytes) 0 true

-- the six bytes of an address, and the one of a command
an_address : (completions 6 (2 ∷ 0 ∷ 0 ∷ 7 ∷ 8 ∷ 9 ∷ []) power_up ≡ false ∷ false ∷ false ∷ false ∷ false ∷ true ∷ [])
    × ((after_writes 6 (2 ∷ 0 ∷ 0 ∷ 7 ∷ 8 ∷ 9 ∷ []) power_up).bytes ≡ 2 ∷ 0 ∷ 0 ∷ 7 ∷ 8 ∷ 9 ∷ [])
unfolding completions after_writes wrote_byte place_for next_place is_last
an_address = (refl, refl)

a_command : (completions 1 (0x1f ∷ []) power_up ≡ true ∷ []) × (get_or (after_writes 1 (0x1f ∷ []) power_up).bytes 0 0 ≡ 0x1f)
unfolding completions after_writes wrote_byte place_for next_place is_last
a_command = (refl, refl)

pub written_at_the_last : (n b : ℕ) (bs : List ℕ) (h : Host) → place_for true n h ≡ 0 → n ≤ length h.bytes → n ≡ suc (length bs)
    → Written n b bs h
written_at_the_last n b bs h e f s =
    let k = collected n b bs h e (omega arith) in
    let q : 0 + suc (length bs) ≡ n = omega arith in
    record {
      complete = k.complete ∙ rw (← (last n (length bs) (omega arith)));
      host = k.host ∙ rw (next_over n (length bs) (omega arith), sets-eq (b ∷ bs) h.bytes 0 (omega arith), q);
    }

-- A read between the writes, and a C write, lose what was written before: however many bytes were written, after it fewer
-- writes than the register has bytes are not complete.
abbrev five : Host
five = after_writes 6 (1 ∷ 2 ∷ 3 ∷ 4 ∷ 5 ∷ []) power_up

five_and_one : (completions 6 (9 ∷ []) five ≡ true ∷ [])
    × (completions 6 (9 ∷ []) (read_byte 6 (replicate 6 0) five).host ≡ false ∷ [])
    × (completions 6 (9 ∷ []) (selected 0xee five) ≡ false ∷ [])
unfolding completions after_writes read_byte wrote_byte selected place_for next_place is_last
five_and_one = (refl, refl, refl)

pub lost_by_a_read : (n m : ℕ) (v bs : List ℕ) (h : Host) → length bs < n
    → completions n bs (read_byte m v h).host ≡ replicate (length bs) false
lost_by_a_read n m v bs h u = fewer n bs (read_byte m v h).host (turned_to_writing n m v h) u

pub lost_by_a_selection : (n b : ℕ) (bs : List ℕ) (h : Host) → selects b ≡ true → length bs < n
    → completions n bs (selected b h) ≡ replicate (length bs) false
lost_by_a_selection n b bs h e u = fewer n bs (selected b h) (restarted_by_a_selection true n b h e) u
