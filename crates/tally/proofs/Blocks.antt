-- Blocks of input, one after the other, come to what all their bytes together come to. Assumes nothing.
--   onward_append  == whole records and then other bytes, taken in two goes
--   blocks_are_one == the theorem
use Prim.Native.Nat.{ℕ, zero, suc, ◌+◌, ◌*◌, ◌/◌, ◌%◌, ◌≤◌, ◌<◌}
use mathlib.Core.Path.{◌≡◌, refl, sym, ap, ◌∙◌}
use mathlib.Core.List.{List, [], ◌∷◌, ◌++◌}
use native.Mathlib.Omega.{arith}
use lib.ListN.{length, take, drop, length-append, length-drop}
use lib.Seq.{take-append-le, drop-append-le}
use Rattle.record.specs.Record.{record_length}
use Rattle.himib.specs.Runs.{happening}
use Rattle.tally.specs.Tally.{Tally, refusal}
use Rattle.tally.specs.Blocks.{begun, onward, blocks_of, AllWhole, joined, BlocksAreOne}
use Rattle.tally.proofs.TallyLaws.{onward_none, onward_next, onward_begun}

onward_append : (k : ℕ) (w : Tally) (bs cs : List ℕ) → length bs ≡ record_length * k → onward (onward w bs) cs ≡ onward w (bs ++ cs)
onward_append zero w [] cs h = ap (λ (t : Tally). onward t cs) (onward_none w [] refl)
onward_append zero w (x ∷ bs) cs h = absurd (omega arith)
onward_append (suc k) w bs cs h =
    let long : record_length ≤ length bs = omega arith in
    let some : 0 < length bs = omega arith in
    let more : 0 < length (bs ++ cs) = rw (length-append bs cs) (omega (arith, some)) in
    let less : length (drop record_length bs) ≡ record_length * k = length-drop record_length bs ∙ omega arith in
    let with : List ℕ → Tally = λ r. record { point = (happening w.point r).after; refused = w.refused + refusal (happening w.point r).answer } in
    ap (λ (t : Tally). onward t cs) (onward_next w bs some) ∙ onward_append k (with (take record_length bs)) (drop record_length bs) cs less
    ∙ ap (onward (with (take record_length bs))) (sym (drop-append-le record_length bs cs long))
    ∙ ap (λ (r : List ℕ). onward (with r) (drop record_length (bs ++ cs))) (sym (take-append-le record_length bs cs long)) ∙ sym (onward_next w (bs ++ cs) more)

blocks_on : (w : Tally) (bss : List (List ℕ)) (last : List ℕ) → AllWhole bss → blocks_of w (bss ++ (last ∷ [])) ≡ onward w (joined bss last)
unfolding blocks_of
blocks_on w [] last h = refl
blocks_on w (bs ∷ bss) last h =
    let e : length bs % record_length ≡ 0 = h.0 in
    blocks_on (onward w bs) bss last h.1 ∙ onward_append (length bs / record_length) w bs (joined bss last) (omega (arith, e))

pub blocks_are_one : BlocksAreOne
blocks_are_one p bss last h = blocks_on (begun p) bss last h ∙ onward_begun p (joined bss last)
