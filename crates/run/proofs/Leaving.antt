-- What `answer_block` and the moving of the bytes that are left come to together. Assumes nothing.
--   three_left   == a tick and three bytes more, computed
--   moved_front  == these bytes, moved to the front of the buffer
--   behind_at    == the bytes of the input behind the place at
--   nothing_lost == the whole records are answered, and the bytes behind them stand at the front
--   whole_buffer == the program's buffers are as long as Kept says
use Prim.Native.Nat.{ℕ, ◌+◌, ◌-◌, ◌≤◌, ◌<◌}
use mathlib.Core.Path.{◌≡◌, refl, sym, ap, ◌∙◌}
use mathlib.Core.List.{List, [], ◌∷◌, ◌++◌}
use native.Mathlib.Omega.{arith}
use lib.Dec.{lit<}
use lib.ListN.{length, take, drop, replicate, length-drop}
use lib.Seq.{length-take-le, take-add, drop_at, take-paste}
use Rattle.std.specs.List.{copy_within}
use Rattle.record.specs.Record.{record_length}
use Rattle.answer.specs.Text.{ascii}
use Rattle.answer.specs.Numerals.{numeral, decimal}
use Rattle.answer.specs.Line.{said_of, tail_of, line_of}
use Rattle.answer.specs.Put.{has_room, laid, after_line, with_line}
use Rattle.ports.specs.Each.{each}
use Rattle.attributes.specs.Flat.{flat_size, spots_size}
use Rattle.himib.specs.Runs.{happening, start, all_at}
use Rattle.himib.proofs.Computing.{computing}
use Rattle.block.specs.Block.{Work, Answered, after_record, worked, block_of}
use Rattle.opening.specs.declared.State.{State}
use Rattle.run.specs.declared.Done.{Done}
use Rattle.run.specs.declared.TheConstants.{BUFFER}
use Rattle.run.specs.Kept.{buffer_length, standing, work_of, Kept}

-- A TICK AND THREE BYTES

abbrev input : List ℕ
input = 3 ∷ replicate 31 0 ++ (7 ∷ 8 ∷ 9 ∷ [])

abbrev lines : List ℕ
lines = replicate 64 46

abbrev done : Work
done = block_of (start (all_at 0)) 1 input lines

abbrev at_first : State
at_first = record {
  chip = record { core = (start (all_at 0)).chip.core; flat = record { counters = replicate flat_size 0; addresses = replicate spots_size 0 } };
  host = (start (all_at 0)).host;
  number = 1;
}

-- a tick moves the core, and no counter
abbrev after : State
after = record { chip = record { core = done.point.chip.core; flat = at_first.chip.flat }; host = done.point.host; number = 2 }

-- one record is taken and gets its line, and the three bytes that are left stand at the front, whatever is behind them
three_left : Kept at_first input lines (record { state = after; left = 3; used = 5 }) (7 ∷ 8 ∷ 9 ∷ replicate 7 0) (ascii "1 ok\n" ++ replicate 59 46)
unfolding computing each happening block_of worked after_record has_room laid after_line with_line line_of tail_of said_of numeral decimal
three_left = record { is = refl; kept = refl; low = lit< tt; fits = omega arith }

-- IN GENERAL

pub moved_front : (buf : List ℕ) (at total : ℕ) → at ≤ total → total ≤ length buf → take (total - at) (copy_within buf at total 0) ≡ take (total - at) (drop at buf)
moved_front buf at total l u =
    let n : total - at ≡ 0 + (total - at) = omega arith in
    ap (λ (k : ℕ). take k (copy_within buf at total 0)) n ∙ take-paste buf 0 (drop at buf) (total - at) (omega arith) (omega (arith, length-drop at buf))

behind_at : (buf : List ℕ) (at total : ℕ) → at ≤ total → total ≤ length buf → drop at (take total buf) ≡ take (total - at) (drop at buf)
behind_at buf at total l u =
    let k : total ≡ at + (total - at) = omega arith in
    ap (λ (n : ℕ). drop at (take n buf)) k
    ∙ ap (drop at) (take-add at (total - at) buf)
    ∙ drop_at (take at buf) (take (total - at) (drop at buf)) at (length-take-le at buf (omega arith))

module _ (s : State) (buf out after new : List ℕ) (total at : ℕ) (d : Done) where
  pub nothing_lost : total ≤ length buf → length buf ≡ length out → d.left ≡ total - at
      → Answered (standing s) s.number (take (total - 0) buf) out (work_of d at new)
      → take d.left after ≡ take d.left (drop at buf)
      → Kept s (take total buf) out d after new
  nothing_lost u e f b m =
      let z : total - 0 ≡ total = omega arith in
      let a : Answered (standing s) s.number (take total buf) out (work_of d at new) = rw z at b in
      let n : length (take total buf) ≡ total = length-take-le total buf u in
      let l : at ≤ total = rw n at a.inside in
      let k : length (take total buf) - d.left ≡ at = rw (n, f) (omega arith) in
      let low : length (take total buf) - at < record_length = a.all (rw n (omega arith)) in
      record {
        is = ap (λ (p : ℕ). work_of d p new) k ∙ a.is;
        kept = m ∙ rw f (sym (behind_at buf at total l u)) ∙ ap (λ (p : ℕ). drop p (take total buf)) (sym k);
        low = rw f (rw n at low);
        fits = a.fits;
      }

pub whole_buffer : BUFFER ≡ buffer_length
whole_buffer = refl
