-- Lines of `tell`, computed: four of document 01's sample run, and a partition. What they say was worked out by hand from document 01. Assumes nothing.
--   heard    == record 5, a frame at TP0 while the link of TP1 passes: Readable Frames and Readable Octets of TP0 moved, and Total Octets
--   selected == record 7: P 16 and R 0 are selected
--   collided == record 9, TP0 and TP1 at once: Collisions of both moved, and Transmit Collisions
--   refused  == record 10, a tick with a mask: nothing moved
--   cut      == a long collision partitions TP0 and TP1, their change bits are one, and the interrupt is
--   longest_has, just_room, no_room == the longest line; a line behind another where there is just room, and where a byte is lacking
use Prim.Native.Nat.{ℕ, ◌-◌, ◌^◌}
use mathlib.Core.Path.{◌≡◌, refl}
use mathlib.Core.List.{List, [], ◌∷◌, ◌++◌}
use native.Mathlib.Omega.{arith}
use lib.ListN.{length, take, get_or, replicate}
use Rattle.answer.specs.declared.Answer.TheVariants.{Refused}
use Rattle.answer.specs.Text.{ascii}
use Rattle.answer.specs.Numerals.{numeral, decimal}
use Rattle.answer.specs.Line.{said_of}
use Rattle.answer.specs.Put.{laid}
use Rattle.record.specs.Records.{no_address, burst_record, pulse_record, c_write_record, d_write_record}
use Rattle.himib.specs.Runs.{Happening, happening, run, run_of, start, all_at}
use Rattle.himib.specs.Sheet.{sample}
use Rattle.himib.proofs.Computing.{computing}
use Rattle.telling.specs.Telling.{spoken, spelt, told_as, moved_of, words_of, tell_of, longest, roomy, Wrote}

-- what happens to the record behind the first n
abbrev behind : ℕ → List (List ℕ) → Happening
behind n records = happening (run (start (all_at 0)) (take n records)) (get_or records n [])

pub heard : tell_of 5 (behind 4 sample)
    ≡ ascii "5 rep 102 1ff 003 000 000 000 003 000 000 000 000 000 000 000 001 001 000 000 000 000 000 000 000 000 000 000 000 000 001\n"
unfolding computing happening run_of numeral decimal said_of spoken spelt told_as moved_of words_of tell_of
heard = refl

pub selected : tell_of 7 (behind 6 sample)
    ≡ ascii "7 ok 1ff 003 000 000 000 003 000 000 000 000 000 010 000 000 000 000 000 000 000 000 000 000 000 000 000 000 000 000\n"
unfolding computing happening run_of numeral decimal said_of spoken spelt told_as moved_of words_of tell_of
selected = refl

pub collided : tell_of 9 (behind 8 sample)
    ≡ ascii "9 jam 103 1ff 003 000 000 000 003 000 000 000 000 000 010 000 000 000 000 000 000 000 000 003 000 000 000 000 000 001 000\n"
unfolding computing happening run_of numeral decimal said_of spoken spelt told_as moved_of words_of tell_of
collided = refl

pub refused : tell_of 10 (behind 9 sample)
    ≡ ascii "10 ref 8 1ff 003 000 000 000 003 000 000 000 000 000 010 000 000 000 000 000 000 000 000 000 000 000 000 000 000 000 000\n"
unfolding computing happening run_of numeral decimal said_of spoken spelt told_as moved_of words_of tell_of
refused = refl

-- all enables of R 0 are set, and then the two ports collide for 1025 bit times
abbrev partition : List (List ℕ)
partition = replicate 4 (pulse_record 3) ++ (c_write_record 0x02 ∷ c_write_record 0xe0 ∷ d_write_record 0xff ∷ burst_record 3 0 2000 0 0 0 1025 no_address ∷ [])

pub cut : tell_of 8 (behind 7 partition)
    ≡ ascii "8 jam 103 1ff 003 003 003 000 003 000 000 000 000 080 002 000 000 000 000 000 000 000 000 003 000 000 000 003 000 001 000\n"
unfolding computing happening run_of numeral decimal said_of spoken spelt told_as moved_of words_of tell_of
cut = refl

pub longest_has : length (told_as (2 ^ 64 - 1) (Refused 255) (replicate 28 0)) ≡ longest
unfolding numeral decimal said_of spoken spelt told_as
longest_has = refl

pub just_room : Wrote (ascii "1 ok\n" ++ replicate 141 46) 5 (ascii "2 ok\n") (ascii "1 ok\n2 ok\n" ++ replicate 136 46) 10
unfolding laid roomy
just_room = record { next = refl; bytes = refl; short = omega arith }

pub no_room : Wrote (ascii "1 ok\n" ++ replicate 140 46) 5 (ascii "2 ok\n") (ascii "1 ok\n" ++ replicate 140 46) 5
unfolding roomy
no_room = record { next = refl; bytes = refl; short = omega arith }
