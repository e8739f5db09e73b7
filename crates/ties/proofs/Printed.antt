-- What the program prints is decided by the start file and by the bytes read. Assumes nothing.
--   three_told      == what the past says of the records that `two_readings` of Program reads
--   six_given       == a start file gives addresses of six bytes; so do zeros
--   printed_by_past == the statement
use Prim.Native.Nat.{ℕ, zero, suc, ◌+◌, ◌*◌, ◌<◌}
use mathlib.Core.Path.{◌≡◌, refl, ap, subst, ◌∙◌}
use mathlib.Core.Bool.{Bool, true, false, cond}
use mathlib.Core.List.{List, [], ◌∷◌}
use lib.Dec.{eqb}
use lib.ListN.{length, get_or, replicate}
use Rattle.ports.specs.Sets.{port_count}
use Rattle.ports.proofs.Each.{each_length}
use Rattle.record.specs.Records.{tick_record}
use Rattle.answer.specs.declared.Answer.TheVariants.{Done, Refused}
use Rattle.answer.specs.Line.{lines_of}
use Rattle.attributes.specs.Nine.{no_attributes, address_of}
use Rattle.attributes.proofs.NineLaws.{address_alike, address_with_port}
use Rattle.himib.specs.Runs.{Point, start, address_at}
use Rattle.lent.specs.Lists.{cut}
use Rattle.start.specs.Start.{address_from, port_from, nine_up_to, fits_in, supply_in, port_size}
use Rattle.past.specs.Answers.{answers_by}
use Rattle.past.specs.Sheet.{all_at}
use Rattle.past.proofs.Computing.{telling}
use Rattle.alone.specs.Alone.{Supplied}
use Rattle.alone.proofs.ShownByPast.{all_answers_by_past}
use Rattle.ties.specs.Program.{Turns, bytes_of, begun, given_by}
use Rattle.ties.specs.Printed.{PrintedByPast}
use Rattle.ties.proofs.Program.{nine_proper, readings_are_a_run, start_is_given}

-- a tick, 32 zeros, and three bytes
three_told : answers_by (all_at 0) [] (tick_record ∷ replicate 32 0 ∷ (1 ∷ 2 ∷ 3 ∷ []) ∷ []) ≡ Done ∷ Refused 8 ∷ Refused 9 ∷ []
unfolding telling
three_told = refl

module _ (s : List ℕ) (bytes : (i : ℕ) → get_or s i 0 < 256) where
  six_from : (i : ℕ) → length (address_from s i) ≡ 6
  unfolding address_from
  six_from i = each_length {A = ℕ} {B = ℕ} (λ j none. get_or s (i + j) 0) (replicate 6 0)

  six_up_to : (n i : ℕ) → i < port_count → length (address_of (nine_up_to s n) i) ≡ 6
  unfolding nine_up_to port_from
  six_up_to zero i l = ap length (address_alike no_attributes i l)
  six_up_to (suc n) i l =
      ap length (address_with_port (nine_up_to s n) n (port_from s (port_size * n)) (nine_proper s bytes n) i l) ∙ go (eqb n i) (six_up_to n i l)
    where
      go : (b : Bool) → length (address_of (nine_up_to s n) i) ≡ 6 → length (cond b (port_from s (port_size * n)).address (address_of (nine_up_to s n) i)) ≡ 6
      go true six = six_from _
      go false six = six

  six_given : (i : ℕ) → i < 9 → length (address_at i (start (given_by s))) ≡ 6
  unfolding supply_in
  six_given i l = go (fits_in s) refl
    where
      go : (b : Bool) → fits_in s ≡ b → length (address_at i (start (given_by s))) ≡ 6
      go true e = rw e (six_up_to port_count i l)
      go false e = rw e (ap length (address_alike no_attributes i l))

  supplied : Supplied (given_by s)
  supplied = record { given_proper = (start_is_given s bytes).1; six = six_given }

pub printed_by_past : PrintedByPast
printed_by_past s bytes rs t out turns few room =
    let g = start_is_given s bytes in
    let turned : Turns (begun (start (given_by s))) rs t = subst (λ (p : Point). Turns (begun p) rs t) g.0 turns in
    (readings_are_a_run (start (given_by s)) rs t out turned few room).printed
    ∙ ap (lines_of 1) (all_answers_by_past (given_by s) (supplied s bytes) (cut (bytes_of rs)))
