-- All readings of the program are one run from power-up, and what is promised of such runs is promised of what it prints. Assumes nothing.
--   one, other, two_turned, two_readings == an instance that computes: two readings, what is asked of them, and what they print
--   cut_more, cut_front, records_more == cutting longer bytes into records
--   Stood p bytes s == s is where the run of the whole records of these bytes stands, the rest of them kept
--   readings_are_a_run, start_is_given, promises_are_printed == the statements
use Prim.Native.Nat.{ℕ, zero, suc, ◌+◌, ◌*◌, ◌-◌, ◌/◌, ◌%◌, ◌^◌, ◌≤◌, ◌<◌}
use mathlib.Core.Path.{◌≡◌, refl, sym, ap, ap₂, subst, ◌∙◌}
use mathlib.Core.Bool.{Bool, true, false, cond}
use mathlib.Core.List.{List, [], ◌∷◌, ◌++◌, append_assoc, append-nil}
use native.Mathlib.Omega.{arith}
use borrow.Author.Tests.{le-leb, eq-eqb, ne_eqb, eqb-true, eqb-false}
use lib.Dec.{eqb, leb}
use lib.ListN.{length, get_or, take, drop, replicate, length-append, length-drop}
use lib.Seq.{drop-drop, drop-nil, take_all, take-append-le, drop-append-le}
use Rattle.ports.proofs.Each.{each_length, each_at}
use Rattle.ports.specs.Sets.{port_count}
use Rattle.record.specs.Record.{record_length}
use Rattle.host.specs.Sequence.{power_up}
use Rattle.answer.specs.declared.Answer.{Answer}
use Rattle.answer.specs.Line.{line_of, lines_of, said_of, tail_of}
use Rattle.answer.specs.Put.{has_room, laid, after_line, with_line}
use Rattle.answer.proofs.Lines.{lines_append, front}
use Rattle.attributes.specs.Nine.{counter_count, Proper, nothing_counted}
use Rattle.attributes.proofs.NineLaws.{proper_nothing, proper_with_port}
use Rattle.chip.specs.declared.Supply.{Supply}
use Rattle.record.specs.Records.{tick_record}
use Rattle.answer.specs.declared.Answer.TheVariants.{Done, Refused}
use Rattle.answer.specs.Text.{ascii}
use Rattle.answer.specs.Numerals.{numeral, decimal}
use Rattle.himib.proofs.Computing.{computing}
use Rattle.pass.specs.Examples.{up}
use Rattle.himib.specs.Runs.{Point, Happening, at, start, Given, history_of, run_of, answers_in, happening}
use Rattle.himib.proofs.Runs.{run_on, history_on}
use Rattle.block.specs.Block.{Work, after_record, worked, block_of}
use Rattle.lent.specs.Lists.{pieces, cut_off, cut}
use Rattle.pass.specs.Judged.{happens, history, run}
use Rattle.start.specs.Start.{port_size, collisions_from, octets_from, number_from, counters_from, port_from, nine_up_to, fits_in, supply_in, nothing_given, started_with, started_of}
use Rattle.ties.specs.Ties.{records_in, Ran}
use Rattle.ties.specs.Program.{Standing, Reading, input_of, Turn, Turns, bytes_of, begun, last_answer, printed_at, OneRun, ReadingsAreARun}
use Rattle.ties.specs.Program.{given_by, StartIsGiven, PromisesArePrinted}
use Rattle.ties.proofs.Ties.{ran, cut_length}

-- INSTANCE

-- a tick, as many zeros as a record has bytes, and three bytes more, in two readings that cut the zeros in two, from power-up: three lines are printed, the
-- last for the piece of three bytes
abbrev zeros : List ℕ
zeros = replicate record_length 0

abbrev dots : List ℕ
dots = replicate 64 46

abbrev one : Reading
one = record {
  bytes = tick_record ++ replicate 8 0;
  out = dots;
  after = record { point = run up (tick_record ∷ []); number = 2; kept = replicate 8 0; printed = ascii "1 ok\n" };
}

abbrev other : Reading
other = record {
  bytes = replicate 24 0 ++ (1 ∷ 2 ∷ 3 ∷ []);
  out = dots;
  after = record { point = run up (tick_record ∷ zeros ∷ []); number = 3; kept = 1 ∷ 2 ∷ 3 ∷ []; printed = ascii "1 ok\n2 ref 8\n" };
}

one_turned : Turn (begun up) one
unfolding computing block_of worked after_record has_room laid after_line with_line line_of tail_of said_of numeral decimal happening run_of
one_turned = record {
  work = block_of up 1 (input_of (begun up) one) dots;
  is = refl;
  low = omega arith;
  point = refl;
  number = refl;
  kept = refl;
  printed = refl;
}

other_turned : Turn one.after other
unfolding computing block_of worked after_record has_room laid after_line with_line line_of tail_of said_of numeral decimal happening run_of
other_turned = record {
  work = block_of one.after.point 2 (input_of one.after other) dots;
  is = refl;
  low = omega arith;
  point = refl;
  number = refl;
  kept = refl;
  printed = refl;
}

pub two_turned : Turns (begun up) (one ∷ other ∷ []) other.after
two_turned = (one_turned, (other_turned, refl))

pub two_readings : (printed_at other.after dots ≡ ascii "1 ok\n2 ref 8\n3 ref 9\n")
    × (cut (bytes_of (one ∷ other ∷ [])) ≡ tick_record ∷ zeros ∷ (1 ∷ 2 ∷ 3 ∷ []) ∷ [])
    × (answers_in (history up (tick_record ∷ zeros ∷ (1 ∷ 2 ∷ 3 ∷ []) ∷ [])) ≡ Done ∷ Refused 8 ∷ Refused 9 ∷ [])
unfolding computing has_room laid after_line with_line line_of tail_of said_of numeral decimal cut_off happening history_of run_of printed_at
two_readings = (refl, refl, refl)

-- CUTTING

cut_more : (i j : ℕ) (bs : List ℕ) → cut_off (i + j) bs ≡ cut_off i bs ++ cut_off j (drop (record_length * i) bs)
unfolding cut_off
cut_more zero j bs =
    let e : 0 + j ≡ j = omega arith in
    ap (λ (k : ℕ). cut_off k bs) e
cut_more (suc i) j bs =
    let e : suc i + j ≡ suc (i + j) = omega arith in
    let k : record_length + record_length * i ≡ record_length * suc i = omega arith in
    ap (λ (n : ℕ). cut_off n bs) e
    ∙ ap (λ (l : List (List ℕ)). take record_length bs ∷ l)
    (cut_more i j (drop record_length bs)
    ∙ ap (λ (l : List ℕ). cut_off i (drop record_length bs) ++ cut_off j l) (drop-drop (record_length * i) record_length bs ∙ ap (λ (n : ℕ). drop n bs) k))

cut_front : (i : ℕ) (bs cs : List ℕ) → record_length * i ≤ length bs → cut_off i (bs ++ cs) ≡ cut_off i bs
unfolding cut_off
cut_front zero bs cs h = refl
cut_front (suc i) bs cs h =
    let l : record_length ≤ length bs = omega arith in
    let m : record_length * i ≤ length (drop record_length bs) = simp length-drop (omega arith) in
    ap₂ (λ (x : List ℕ) (xs : List (List ℕ)). x ∷ xs)
    (take-append-le record_length bs cs l)
    (ap (cut_off i) (drop-append-le record_length bs cs l) ∙ cut_front i (drop record_length bs) cs m)

-- the bytes behind the last whole record
abbrev rest : List ℕ → List ℕ
rest bs = drop (record_length * (length bs / record_length)) bs

rest_low : (bs : List ℕ) → length (rest bs) < record_length
rest_low bs = rw (length-drop (record_length * (length bs / record_length)) bs) (omega arith)

rest_length : (bs : List ℕ) → length (rest bs) ≡ length bs % record_length
rest_length bs = length-drop (record_length * (length bs / record_length)) bs ∙ omega arith

module _ (bs cs : List ℕ) where
  rest_on : rest bs ++ cs ≡ drop (record_length * (length bs / record_length)) (bs ++ cs)
  rest_on = sym (drop-append-le (record_length * (length bs / record_length)) bs cs (omega arith))

  count_on : length bs / record_length + length (rest bs ++ cs) / record_length ≡ length (bs ++ cs) / record_length
  count_on = rw (length-append (rest bs) cs, length-append bs cs, rest_length bs) (omega arith)

  records_more : records_in bs ++ records_in (rest bs ++ cs) ≡ records_in (bs ++ cs)
  records_more =
      ap₂ (λ (xs ys : List (List ℕ)). xs ++ ys)
      (sym (cut_front (length bs / record_length) bs cs (omega arith)))
      (ap (cut_off (length (rest bs ++ cs) / record_length)) rest_on)
      ∙ sym (cut_more (length bs / record_length) (length (rest bs ++ cs) / record_length) (bs ++ cs))
      ∙ ap (λ (k : ℕ). cut_off k (bs ++ cs)) count_on

  rest_more : rest (rest bs ++ cs) ≡ rest (bs ++ cs)
  rest_more =
      let k : record_length * (length bs / record_length) + record_length * (length (rest bs ++ cs) / record_length) ≡ record_length * (length (bs ++ cs) / record_length) =
      omega (arith, count_on) in
      ap (drop (record_length * (length (rest bs ++ cs) / record_length))) rest_on
      ∙ drop-drop (record_length * (length (rest bs ++ cs) / record_length)) (record_length * (length bs / record_length)) (bs ++ cs)
      ∙ ap (λ (n : ℕ). drop n (bs ++ cs)) k

-- ANSWERS OF A LONGER RUN

answers_append : (hs gs : List Happening) → answers_in (hs ++ gs) ≡ answers_in hs ++ answers_in gs
answers_append [] gs = refl
answers_append (h ∷ hs) gs = ap (λ (l : List Answer). h.answer ∷ l) (answers_append hs gs)

answers_length : (p : Point) (rs : List (List ℕ)) → length (answers_in (history p rs)) ≡ length rs
unfolding history_of
answers_length p [] = refl
answers_length p (r ∷ rs) = ap suc (answers_length (happens p r).after rs)

abbrev lines_from : ℕ → Point → List (List ℕ) → List ℕ
lines_from n p rs = lines_of n (answers_in (history p rs))

lines_on : (n : ℕ) (p : Point) (rs qs : List (List ℕ)) → lines_from n p rs ++ lines_from (n + length rs) (run p rs) qs ≡ lines_from n p (rs ++ qs)
lines_on n p rs qs =
    ap (λ (k : ℕ). lines_from n p rs ++ lines_from (n + k) (run p rs) qs) (sym (answers_length p rs))
    ∙ sym (lines_append n (answers_in (history p rs)) (answers_in (history (run p rs) qs)))
    ∙ ap (lines_of n) (sym (answers_append (history p rs) (history (run p rs) qs)) ∙ ap answers_in (history_on happens p rs qs))

-- READINGS

record Stood (p : Point) (bytes : List ℕ) (s : Standing) : Type 0 where
  point : s.point ≡ run p (records_in bytes)
  number : s.number ≡ 1 + length bytes / record_length
  kept : s.kept ≡ rest bytes
  printed : s.printed ≡ lines_from 1 p (records_in bytes)

stood_first : (p : Point) → Stood p [] (begun p)
unfolding cut_off run_of history_of lines_of
stood_first p = record { point = refl; number = refl; kept = refl; printed = refl }

module _ (p : Point) (bytes : List ℕ) (s : Standing) (r : Reading) (stood : Stood p bytes s) (t : Turn s r) where
  input : input_of s r ≡ rest bytes ++ r.bytes
  input = ap (λ (l : List ℕ). l ++ r.bytes) stood.kept

  stood_on : length (bytes ++ r.bytes) / record_length + 1 < 2 ^ 64 → Stood p (bytes ++ r.bytes) r.after
  stood_on few =
      let counted = count_on bytes r.bytes in
      let long : length (input_of s r) ≡ length (rest bytes ++ r.bytes) = ap length input in
      let few_here : s.number + length (input_of s r) / record_length < 2 ^ 64 = rw (stood.number, long) (omega (arith, counted, few)) in
      let g : Ran s.point s.number (records_in (input_of s r)) r.out t.work =
      ran s.point s.number (input_of s r) r.out t.work few_here t.is t.low in
      let records : records_in (input_of s r) ≡ records_in (rest bytes ++ r.bytes) = ap records_in input in
      let whole : length (records_in bytes) ≡ length bytes / record_length = cut_length (length bytes / record_length) bytes in
      let more : length (records_in (rest bytes ++ r.bytes)) ≡ length (rest bytes ++ r.bytes) / record_length =
      cut_length (length (rest bytes ++ r.bytes) / record_length) (rest bytes ++ r.bytes) in
      record {
        point = t.point ∙ g.point ∙ ap₂ (λ (q : Point) (rs : List (List ℕ)). run q rs) stood.point records
            ∙ run_on happens p (records_in bytes) (records_in (rest bytes ++ r.bytes)) ∙ ap (run p) (records_more bytes r.bytes);
        number = t.number ∙ g.number ∙ ap₂ (λ (n : ℕ) (rs : List (List ℕ)). n + length rs) stood.number records
            ∙ ap (λ (k : ℕ). 1 + length bytes / record_length + k) more ∙ omega (arith, counted);
        kept = t.kept ∙ ap₂ (λ (k : ℕ) (l : List ℕ). drop k l) (g.taken ∙ ap (λ (rs : List (List ℕ)). record_length * length rs) records ∙ ap (λ (k : ℕ). record_length * k) more) input
            ∙ rest_more bytes r.bytes;
        printed = t.printed
            ∙ ap₂ (λ (x y : List ℕ). x ++ y) stood.printed
            (g.lines ∙ ap₂ (λ (n : ℕ) (q : Point). lines_from n q (records_in (input_of s r))) (stood.number ∙ ap (λ (k : ℕ). 1 + k) (sym whole)) stood.point
            ∙ ap (lines_from (1 + length (records_in bytes)) (run p (records_in bytes))) records)
            ∙ lines_on 1 p (records_in bytes) (records_in (rest bytes ++ r.bytes)) ∙ ap (lines_from 1 p) (records_more bytes r.bytes);
      }

stood_after : (p : Point) (bytes : List ℕ) (s : Standing) (rs : List Reading) (t : Standing) → Stood p bytes s → Turns s rs t
    → length (bytes ++ bytes_of rs) / record_length + 1 < 2 ^ 64 → Stood p (bytes ++ bytes_of rs) t
stood_after p bytes s [] t w e few = subst (λ (z : Standing). Stood p (bytes ++ []) z) e (subst (λ (l : List ℕ). Stood p l s) (sym (append-nil bytes)) w)
stood_after p bytes s (r ∷ rs) t w (turn, turns) few =
    let assoc = append_assoc bytes r.bytes (bytes_of rs) in
    let less : length (bytes ++ r.bytes) / record_length + 1 < 2 ^ 64 =
    omega (arith, rw (length-append bytes (r.bytes ++ bytes_of rs), length-append r.bytes (bytes_of rs)) at few, length-append bytes r.bytes) in
    subst (λ (l : List ℕ). Stood p l t) assoc
    (stood_after p (bytes ++ r.bytes) r.after rs t (stood_on p bytes s r w turn less) turns (rw assoc few))

-- THE END OF THE INPUT

module _ (p : Point) (bytes out : List ℕ) (t : Standing) (w : Stood p bytes t) (room : record_length ≤ length out) where
  roomy : has_room out 0 ≡ true
  unfolding has_room
  roomy = rw (le-leb 0 (length out) (omega arith), le-leb 32 (length out - 0) (omega arith))

  kept_low : length t.kept < record_length
  kept_low = rw w.kept (rest_low bytes)

  ended : printed_at t out ≡ lines_from 1 p (cut bytes)
  unfolding printed_at cut_off history_of lines_of
  ended = go (eqb (length t.kept) 0) refl
    where
      size : length t.kept ≡ length bytes % record_length
      size = ap length w.kept ∙ rest_length bytes

      go : (b : Bool) → eqb (length t.kept) 0 ≡ b → printed_at t out ≡ lines_from 1 p (cut bytes)
      go true e =
          let none : length t.kept ≡ 0 = eqb-true (length t.kept) 0 e in
          let same : length bytes / record_length ≡ pieces (length bytes) = omega (arith, none, size) in
          rw e (w.printed ∙ ap (λ (k : ℕ). lines_from 1 p (cut_off k bytes)) same)
      go false e =
          let some = eqb-false (length t.kept) 0 e in
          let one : length bytes / record_length + 1 ≡ pieces (length bytes) = omega (arith, some, size) in
          let piece : take record_length (rest bytes) ≡ t.kept = take_all record_length (rest bytes) (omega (arith, rest_low bytes)) ∙ sym w.kept in
          let last : cut_off 1 (rest bytes) ≡ t.kept ∷ [] = ap (λ (l : List ℕ). l ∷ []) piece in
          let all : records_in bytes ++ (t.kept ∷ []) ≡ cut bytes =
          ap (λ (l : List (List ℕ)). records_in bytes ++ l) (sym last) ∙ sym (cut_more (length bytes / record_length) 1 bytes) ∙ ap (λ (k : ℕ). cut_off k bytes) one in
          let whole : length (records_in bytes) ≡ length bytes / record_length = cut_length (length bytes / record_length) bytes in
          let number : t.number ≡ 1 + length (records_in bytes) = w.number ∙ ap (λ (k : ℕ). 1 + k) (sym whole) in
          let line : lines_from t.number t.point (t.kept ∷ []) ≡ line_of t.number (last_answer t) = append-nil (line_of t.number (last_answer t)) in
          rw e
          (ap₂ (λ (x y : List ℕ). x ++ y) w.printed
          (front out _ 0 t.number _ (last_answer t) refl refl roomy ∙ sym line
          ∙ ap₂ (λ (n : ℕ) (q : Point). lines_from n q (t.kept ∷ [])) number w.point)
          ∙ lines_on 1 p (records_in bytes) (t.kept ∷ []) ∙ ap (lines_from 1 p) all)

pub readings_are_a_run : ReadingsAreARun
readings_are_a_run p rs t out turns few room =
    let w : Stood p (bytes_of rs) t = stood_after p [] (begun p) rs t (stood_first p) turns few in
    record { point = w.point; kept = kept_low p (bytes_of rs) out t w room; printed = ended p (bytes_of rs) out t w room }

-- THE START

module _ (s : List ℕ) (bytes : (i : ℕ) → get_or s i 0 < 256) where
  number_low : (i : ℕ) → number_from s i < 2 ^ 32
  number_low i = omega (arith, bytes i, bytes (i + 1), bytes (i + 2), bytes (i + 3))

  counters_low : (i r : ℕ) → r < counter_count → get_or (counters_from s i) r 0 < 2 ^ 32
  unfolding counters_from
  counters_low i r l = rw (each_at {A = ℕ} {B = ℕ} (λ r none. number_from s (i + 4 * r)) (replicate counter_count 0) r 0 0 l) (number_low (i + 4 * r))

  counters_there : (i : ℕ) → length (counters_from s i) ≡ counter_count
  unfolding counters_from
  counters_there i = each_length {A = ℕ} {B = ℕ} (λ r none. number_from s (i + 4 * r)) (replicate counter_count 0)

  pub nine_proper : (n : ℕ) → Proper (nine_up_to s n)
  unfolding nine_up_to port_from
  nine_proper zero = proper_nothing
  nine_proper (suc n) =
      proper_with_port (nine_up_to s n) n (port_from s (port_size * n)) (nine_proper n) (counters_there (port_size * n)) (counters_low (port_size * n))

  supply_given : Given (supply_in s)
  unfolding supply_in
  supply_given = record { attributes = nine_proper port_count; collisions-low = number_low collisions_from; octets-low = number_low octets_from }

nothing_given_lem : Given nothing_given
nothing_given_lem = record { attributes = proper_nothing; collisions-low = omega arith; octets-low = omega arith }

pub start_is_given : StartIsGiven
unfolding started_with started_of
start_is_given s bytes = go (fits_in s) refl
  where
    go : (b : Bool) → fits_in s ≡ b → (at (started_of s).chip power_up ≡ start (given_by s)) × Given (given_by s)
    go true e = (rw e, rw e (supply_given s bytes))
    go false e = (rw e, rw e nothing_given_lem)

pub promises_are_printed : PromisesArePrinted
promises_are_printed Q promise s bytes rs t out turns few room =
    let g = start_is_given s bytes in
    let turned : Turns (begun (start (given_by s))) rs t = subst (λ (p : Point). Turns (begun p) rs t) g.0 turns in
    let one = readings_are_a_run (start (given_by s)) rs t out turned few room in
    record {
      answers = answers_in (history (start (given_by s)) (cut (bytes_of rs)));
      promised = promise (given_by s) g.1 (cut (bytes_of rs));
      lines = one.printed;
    }
