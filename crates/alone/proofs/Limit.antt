-- Nothing else depends on the limit of short events: specs/Limit.antt holds. The past sees the limit in the counters R 5 and R 6 alone, and what the chip shows
-- is what the past says; the repeater goes by the deeds, which are the same. Assumes nothing.
--   credit_same, counter_same == of every other counter
--   pair_together, sums_same == of the two: what a deed credits them with together
--   answer_same     == the answer to every deed, but for a read of one of them
--   parted_as_lem       == a record reads one of them exactly if its deed does
--   repeaters_same, lists_same == the repeaters; lists of change bits and enables
--   limit_is_alone  == the statement
use Prim.Native.Nat.{ℕ, ◌+◌, ◌/◌, ◌%◌, ◌^◌, ◌≤◌, ◌<◌}
use mathlib.Core.Path.{◌≡◌, refl, sym, ap, ap₂, ◌∙◌}
use mathlib.Core.Bool.{Bool, true, false, cond, not, ◌&&◌, ◌||◌, true≢false}
use mathlib.Core.List.{List, [], ◌∷◌}
use native.Mathlib.Omega.{arith}
use borrow.Author.Tests.{ltb-true, ltb-false, lt-ltb, lt-leb, le-leb}
use lib.Dec.{eqb, leb, ltb}
use lib.ListN.{length, get_or}
use lib.Seq.{ext_get_or}
use Rattle.ports.specs.declared.Quiet.TheVariants.{Pulse, Tick}
use Rattle.ports.proofs.Sets.{same_set}
use Rattle.management.specs.declared.Command.{Command}
use Rattle.management.specs.declared.Command.TheVariants.{Set, Get, Unlisted}
use Rattle.management.specs.Commands.{command_of}
use Rattle.record.specs.declared.Burst.{Burst}
use Rattle.record.specs.declared.Access.TheVariants.{WriteC, WriteD, ReadC, ReadD}
use Rattle.record.specs.declared.Asked.{Asked}
use Rattle.record.specs.declared.Asked.TheVariants as ask
use Rattle.record.specs.Record.{d_read_kind}
use Rattle.record.specs.Refusals.{record_of}
use Rattle.record.specs.Accepted.{kind_number}
use Rattle.host.specs.declared.Register.{Register}
use Rattle.host.specs.declared.Register.TheVariants as reg
use Rattle.host.specs.declared.Role.{Role}
use Rattle.host.specs.declared.Role.TheVariants.{Plain, Cleared, Commands, Enables, Address}
use Rattle.host.specs.declared.Row.{Row}
use Rattle.host.specs.Map.{row_at}
use Rattle.attributes.specs.Credits.{short_to}
use Rattle.chip.specs.declared.Choices.{Choices}
use Rattle.chip.specs.declared.Core.{Core}
use Rattle.chip.specs.declared.Supply.{Supply}
use Rattle.chip.specs.Chip.{limited_to, with_choices, with_kept}
use Rattle.chip.proofs.ChipLaws.{Seven, seven_fits, settled_fit, settled_in}
use Rattle.himib.specs.Runs as Runs
use Rattle.himib.specs.Runs.{Point, happening, accepted, run_of, repeater_at, counter_at, limit_at}
use Rattle.pass.specs.Limit.{with_limit}
use Rattle.past.specs.Deeds.{Deed, bursts, pulses, ticks, commands, uses, resets, refused, Use, selects_p, selects_r, allows, addresses, asks, reads}
use Rattle.past.specs.Deeds.{if_use, selecting, commanding, writing, deed_of, page_by, register_by, deed_after, deeds_from}
use Rattle.past.specs.Credits.{alone, if, credit_of, sum_by}
use Rattle.past.specs.Addresses.{credit_by, counter_by}
use Rattle.past.specs.Reads.{Start, byte_by, place_by, copied_by, read_by}
use Rattle.past.specs.Answers.{answer_by}
use Rattle.alone.specs.Doing.{repeater_by, Proper}
use Rattle.alone.specs.Seen.{start_of}
use Rattle.alone.specs.Judged.{happens, run}
use Rattle.alone.specs.Alone.{past_of, after, Supplied}
use Rattle.alone.specs.Limit.{by_limit, limit_parts, reads_parted, IsByte, LimitIsAlone}
use Rattle.alone.proofs.Instances
use Rattle.alone.proofs.Did.{proper_deed, repeater_next}
use Rattle.alone.proofs.Credits.{Measured}
use Rattle.alone.proofs.Whole.{Whole, step_did, whole_after, whole_up, answer_after}
use Rattle.alone.proofs.ShownByPast.{shown}

-- EVERY OTHER COUNTER

first_not : (a b : Bool) → (a || b) ≡ false → a ≡ false
first_not true b h = h
first_not false b h = refl

second_not : (a b : Bool) → (a || b) ≡ false → b ≡ false
second_not true b h = absurd (true≢false h)
second_not false b h = h

module _ (l m : ℕ) where
  credit_same : (b : Burst) (h i r : ℕ) → by_limit r ≡ false → credit_of l b h i r ≡ credit_of m b h i r
  unfolding credit_of
  credit_same b h i r e = rw (first_not (eqb r 5) (eqb r 6) e, second_not (eqb r 5) (eqb r 6) e)

  deed_same : (first : ℕ → List ℕ) (i r : ℕ) → by_limit r ≡ false → (past : List Deed) (d : Deed) → credit_by l first i r past d ≡ credit_by m first i r past d
  unfolding credit_by
  deed_same first i r e past (bursts b source) = rw (credit_same b _ i r e)
  deed_same first i r e past (pulses mask) = refl
  deed_same first i r e past ticks = refl
  deed_same first i r e past (commands g c) = refl
  deed_same first i r e past (uses u) = refl
  deed_same first i r e past resets = refl
  deed_same first i r e past (refused k) = refl

  sum_same : (first : ℕ → List ℕ) (i r : ℕ) → by_limit r ≡ false → (past : List Deed) → sum_by (credit_by l first i r) past ≡ sum_by (credit_by m first i r) past
  unfolding sum_by
  sum_same first i r e [] = refl
  sum_same first i r e (d ∷ past) = ap₂ ◌+◌ (deed_same first i r e past d) (sum_same first i r e past)

  counter_same : (start : ℕ → ℕ → ℕ) (first : ℕ → List ℕ) (past : List Deed) (i r : ℕ) → by_limit r ≡ false
      → counter_by l start first past i r ≡ counter_by m start first past i r
  unfolding counter_by
  counter_same start first past i r e = ap (λ (n : ℕ). (start i r + n) % 2 ^ 32) (sum_same first i r e past)

-- THE TWO TOGETHER

-- a port that is heard alone: one of the two for a burst of fewer than 64 octets, and none for any other
pair_credited : (t : Bool) (limit : ℕ) (b : Burst) → Measured limit b
    → if (t && ltb b.d limit) + if (t && (leb limit b.d && ltb b.n 64)) ≡ if (t && ltb b.n 64)
pair_credited false limit b measured = refl
pair_credited true limit b measured = go (ltb b.d limit) refl
  where
    go : (u : Bool) → ltb b.d limit ≡ u → if u + if (leb limit b.d && ltb b.n 64) ≡ if (ltb b.n 64)
    go true e =
        let d = ltb-true b.d limit e in
        let low = measured.low in
        let octets = measured.octets in
        let n : b.n < 64 = omega arith in
        rw (lt-leb limit b.d d, lt-ltb b.n 64 n)
    go false e = rw (le-leb limit b.d (ltb-false b.d limit e)) (omega arith)

module _ (first : ℕ → List ℕ) (i : ℕ) where
  abbrev pair : ℕ → List Deed → Deed → ℕ
  pair limit past d = credit_by limit first i 5 past d + credit_by limit first i 6 past d

  abbrev pairs : ℕ → List Deed → ℕ
  pairs limit past = sum_by (credit_by limit first i 5) past + sum_by (credit_by limit first i 6) past

  module _ (l m : ℕ) (low : l ≤ short_to) (other : m ≤ short_to) where
    pair_together : (past : List Deed) (d : Deed) → Proper d → pair l past d ≡ pair m past d
    unfolding credit_by credit_of
    pair_together past (bursts b source) proper =
        let octets = proper.0.octets_within in
        pair_credited (alone b _ i) l b (record { low = low; octets = octets })
        ∙ sym (pair_credited (alone b _ i) m b (record { low = other; octets = octets }))
    pair_together past (pulses mask) proper = refl
    pair_together past ticks proper = refl
    pair_together past (commands g c) proper = refl
    pair_together past (uses u) proper = refl
    pair_together past resets proper = refl
    pair_together past (refused k) proper = refl

    one_more : (a b c d a' b' c' d' : ℕ) → a + b ≡ a' + b' → c + d ≡ c' + d' → (a + c) + (b + d) ≡ (a' + c') + (b' + d')
    one_more a b c d a' b' c' d' e f = omega arith

    sums_same : (past : List Deed) (rs : List (List ℕ)) → pairs l past ≡ pairs m past → pairs l (deeds_from past rs) ≡ pairs m (deeds_from past rs)
    unfolding deeds_from sum_by
    sums_same past [] e = e
    sums_same past (bs ∷ rs) e =
        let d = deed_after past bs in
        sums_same (d ∷ past) rs (one_more _ _ _ _ _ _ _ _ (pair_together past d (proper_deed past bs)) e)

-- two counters as their starts and credits
folded : (a b n k c d : ℕ) → a ≡ (n + c) % 2 ^ 32 → b ≡ (k + d) % 2 ^ 32 → (a + b) % 2 ^ 32 ≡ (n + k + (c + d)) % 2 ^ 32
folded a b n k c d e f = omega arith

-- EVERY ANSWER

abbrev limited : Start → ℕ → Start
limited start limit = record {
  counters = start.counters;
  addresses = start.addresses;
  collisions = start.collisions;
  octets = start.octets;
  limit = limit;
}

abbrev parted_use : Use → Bool
parted_use (selects_p n) = false
parted_use (selects_r n) = false
parted_use (allows k b) = false
parted_use (addresses i b) = false
parted_use asks = false
parted_use (reads register size) = limit_parts register

-- a deed that reads one of the two
abbrev parted : Deed → Bool
parted d = if_use false parted_use d

module _ (start : Start) (l m : ℕ) where
  byte_same : (past : List Deed) (register : Register) (place : ℕ) → limit_parts register ≡ false
      → byte_by (limited start l) past register place ≡ byte_by (limited start m) past register place
  unfolding byte_by
  byte_same past reg.Unlisted place e = refl
  byte_same past reg.TransmitCollisions place e = refl
  byte_same past reg.TotalOctets place e = refl
  byte_same past reg.Version place e = refl
  byte_same past reg.SetPort place e = refl
  byte_same past reg.GetPort place e = refl
  byte_same past (reg.Change r) place e = refl
  byte_same past (reg.Enable r) place e = refl
  byte_same past (reg.Counter i r) place e = rw (counter_same l m start.counters start.addresses past i r e)
  byte_same past (reg.Address i) place e = refl

  used_same : (past : List Deed) (u : Use) → parted_use u ≡ false → answer_by (limited start l) past (uses u) ≡ answer_by (limited start m) past (uses u)
  unfolding answer_by read_by
  used_same past (selects_p n) e = refl
  used_same past (selects_r n) e = refl
  used_same past (allows k b) e = refl
  used_same past (addresses i b) e = refl
  used_same past asks e = refl
  used_same past (reads register size) e = rw (byte_same (copied_by past size) register (place_by past size) e)

  answer_same : (past : List Deed) (d : Deed) → parted d ≡ false → answer_by (limited start l) past d ≡ answer_by (limited start m) past d
  unfolding answer_by
  answer_same past (bursts b source) e = refl
  answer_same past (pulses mask) e = refl
  answer_same past ticks e = refl
  answer_same past (commands g c) e = refl
  answer_same past (uses u) e = used_same past u e
  answer_same past resets e = refl
  answer_same past (refused k) e = refl

module _ (start : Start) (past : List Deed) where
  use_byte : (u : Use) → parted_use u ≡ true → IsByte (answer_by start past (uses u))
  unfolding answer_by
  use_byte (selects_p n) e = absurd (true≢false (sym e))
  use_byte (selects_r n) e = absurd (true≢false (sym e))
  use_byte (allows k b) e = absurd (true≢false (sym e))
  use_byte (addresses i b) e = absurd (true≢false (sym e))
  use_byte asks e = refl
  use_byte (reads register size) e = refl

  answer_byte : (d : Deed) → parted d ≡ true → IsByte (answer_by start past d)
  answer_byte (bursts b source) e = absurd (true≢false (sym e))
  answer_byte (pulses mask) e = absurd (true≢false (sym e))
  answer_byte ticks e = absurd (true≢false (sym e))
  answer_byte (commands g c) e = absurd (true≢false (sym e))
  answer_byte (uses u) e = use_byte u e
  answer_byte resets e = absurd (true≢false (sym e))
  answer_byte (refused k) e = absurd (true≢false (sym e))

-- WHICH RECORDS READ ONE OF THE TWO

selects_none : (b : ℕ) → false ≡ parted (uses (selecting b))
selects_none b = go (eqb (b / 32) 0b000)
  where
    go : (t : Bool) → false ≡ parted (uses (cond t (selects_p (b % 32)) (selects_r (b % 32))))
    go true = refl
    go false = refl

commands_none : (g : Bool) (b : ℕ) (k : Command) → false ≡ parted (commanding g b k)
commands_none g b (Set s) = refl
commands_none g b (Get q) = refl
commands_none g b Unlisted = refl

writes_none : (role : Role) (b : ℕ) → false ≡ parted (writing role b)
writes_none Plain b = refl
writes_none (Cleared k) b = refl
writes_none (Commands g) b = commands_none g b (command_of b)
writes_none (Enables k) b = refl
writes_none (Address i) b = refl

module _ (start : Start) (past : List Deed) (row : Row) where
  abbrev ReadsAs : Asked → List ℕ → Type 0
  ReadsAs a source =
      (eqb (kind_number a) d_read_kind && accepted (answer_by start past (deed_of row a source)) && limit_parts row.register) ≡ parted (deed_of row a source)

  write_as : (b : ℕ) (source : List ℕ) → ReadsAs (ask.Access (WriteD b)) source
  unfolding deed_of
  write_as b source = go (eqb row.size 0) row.writable
    where
      go : (t u : Bool) → false ≡ parted (cond t (refused 5) (cond (not u) (refused 6) (writing row.role b)))
      go true u = refl
      go false false = refl
      go false true = writes_none row.role b

  read_as_lem : (source : List ℕ) → ReadsAs (ask.Access ReadD) source
  unfolding deed_of answer_by accepted
  read_as_lem source = go (eqb row.size 0) row.readable
    where
      reading : Bool → Bool → Deed
      reading t u = cond t (refused 5) (cond (not u) (refused 6) (uses (reads row.register row.size)))

      go : (t u : Bool) → (accepted (answer_by start past (reading t u)) && limit_parts row.register) ≡ parted (reading t u)
      go true u = refl
      go false false = refl
      go false true = refl

  reads_as : (a : Asked) (source : List ℕ) → ReadsAs a source
  unfolding deed_of
  reads_as (ask.Burst b) source = refl
  reads_as (ask.Quiet (Pulse mask)) source = refl
  reads_as (ask.Quiet Tick) source = refl
  reads_as (ask.Access (WriteC b)) source = selects_none b
  reads_as (ask.Access (WriteD b)) source = write_as b source
  reads_as (ask.Access ReadC) source = refl
  reads_as (ask.Access ReadD) source = read_as_lem source
  reads_as ask.Reset source = refl
  reads_as (ask.Refused k) source = refl

parted_as_lem : (start : Start) (past : List Deed) (p : Point) → Whole start past p → (r : List ℕ) → reads_parted p r ≡ parted (deed_after past r)
unfolding happening deed_after
parted_as_lem start past p w r =
    rw (answer_after start past p w r, w.page, w.register)
    (reads_as start past (row_at (page_by past) (register_by past)) (record_of r).asked (record_of r).source)

-- THE CORES

repeaters_same : (start other : Start) (past : List Deed) (p q : Point) (rs : List (List ℕ)) → Whole start past p → Whole other past q
    → repeater_at p ≡ repeater_at q → repeater_at (run p rs) ≡ repeater_at (run q rs)
unfolding run_of
repeaters_same start other past p q [] v w e = e
repeaters_same start other past p q (bs ∷ rs) v w e =
    let d = deed_after past bs in
    let moves : repeater_at (happens p bs).after ≡ repeater_by d (repeater_at p) = ap repeater_at (step_did start past p v bs) ∙ repeater_next p d in
    let follows : repeater_at (happens q bs).after ≡ repeater_by d (repeater_at q) = ap repeater_at (step_did other past q w bs) ∙ repeater_next q d in
    repeaters_same start other (d ∷ past) (happens p bs).after (happens q bs).after rs (whole_after start past p v bs) (whole_after other past q w bs)
    (moves ∙ ap (repeater_by d) e ∙ sym follows)

-- eight numbers
lists_same : (a b : List ℕ) → length a ≡ 8 → length b ≡ 8 → ((r : ℕ) → r < 8 → get_or a r 0 ≡ get_or b r 0) → a ≡ b
lists_same a b e f same = ext_get_or 0 a b (e ∙ sym f) (λ r l. same r (omega arith))

core_same : (c d : Core) → c.repeater ≡ d.repeater → c.changes ≡ d.changes → c.enables ≡ d.enables
    → c.kept.transmit_collisions ≡ d.kept.transmit_collisions → c.kept.total_octets ≡ d.kept.total_octets
    → c.interface_error ≡ d.interface_error → c.g ≡ d.g → d ≡ with_kept c (with_choices c.kept d.kept.choices)
core_same c d repeater changes enables collisions octets error g = rw (repeater, changes, enables, collisions, octets, error, g)

-- BOTH RUNS

module _ (given : Supply) (s : Supplied given) (rs : List (List ℕ)) where
  supplied : (limit : ℕ) → Supplied (with_limit given limit)
  supplied limit =
      let g = s.given_proper in
      record {
        given_proper = record { attributes = g.attributes; collisions-low = g.collisions-low; octets-low = g.octets-low };
        six = s.six;
      }

  abbrev past : List Deed
  past = past_of rs

  abbrev point : ℕ → Point
  point limit = after (with_limit given limit) rs

  -- the limit that a run goes by, and what its observer is told
  abbrev settled : ℕ → ℕ
  settled limit = limit_at (Runs.start (with_limit given limit))

  abbrev told : ℕ → Start
  told limit = start_of (with_limit given limit)

  whole : (limit : ℕ) → Whole (told limit) past (point limit)
  whole limit = shown (with_limit given limit) (supplied limit) rs

  settled_low : (limit : ℕ) → settled limit ≤ short_to
  settled_low limit = (settled_in (limited_to limit given.kept.choices)).1

  goes_by : (limit : ℕ) → Seven limit → limit_at (point limit) ≡ limit
  goes_by limit seven =
      let choices : Choices = limited_to limit given.kept.choices in
      (whole limit).counted.limit ∙ ap (λ (k : Choices). k.short_limit) (settled_fit choices (seven_fits choices seven))

  module _ (l m : ℕ) where
    abbrev p : Point
    p = point l

    abbrev q : Point
    q = point m

    answers : (r : List ℕ) → reads_parted p r ≡ false → (happens p r).answer ≡ (happens q r).answer
    answers r e =
        answer_after (told l) past p (whole l) r
        ∙ answer_same (start_of given) (settled l) (settled m) past (deed_after past r) (sym (parted_as_lem (told l) past p (whole l) r) ∙ e)
        ∙ sym (answer_after (told m) past q (whole m) r)

    bytes : (r : List ℕ) → reads_parted p r ≡ true → IsByte (happens p r).answer × IsByte (happens q r).answer
    bytes r e =
        let d = deed_after past r in
        let t : parted d ≡ true = sym (parted_as_lem (told l) past p (whole l) r) ∙ e in
        (rw (answer_after (told l) past p (whole l) r) (answer_byte (told l) past d t), rw (answer_after (told m) past q (whole m) r) (answer_byte (told m) past d t))

    repeaters : repeater_at p ≡ repeater_at q
    repeaters =
        repeaters_same (told l) (told m) [] (Runs.start (with_limit given l)) (Runs.start (with_limit given m)) rs (whole_up (with_limit given l) (supplied l))
        (whole_up (with_limit given m) (supplied m)) refl

    changes : p.chip.core.changes ≡ q.chip.core.changes
    changes =
        let v = (whole l).noticed in
        let w = (whole m).noticed in
        lists_same _ _ v.eight w.eight
        (λ r k. same_set 8 _ _ (v.low r k) (w.low r k) (λ j h. v.changes r j k h ∙ sym (w.changes r j k h)))

    enables : p.chip.core.enables ≡ q.chip.core.enables
    enables =
        let v = (whole l).noticed in
        let w = (whole m).noticed in
        lists_same _ _ v.eight_enables w.eight_enables (λ r k. v.enables r k ∙ sym (w.enables r k))

    core : q.chip.core ≡ with_kept p.chip.core (with_choices p.chip.core.kept q.chip.core.kept.choices)
    core =
        let v = whole l in
        let w = whole m in
        core_same p.chip.core q.chip.core repeaters changes enables (v.counted.collisions ∙ sym w.counted.collisions)
        (v.counted.octets ∙ sym w.counted.octets) (v.noticed.error ∙ sym w.noticed.error) (v.noticed.g ∙ sym w.noticed.g)

    counters : (i r : ℕ) → i < 9 → r < 13 → by_limit r ≡ false → counter_at i r p ≡ counter_at i r q
    counters i r h k e =
        (whole l).counted.counters i r h k
        ∙ counter_same (settled l) (settled m) (start_of given).counters (start_of given).addresses past i r e
        ∙ sym ((whole m).counted.counters i r h k)

    sums : (i : ℕ) → i < 9 → (counter_at i 5 p + counter_at i 6 p) % 2 ^ 32 ≡ (counter_at i 5 q + counter_at i 6 q) % 2 ^ 32
    unfolding counter_by sum_by
    sums i h =
        let v = (whole l).counted in
        let w = (whole m).counted in
        let both : ℕ = (start_of given).counters i 5 + (start_of given).counters i 6 in
        folded _ _ _ _ _ _ (v.counters i 5 h (omega arith)) (v.counters i 6 h (omega arith))
        ∙ ap (λ (n : ℕ). (both + n) % 2 ^ 32)
        (sums_same (start_of given).addresses i (settled l) (settled m) (settled_low l) (settled_low m) [] rs refl)
        ∙ sym (folded _ _ _ _ _ _ (w.counters i 5 h (omega arith)) (w.counters i 6 h (omega arith)))

-- its instance: zero_supplied, runt_shown, short_shown and cores_shown of Instances
pub limit_is_alone : LimitIsAlone
limit_is_alone given s l m rs = record {
  answers = answers given s rs l m;
  bytes = bytes given s rs l m;
  core = core given s rs l m;
  counters = counters given s rs l m;
  addresses = λ i h. (whole given s rs l).counted.addresses i h ∙ sym ((whole given s rs m).counted.addresses i h);
  sums = sums given s rs l m;
  one_limit = goes_by given s rs l;
  other_limit = goes_by given s rs m;
}
