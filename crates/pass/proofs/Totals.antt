-- Demand 3, Q-14: the differences of many readings add up to the credits between the first and the last; so do those that a host reads; and without the premise
-- they do not. One proof for every counter. The instances stand in Polls. Assumes nothing.
--   read_on          == two readings of any counter, from any point whose attributes and totals are such as the caller can give
--   totals_from      == many readings, from such a point
--   totals_by_polls  == from any point of a run
--   numbers_read_lem     == what a host reads is what the counter holds where the first byte is read
--   totals_by_host   == the same for these numbers
--   missed, premise_is_needed == 2^32 credits between two readings
use Prim.Native.Nat.{ℕ, ◌+◌, ◌%◌, ◌^◌, ◌<◌}
use mathlib.Core.Path.{◌≡◌, refl, sym, ap, ap₂, ◌∙◌}
use mathlib.Core.Bool.{true, cond, ◌&&◌}
use mathlib.Core.List.{List, [], ◌∷◌}
use native.Mathlib.Omega.{arith}
use borrow.Author.Tests.{lt-ltb, le-leb}
use lib.Dec.{eqb, ltb, leb, lit<}
use lib.ListN.{take}
use Rattle.spelling.specs.Spelling.{spelt}
use Rattle.ports.specs.Sets.{aui}
use Rattle.host.specs.declared.Row.{Row}
use Rattle.host.specs.declared.Register.{Register}
use Rattle.host.specs.declared.Register.TheVariants as reg
use Rattle.host.specs.Map.{table, register_at}
use Rattle.host.specs.Stands.{row_of}
use Rattle.host.proofs.Listed.{row_of_register, selectable}
use Rattle.access.specs.Access.{number_of}
use Rattle.attributes.specs.Octets.{difference_of, total_after, total_of, answered}
use Rattle.attributes.proofs.Totals as totals
use Rattle.himib.specs.Runs.{Point, start, history_of}
use Rattle.himib.proofs.Runs.{run_on}
use Rattle.pass.specs.Judged.{happens, history, run}
use Rattle.pass.specs.Pass.{bytes_read, register_of, bytes_of, number_in, sum_of}
use Rattle.pass.specs.Totals.{Counter, attribute, collisions, octets, Listed, held_at, credit_to, summed, readings_at, joined, Few, Summed, TotalsByPolls}
use Rattle.pass.specs.Totals.{Poll, read_at, polled_to, page_for, register_for, Reads, AllRead, numbers_read, spans, TotalsByHost}
use Rattle.pass.specs.Totals.{Missed, again, frame, PremiseIsNeeded}
use Rattle.pass.proofs.Polls
use Rattle.pass.proofs.Credited.{Fit, fit_run, fit_start}
use Rattle.pass.proofs.Counters.{credits_on}
use Rattle.pass.proofs.Readings.{between}
use Rattle.pass.proofs.Sequences.{four_bytes_at}
use Rattle.pass.proofs.Frames.{fresh_start, frames_from}

-- TWO READINGS

module _ (p : Point) (fit : Fit p) (rs : List (List ℕ)) where
  pub read_on : (c : Counter) → Listed c → difference_of (held_at c (run p rs)) (held_at c p) ≡ sum_of (credit_to c) (history p rs) % 2 ^ 32
  read_on (attribute i r) l = (between p fit rs).readings i r l.0 l.1
  read_on collisions l = (between p fit rs).collisions
  read_on octets l = (between p fit rs).octets

-- MANY READINGS

module _ (c : Counter) (l : Listed c) where
  -- the first of the readings behind another one
  after_one : (before : ℕ) (p : Point) (pieces : List (List (List ℕ)))
      → total_after before (readings_at c p pieces) ≡ difference_of (held_at c p) before + total_of (readings_at c p pieces)
  unfolding readings_at total_of total_after
  after_one before p [] = refl
  after_one before p (rs ∷ pieces) = refl

  pub totals_from : (p : Point) → Fit p → (pieces : List (List (List ℕ))) → Few c p pieces
      → total_of (readings_at c p pieces) ≡ sum_of (credit_to c) (history p (joined pieces))
  unfolding readings_at total_of total_after Few sum_of history_of
  totals_from p fit [] few = refl
  totals_from p fit (rs ∷ pieces) few =
      let d : difference_of (held_at c (run p rs)) (held_at c p) ≡ sum_of (credit_to c) (history p rs) = read_on p fit rs c l ∙ (omega (arith, few.0)) in
      after_one (held_at c p) (run p rs) pieces
      ∙ ap₂ (λ (m n : ℕ). m + n) d (totals_from (run p rs) (fit_run p rs fit) pieces few.1)
      ∙ sym (credits_on (credit_to c) p rs (joined pieces))

-- a sum that is known, in 64 bits
module _ (c : Counter) (p : Point) (pieces : List (List (List ℕ))) (readings : List ℕ) where
  told : summed readings ≡ sum_of (credit_to c) (history p (joined pieces)) → Summed c p pieces readings
  told e = record {
    whole = e;
    fits = λ l. ap answered e ∙ totals.fits _ l;
    too_large = λ l. ap answered e ∙ totals.no_more _ l;
  }

-- its instances: brink_given of Instances, frames_polled to few_polled of Polls, and its halves, whose sum 32 bits do not hold
pub totals_by_polls : TotalsByPolls
totals_by_polls given g before c l pieces few =
    told c _ pieces _ (totals_from c l (run (start given) before) (fit_run (start given) before (fit_start given g)) pieces few)

-- A HOST'S READINGS

abbrev register_is : Counter → Register
register_is (attribute i r) = reg.Counter i r
register_is collisions = reg.TransmitCollisions
register_is octets = reg.TotalOctets

its_place : (c : Counter) → Listed c → register_at (page_for c) (register_for c) ≡ register_is c
its_place (attribute i r) l =
    let turned : 16 + i ≡ i + 16 = omega arith in
    let there : (ltb i 9 && leb r 12) ≡ true = rw (lt-ltb i 9 l.0, le-leb r 12 (omega (arith, l.1))) in
    ap (λ (n : ℕ). register_at (cond (eqb i 8) 31 n) r) turned ∙ selectable (reg.Counter i r) there
its_place collisions l = selectable reg.TransmitCollisions refl
its_place octets l = selectable reg.TotalOctets refl

four_bytes : (c : Counter) → (row_of (register_is c)).size ≡ 4
unfolding row_of table
four_bytes (attribute i r) = refl
four_bytes collisions = refl
four_bytes octets = refl

its_number : (c : Counter) (p : Point) → number_in (register_is c) p ≡ held_at c p
unfolding number_of
its_number (attribute i r) p = refl
its_number collisions p = refl
its_number octets p = refl

module _ (c : Counter) (l : Listed c) where
  -- one poll
  module _ (p : Point) (fit : Fit p) (t : Poll) (reads : Reads c p t) where
    selected : register_of (read_at p t) ≡ register_is c
    selected = ap₂ register_at reads.page reads.register ∙ its_place c l

    four : bytes_of (read_at p t) ≡ 4
    four =
        ap (λ (w : Row). w.size) (sym (row_of_register (read_at p t).host.page (read_at p t).host.register))
        ∙ ap (λ (x : Register). (row_of x).size) selected
        ∙ four_bytes c

    pub number_read : spelt (take 4 (bytes_read (history (read_at p t) (t.first ∷ t.rest)))) ≡ held_at c (read_at p t)
    number_read =
        four_bytes_at (read_at p t) (fit_run p t.lead fit) t.first t.rest four reads.sequence
        ∙ ap (λ (x : Register). number_in x (read_at p t)) selected
        ∙ its_number c (read_at p t)

  pub numbers_read_lem : (p : Point) → Fit p → (t : Poll) (ts : List Poll) → AllRead c p (t ∷ ts) → numbers_read p (t ∷ ts) ≡ readings_at c (read_at p t) (spans t ts)
  unfolding AllRead numbers_read readings_at spans
  numbers_read_lem p fit t [] reads = ap (λ (n : ℕ). n ∷ []) (number_read p fit t reads.0)
  numbers_read_lem p fit t (u ∷ us) reads =
      ap₂ (λ (n : ℕ) (ns : List ℕ). n ∷ ns) (number_read p fit t reads.0)
      (numbers_read_lem (polled_to p t) (fit_run (read_at p t) (t.first ∷ t.rest) (fit_run p t.lead fit)) u us reads.1
      ∙ ap (λ (q : Point). readings_at c q (spans u us)) (run_on happens (read_at p t) (t.first ∷ t.rest) u.lead))

-- its instance: brink_given of Instances; reads_polled, few_spanned and numbers_polled of Polls
pub totals_by_host : TotalsByHost
totals_by_host given g before c l t ts reads few =
    let p : Point = run (start given) before in
    let fit : Fit p = fit_run (start given) before (fit_start given g) in
    told c _ (spans t ts) _
    (ap summed (numbers_read_lem c l p fit t ts reads)
    ∙ totals_from c l (read_at p t) (fit_run p t.lead fit) (spans t ts) few)

-- WITHOUT THE PREMISE

-- a difference of nothing, from a reading that is one
no_move : (later earlier s : ℕ) → later < 2 ^ 32 → earlier < 2 ^ 32 → difference_of later earlier ≡ s % 2 ^ 32 → s ≡ 2 ^ 32 → later ≡ earlier
no_move later earlier s a b d e = omega arith

module _ (p : Point) (fit : Fit p) where
  pub low : (c : Counter) → Listed c → held_at c p < 2 ^ 32
  low (attribute i r) l = fit.attributes.low i r l.0 l.1
  low collisions l = fit.collisions-low
  low octets l = fit.octets-low

pub missed : (p : Point) → Fit p → (c : Counter) → Listed c → (rs : List (List ℕ)) → sum_of (credit_to c) (history p rs) ≡ 2 ^ 32 → Missed c p rs
unfolding readings_at total_of total_after Few
missed p fit c l rs e =
    let d = read_on p fit rs c l in
    record {
      credits = e;
      same = no_move _ _ _ (low (run p rs) (fit_run p rs fit) c l) (low p fit c l) d e;
      sum = omega (arith, d, e);
      not_few = λ few. omega (arith, few.0, e);
    }

-- its instances: round_of_frames and round_of_octets of Polls, three_frames of Frames, with every counter at 0
pub premise_is_needed : PremiseIsNeeded
premise_is_needed =
    record {
      round = λ given g before c l rs e. missed (run (start given) before) (fit_run (start given) before (fit_start given g)) c l rs e;
      frames = λ given k. frames_from (start given) (fresh_start given) k;
      runs = λ given g.
          let many = frames_from (start given) (fresh_start given) (2 ^ 32) in
          let some = frames_from (start given) (fresh_start given) (2 ^ 26) in (
            missed (start given) (fit_start given g) (attribute aui 0) (lit< tt, lit< tt) (again (2 ^ 32) frame) many.0,
            missed (start given) (fit_start given g) (attribute aui 1) (lit< tt, lit< tt) (again (2 ^ 26) frame) some.1,
            missed (start given) (fit_start given g) octets tt (again (2 ^ 26) frame) some.2,
            some.0,
          );
    }
