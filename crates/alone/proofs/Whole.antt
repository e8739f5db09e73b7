-- All that the chip shows is what the past says, from deed to deed and so over any records; and every answer with it. Assumes nothing.
--   Whole start past p  == all of it, at the point p after a past
--   whole_up, whole_next, whole_run == at power-up, after a deed, and after records
--   step_did            == a record leads where its deed does
--   answer_seen, answer_after == the answer to a deed, and to a record
use Prim.Native.Nat.{ℕ, ◌<◌}
use mathlib.Core.Path.{◌≡◌, refl, sym, ap, ap₂, subst, ◌∙◌}
use mathlib.Core.List.{List, [], ◌∷◌}
use native.Mathlib.Omega.{arith}
use borrow.Author.Tests.{lt-ltb}
use lib.ListN.{get_or}
use Rattle.record.specs.declared.Burst.{Burst}
use Rattle.repeater.specs.declared.Repeater.{Repeater}
use Rattle.host.specs.declared.Host.{Host}
use Rattle.host.specs.declared.Register.{Register}
use Rattle.host.specs.Map.{row_at}
use Rattle.answer.specs.declared.Answer.{Answer}
use Rattle.answer.specs.declared.Answer.TheVariants.{Value}
use Rattle.chip.specs.declared.Supply.{Supply}
use Rattle.access.specs.Access.{selected_by, value_of}
use Rattle.himib.specs.declared.Stepped.{Stepped}
use Rattle.himib.specs.Bursts.{noted_on, burst_on}
use Rattle.himib.specs.Runs as Runs
use Rattle.himib.specs.Runs.{Point, at, happening, run_of, history_of, answers_in, repeater_at}
use Rattle.past.specs.Deeds.{Deed, bursts, pulses, ticks, commands, uses, resets, refused, Use, selects_p, selects_r, allows, addresses, asks, reads}
use Rattle.past.specs.Deeds.{page_by, register_by, deed_after, deeds_from}
use Rattle.past.specs.Reads.{Start, byte_by}
use Rattle.past.specs.Answers.{answer_by, answers_by}
use Rattle.alone.specs.Doing.{used_at, doing, next, repeater_by, Proper}
use Rattle.alone.specs.Seen.{Settled, Linked, Stood, Parted, BurstSeen, DueSeen, Reported, Counted, Noticed, start_of}
use Rattle.alone.specs.Selected.{StandsUse, StandsOn, Sequenced}
use Rattle.alone.specs.Judged.{happens, history, run}
use Rattle.alone.specs.Alone.{Supplied}
use Rattle.alone.proofs.Instances.{zero_supplied}
use Rattle.alone.proofs.Did.{did, proper_deed, selection_next, repeater_next}
use Rattle.alone.proofs.Settings.{settled_up, settled_next}
use Rattle.alone.proofs.Link.{LinkKept, link_up, link_next, linked}
use Rattle.alone.proofs.Bursts.{burst_seen_lem}
use Rattle.alone.proofs.Partition.{stood_up, stood_next, partitioned_mask}
use Rattle.alone.proofs.Credits.{cuts_seen, due_seen_lem}
use Rattle.alone.proofs.Rows.{Rowed, rowed_up, rowed_next}
use Rattle.alone.proofs.Counted.{Foreseen, counted_up, counted_next}
use Rattle.alone.proofs.Status.{reported_up, reported_next}
use Rattle.alone.proofs.Noticed.{noticed_up, noticed_next}
use Rattle.alone.proofs.Interrupt.{status_seen}
use Rattle.alone.proofs.Sequenced.{stands_on, sequenced_up, sequenced_next, read_seen}
use Rattle.alone.proofs.Values.{value_seen}

pub record Whole (start : Start) (past : List Deed) (p : Point) : Type 0 where
  pub page : p.host.page ≡ page_by past
  pub register : p.host.register ≡ register_by past
  pub settled : Settled past (repeater_at p)
  pub link : LinkKept past (repeater_at p)
  pub stood : Stood past (repeater_at p)
  pub reported : Reported past (repeater_at p)
  pub counted : Counted start past p
  pub noticed : Noticed start past p
  pub row : Rowed past p.host
  pub sequence : Sequenced start past p.host

-- the register that is selected is the past's
on_selected : (past : List Deed) (h : Host) (d : Deed) → h.page ≡ page_by past → h.register ≡ register_by past
    → StandsOn (row_at (page_by past) (register_by past)) d → StandsOn (selected_by h) d
on_selected past h d e f on = rw (e, f) on

parted : (past : List Deed) (r : Repeater) → Settled past r → Stood past r → Parted past r
parted past r settled stood i l = partitioned_mask past r stood settled i (omega arith) ∙ rw (lt-ltb i 9 l)

module _ (start : Start) (past : List Deed) (p : Point) (w : Whole start past p) where
  abbrev r : Repeater
  r = repeater_at p

  links_now : Linked past r
  links_now = linked past r w.settled w.link

  parted_now : Parted past r
  parted_now = parted past r w.settled w.stood

  -- a burst that comes next
  module _ (b : Burst) (source : List ℕ) (proper : Proper (bursts b source)) where
    seen_now : BurstSeen past r b
    seen_now = burst_seen_lem past r b w.settled links_now w.stood proper.0.mask_below

    due_now : DueSeen start past p b source
    due_now =
        due_seen_lem past p b source seen_now (record { low = w.counted.limit_low; octets = proper.0.octets_within }) start w.counted.addresses
        w.counted.six proper.1

  -- a register that is read next
  value_now : (register : Register) (size : ℕ) → Proper (uses (reads register size)) → (i : ℕ) → i < size
      → get_or (value_of p.chip.core p.chip.attributes register) i 0 ≡ byte_by start past register i
  value_now register size proper i l = value_seen start past p w.counted w.noticed register proper.0 i (rw proper.2 l)

  module _ (d : Deed) (proper : Proper d) (on : StandsOn (row_at (page_by past) (register_by past)) d) where
    abbrev then : Repeater
    then = repeater_at (next d p)

    moves : then ≡ repeater_by d r
    moves = repeater_next p d

    settled_then : Settled (d ∷ past) then
    settled_then = subst (Settled (d ∷ past)) (sym moves) (settled_next past d r proper w.settled)

    link_then : LinkKept (d ∷ past) then
    link_then = subst (LinkKept (d ∷ past)) (sym moves) (link_next past d r proper w.settled w.link)

    stood_then : Stood (d ∷ past) then
    stood_then = subst (Stood (d ∷ past)) (sym moves) (stood_next past d r proper w.settled links_now w.stood)

    links_then : Linked (d ∷ past) then
    links_then = linked (d ∷ past) then settled_then link_then

    parted_then : Parted (d ∷ past) then
    parted_then = parted (d ∷ past) then settled_then stood_then

    seen_as : (b : Burst) (source : List ℕ) → d ≡ bursts b source → BurstSeen past r b
    seen_as b source e = seen_now b source (subst Proper e proper)

    due_as : (b : Burst) (source : List ℕ) → d ≡ bursts b source → DueSeen start past p b source
    due_as b source e = due_now b source (subst Proper e proper)

    value_as : (register : Register) (size : ℕ) → d ≡ uses (reads register size) → (i : ℕ) → i < size
        → get_or (value_of p.chip.core p.chip.attributes register) i 0 ≡ byte_by start past register i
    value_as register size e = value_now register size (subst Proper e proper)

    on_now : StandsOn (selected_by p.host) d
    on_now = on_selected past p.host d w.page w.register on

  foreseen : (d : Deed) (proper : Proper d) (on : StandsOn (row_at (page_by past) (register_by past)) d) → Foreseen past p d
  unfolding repeater_by
  foreseen (bursts b source) proper on = (
    seen_now b source proper,
    cuts_seen past p b source parted_now
        (subst (Parted (bursts b source ∷ past)) (moves (bursts b source) proper on) (parted_then (bursts b source) proper on)),
  )
  foreseen (pulses mask) proper on = tt
  foreseen ticks proper on = tt
  foreseen (commands g c) proper on = tt
  foreseen (uses u) proper on = tt
  foreseen resets proper on = tt
  foreseen (refused k) proper on = tt

  whole_next : (d : Deed) → Proper d → StandsOn (row_at (page_by past) (register_by past)) d → Whole start (d ∷ past) (next d p)
  whole_next d proper on =
      let s = selection_next past p w.page w.register d in
      record {
        page = s.0;
        register = s.1;
        settled = settled_then d proper on;
        link = link_then d proper on;
        stood = stood_then d proper on;
        reported = subst (Reported (d ∷ past)) (sym (moves d proper on)) (reported_next past d r proper (seen_as d proper on) w.reported);
        counted = counted_next start past d p proper (foreseen d proper on) (on_now d proper on) w.row w.counted;
        noticed =
            noticed_next start past d p proper (seen_as d proper on) (due_as d proper on) parted_now (parted_then d proper on) links_now
            (links_then d proper on) w.reported w.noticed;
        row = rowed_next past d p proper (on_now d proper on) w.counted.six w.row;
        sequence = sequenced_next start past d p (on_now d proper on) (value_as d proper on) w.sequence;
      }

  -- THE ANSWER

  used_seen : (u : Use) → Proper (uses u) → StandsUse (selected_by p.host) u → (doing (uses u) p).answer ≡ answer_by start past (uses u)
  unfolding doing used_at answer_by
  used_seen (selects_p n) proper on = refl
  used_seen (selects_r n) proper on = refl
  used_seen (allows k b) proper on = refl
  used_seen (addresses i b) proper on = refl
  used_seen asks proper on = ap Value (status_seen start past p w.noticed)
  used_seen (reads register size) proper on =
      ap Value
      (read_seen start past p.host register size (value_of p.chip.core p.chip.attributes register) w.sequence on (value_now register size proper))

  pub answer_seen : (d : Deed) → Proper d → StandsOn (row_at (page_by past) (register_by past)) d → (doing d p).answer ≡ answer_by start past d
  unfolding doing answer_by noted_on burst_on
  answer_seen (bursts b source) proper on = let seen = seen_now b source proper in rw (seen.word, seen.out)
  answer_seen (pulses mask) proper on = refl
  answer_seen ticks proper on = refl
  answer_seen (commands g c) proper on = refl
  answer_seen (uses u) proper on = used_seen u proper (on_now (uses u) proper on)
  answer_seen resets proper on = refl
  answer_seen (refused k) proper on = refl

-- RUNS

module _ (start : Start) where
  module _ (past : List Deed) (p : Point) (w : Whole start past p) (bs : List ℕ) where
    pub step_did : (Runs.happening p bs).after ≡ next (deed_after past bs) p
    unfolding happening
    step_did = ap (λ (t : Stepped). at t.chip t.host) (did past p w.page w.register bs)

    pub whole_after : Whole start (deed_after past bs ∷ past) (happens p bs).after
    whole_after =
        subst (Whole start (deed_after past bs ∷ past)) (sym step_did)
        (whole_next start past p w (deed_after past bs) (proper_deed past bs) (stands_on past bs))

    pub answer_after : (happens p bs).answer ≡ answer_by start past (deed_after past bs)
    unfolding happening
    answer_after =
        ap (λ (t : Stepped). t.answer) (did past p w.page w.register bs)
        ∙ answer_seen start past p w (deed_after past bs) (proper_deed past bs) (stands_on past bs)

  pub whole_run : (past : List Deed) (p : Point) (rs : List (List ℕ)) → Whole start past p → Whole start (deeds_from past rs) (run p rs)
  unfolding run_of deeds_from
  whole_run past p [] w = w
  whole_run past p (bs ∷ rs) w = whole_run (deed_after past bs ∷ past) (happens p bs).after rs (whole_after past p w bs)

  pub answers_run : (past : List Deed) (p : Point) (rs : List (List ℕ)) → Whole start past p → answers_in (history p rs) ≡ answers_by start past rs
  unfolding history_of answers_by
  answers_run past p [] w = refl
  answers_run past p (bs ∷ rs) w =
      ap₂ (λ (a : Answer) (more : List Answer). a ∷ more) (answer_after past p w bs)
      (answers_run (deed_after past bs ∷ past) (happens p bs).after rs (whole_after past p w bs))

pub whole_up : (given : Supply) → Supplied given → Whole (start_of given) [] (Runs.start given)
unfolding page_by register_by
whole_up given s = record {
  page = refl;
  register = refl;
  settled = settled_up;
  link = link_up;
  stood = stood_up;
  reported = reported_up;
  counted = counted_up given s.given_proper s.six;
  noticed = noticed_up given;
  row = rowed_up;
  sequence = sequenced_up (start_of given);
}

-- its instance, with counters and addresses of 0
zero_whole : Whole (start_of (Runs.all_at 0)) [] (Runs.start (Runs.all_at 0))
zero_whole = whole_up (Runs.all_at 0) zero_supplied
