-- The status bits go by the past: a burst sets them, a Get clears its own, and nothing else touches them; and what a Get gives is what the past says.
-- What the repeater makes of a burst, and the ports' partitions and links, are taken from whoever proves them. Assumes nothing.
--   rate_next      == a TP port's bit rate error after one deed more; rates_cleared, rates_marked == those of all of them
--   after          == a deed that is no burst sets nothing, and clears what the past says
--   reported_up, reported_next == the status bits are those of the past, at power-up and after each deed
--   loopback_seen, sqe_seen_lem == what a burst reports of loopback and SQE Test is what the past says
--   got_seen       == what a Get gives
use Prim.Native.Nat.{ℕ, ◌≤◌, ◌<◌}
use mathlib.Core.Path.{◌≡◌, refl, sym, ap, ◌∙◌}
use mathlib.Core.Bool.{Bool, true, false, cond, not, ◌&&◌, ◌||◌, and_assoc, or_comm, true≢false}
use mathlib.Core.List.{List, [], ◌∷◌}
use native.Mathlib.Omega.{arith}
use borrow.Author.Tests.{ne_eqb}
use lib.Dec.{eqb, ltb}
use lib.Bits.{bit_or, or_lt}
use Rattle.ports.specs.Sets.{aui, is_at, has, gather}
use Rattle.ports.proofs.Sets.{has_gather, has_or, gather_lt, is_gather, gather_same}
use Rattle.management.specs.declared.Status.{Status}
use Rattle.management.specs.declared.Setting.{Setting}
use Rattle.management.specs.declared.Setting.TheVariants.{AlternateAui, AlternateTp, DisableAui, EnableAui, DisableTp, EnableTp, LinkTestOff, LinkTestOn}
use Rattle.management.specs.declared.Query.{Query}
use Rattle.management.specs.declared.Query.TheVariants.{Aui, AuiClearB, AuiClearSl, AuiClearBsl, Partition, Rates, Link, Mjlp, Version}
use Rattle.management.specs.declared.Command.{Command}
use Rattle.management.specs.declared.Command.TheVariants.{Set, Get, Unlisted}
use Rattle.management.specs.Commands.{command_of}
use Rattle.management.specs.Status.{marked, cleared_by}
use Rattle.port.specs.declared.Change.{Change}
use Rattle.port.specs.declared.Change.TheVariants.{Disabling, EnablingTp, StoppingTest, StartingTest}
use Rattle.record.specs.declared.Burst.{Burst}
use Rattle.burst.specs.Marks.{marks_of}
use Rattle.repeater.specs.declared.Repeater.{Repeater}
use Rattle.repeater.specs.Those.{Partitioned}
use Rattle.repeater.specs.Door.{put_at, each_port}
use Rattle.repeater.specs.Reset.{power_up}
use Rattle.repeater.specs.Answers.{answer_of, connected_at}
use Rattle.repeater.specs.Repeater.{quieted, burst_of, followed, changed_at, changed_tp, set_to, got_of, among}
use Rattle.repeater.proofs.DoorLaws.{those_has}
use Rattle.access.specs.Access.{is_listed}
use Rattle.himib.specs.Bursts.{activity_of}
use Rattle.past.specs.Deeds.{Deed, bursts, pulses, ticks, commands, uses, resets, refused, if_burst}
use Rattle.past.specs.Since.{came_since}
use Rattle.past.specs.Bursts.{one, out_by}
use Rattle.past.specs.Partition.{sent_to, heard_by, partitioned_by}
use Rattle.past.specs.Status.{mistimes, sqe, loopback, jabbers, clears_b, clears_s_l, clears_rates, clears_m, rate_by, sqe_by, loopback_by, jabber_by, aui_byte, got_by}
use Rattle.alone.specs.Doing.{Proper, obeying, repeater_by}
use Rattle.alone.specs.Seen.{Linked, Reported, BurstSeen, burst_seen, Parted}
use Rattle.alone.proofs.CommandBytes.{byte_of, Told, command_told, get_byte}

-- BIT RATE ERRORS OF THE TP PORTS

rate_next : (past : List Deed) (d : Deed) (i : ℕ) → i < 8 → rate_by i (d ∷ past) ≡ (not (clears_rates past d) && (mistimes i past d || rate_by i past))
unfolding rate_by came_since
rate_next past d i h =
    ap (λ (b : Bool). not (cond b (clears_b past d) (clears_rates past d)) && (mistimes i past d || rate_by i past)) (ne_eqb i 8 (λ e. omega arith))

abbrev rates_by : List Deed → ℕ
rates_by past = gather 8 (λ i. rate_by i past)

rates_cleared : (past : List Deed) (d : Deed) (b : Bool) → clears_rates past d ≡ b → ((i : ℕ) → mistimes i past d ≡ false)
    → cond b 0 (rates_by past) ≡ rates_by (d ∷ past)
unfolding gather
rates_cleared past d true c m = gather_same 8 (λ i. false) (λ i. rate_by i (d ∷ past)) (λ i h. sym (rate_next past d i h ∙ rw c))
rates_cleared past d false c m = gather_same 8 (λ i. rate_by i past) (λ i. rate_by i (d ∷ past)) (λ i h. sym (rate_next past d i h ∙ rw (c, m i)))

rates_marked : (past : List Deed) (d : Deed) (marks : ℕ) → clears_rates past d ≡ false → marks ≡ gather 8 (λ i. mistimes i past d)
    → bit_or (rates_by past) marks ≡ rates_by (d ∷ past)
rates_marked past d marks c e =
    is_gather 8 (bit_or (rates_by past) marks) (λ i. rate_by i (d ∷ past))
    (or_lt 8 (rates_by past) marks (gather_lt 8 (λ i. rate_by i past)) (rw e (gather_lt 8 (λ i. mistimes i past d))))
    (λ i h. has_or (rates_by past) marks i ∙ rw (has_gather 8 (λ i. rate_by i past) i h, e, has_gather 8 (λ i. mistimes i past d) i h, rate_next past d i h, c)
    (or_comm (rate_by i past) (mistimes i past d)))

-- DEEDS THAT ARE NO BURST

-- the status with what a deed clears
abbrev cleared_for : List Deed → Deed → Status → Status
cleared_for past d status = record {
  rate = not (clears_b past d) && status.rate;
  sqe = not (clears_s_l past d) && status.sqe;
  loopback = not (clears_s_l past d) && status.loopback;
  rates = cond (clears_rates past d) 0 status.rates;
  mjlp = not (clears_m past d) && status.mjlp;
}

after : (past : List Deed) (d : Deed) (r s : Repeater) → ((f : Burst → List ℕ → Bool) → if_burst false f d ≡ false)
    → s.status ≡ cleared_for past d r.status → Reported past r → Reported (d ∷ past) s
unfolding mistimes sqe loopback jabbers rate_by sqe_by loopback_by jabber_by came_since
after past d r s none e reported = record {
  rate = ap (λ (t : Status). t.rate) e ∙ rw (none _, reported.rate);
  rates = ap (λ (t : Status). t.rates) e ∙ rw reported.rates (rates_cleared past d (clears_rates past d) refl (λ i. none _));
  sqe = ap (λ (t : Status). t.sqe) e ∙ rw (none _, reported.sqe);
  loopback = ap (λ (t : Status). t.loopback) e ∙ rw (none _, reported.loopback);
  mjlp = ap (λ (t : Status). t.mjlp) e ∙ rw (none _, reported.mjlp);
}

pub reported_up : Reported [] power_up
unfolding gather rate_by sqe_by loopback_by jabber_by came_since
reported_up = record { rate = refl; rates = refl; sqe = refl; loopback = refl; mjlp = refl }

-- a Get clears by its own byte
got_clears : (past : List Deed) (g : Bool) (q : Query) (status : Status) → cleared_by q status ≡ cleared_for past (commands g (byte_of q)) status
unfolding cleared_by
got_clears past g Aui status = refl
got_clears past g AuiClearB status = refl
got_clears past g AuiClearSl status = refl
got_clears past g AuiClearBsl status = refl
got_clears past g Partition status = refl
got_clears past g Rates status = refl
got_clears past g Link status = refl
got_clears past g Mjlp status = refl
got_clears past g Version status = refl

-- a Set leaves the status, and clears nothing by its byte
changed_status : (how : Change) (i : ℕ) (r : Repeater) → (changed_tp how i r).status ≡ r.status
unfolding changed_tp changed_at put_at
changed_status how i r = go (ltb i aui)
  where
    go : (b : Bool) → (cond b (changed_at how i r) r).status ≡ r.status
    go true = refl
    go false = refl

set_status : (s : Setting) (r : Repeater) → (set_to s r).status ≡ r.status
unfolding set_to changed_at put_at
set_status AlternateAui r = refl
set_status AlternateTp r = refl
set_status DisableAui r = refl
set_status EnableAui r = refl
set_status (DisableTp i) r = changed_status Disabling i r
set_status (EnableTp i) r = changed_status EnablingTp i r
set_status (LinkTestOff i) r = changed_status StoppingTest i r
set_status (LinkTestOn i) r = changed_status StartingTest i r

set_clears : (past : List Deed) (g : Bool) (c : ℕ) (status : Status) → c < 128 → status ≡ cleared_for past (commands g c) status
set_clears past g c status h =
    let other : (k : ℕ) → 128 ≤ k → eqb c k ≡ false = λ k l. ne_eqb c k (λ e. omega arith) in
    rw (
      other 0b10001111 (omega arith),
      other 0b10001101 (omega arith),
      other 0b10001011 (omega arith),
      other 0b10100000 (omega arith),
      other 0b11110000 (omega arith),
    )

commanded_next : (past : List Deed) (g : Bool) (c : ℕ) (r : Repeater) (k : Command) → Told c k → is_listed k ≡ true → Reported past r
    → Reported (commands g c ∷ past) (obeying k r)
unfolding got_of
commanded_next past g c r (Set s) told l reported =
    after past (commands g c) r (set_to s r) (λ f. refl) (set_status s r ∙ set_clears past g c r.status told) reported
commanded_next past g c r (Get q) told l reported =
    after past (commands g c) r (got_of q r).repeater (λ f. refl)
    (got_clears past g q r.status ∙ ap (λ (n : ℕ). cleared_for past (commands g n) r.status) (sym told))
    reported
commanded_next past g c r Unlisted told l reported = absurd (true≢false (sym l))

-- BURSTS

module _ (past : List Deed) (r : Repeater) (b : Burst) (source : List ℕ) (seen : BurstSeen past r b) where
  mistimes_seen : (i : ℕ) → i < 16 → (b.rate_error && is_at (burst_seen r b).effect.single i) ≡ mistimes i past (bursts b source)
  unfolding mistimes
  mistimes_seen i h =
      ap (λ (t : Bool). b.rate_error && t) (seen.single i h)
      ∙ sym (and_assoc b.rate_error (one (heard_by past b)) (has (heard_by past b) i))

  out_at : (i : ℕ) → i < 16 → has (burst_seen r b).effect.out i ≡ out_by (sent_to past) (heard_by past b) i
  out_at i h = ap (λ (m : ℕ). has m i) seen.out ∙ has_gather 16 (out_by (sent_to past) (heard_by past b)) i h

  pub loopback_seen : (burst_seen r b).marks.loopback ≡ loopback past (bursts b source)
  unfolding burst_of followed marks_of activity_of loopback
  loopback_seen = ap (λ (t : Bool). b.loopback_missing && t) (out_at aui (omega arith))

  pub sqe_seen_lem : (burst_seen r b).marks.sqe ≡ sqe past (bursts b source)
  unfolding burst_of followed marks_of activity_of sqe
  sqe_seen_lem = refl

  burst_next : Reported past r → Reported (bursts b source ∷ past) (burst_seen r b).repeater
  unfolding burst_of followed marked marks_of activity_of sqe jabbers rate_by sqe_by loopback_by jabber_by came_since
  burst_next reported = record {
    rate = rw (mistimes_seen aui (omega arith), reported.rate) (or_comm (rate_by aui past) (mistimes aui past (bursts b source)));
    rates = ap (λ (n : ℕ). bit_or n (burst_seen r b).marks.rates) reported.rates
        ∙ rates_marked past (bursts b source) _ refl (gather_same 8 _ _ (λ i h. mistimes_seen i (omega arith)));
    sqe = rw reported.sqe (or_comm (sqe_by past) (sqe past (bursts b source)));
    loopback = rw (loopback_seen, reported.loopback) (or_comm (loopback_by past) (loopback past (bursts b source)));
    mjlp = rw (seen.out, reported.mjlp) (or_comm (jabber_by past) (jabbers past (bursts b source)));
  }

-- ALL DEEDS

pub reported_next : (past : List Deed) (d : Deed) (r : Repeater) → Proper d
    → ((b : Burst) (source : List ℕ) → d ≡ bursts b source → BurstSeen past r b)
    → Reported past r → Reported (d ∷ past) (repeater_by d r)
unfolding repeater_by quieted each_port
reported_next past (bursts b source) r proper seen reported = burst_next past r b source (seen b source refl) reported
reported_next past (pulses mask) r proper seen reported = after past (pulses mask) r _ (λ f. refl) refl reported
reported_next past ticks r proper seen reported = after past ticks r _ (λ f. refl) refl reported
reported_next past (commands g c) r proper seen reported = commanded_next past g c r (command_of c) (command_told c) proper reported
reported_next past (uses u) r proper seen reported = after past (uses u) r r (λ f. refl) refl reported
reported_next past resets r proper seen reported = after past resets r power_up (λ f. refl) refl reported
reported_next past (refused k) r proper seen reported = after past (refused k) r r (λ f. refl) refl reported

-- WHAT A GET GIVES

module _ (past : List Deed) (r : Repeater) (reported : Reported past r) (parted : Parted past r) (linked : Linked past r) where
  connected_seen : (i : ℕ) → i < 9 → connected_at r i ≡ not (partitioned_by past i)
  unfolding among
  connected_seen i h = ap (λ (t : Bool). not t) (sym (those_has Partitioned r i (omega arith)) ∙ parted i h)

  abbrev Gives : Query → Type 0
  Gives q = answer_of q r ≡ got_by past (byte_of q)

  aui_seen : answer_of Aui r ≡ aui_byte past
  unfolding answer_of
  aui_seen = rw (connected_seen aui (omega arith), reported.rate, reported.sqe, reported.loopback)

  answer_seen : (q : Query) → Gives q
  unfolding answer_of got_by
  answer_seen Aui = aui_seen
  answer_seen AuiClearB = aui_seen
  answer_seen AuiClearSl = aui_seen
  answer_seen AuiClearBsl = aui_seen
  answer_seen Partition = gather_same 8 _ _ (λ i h. connected_seen i (omega arith))
  answer_seen Rates = reported.rates
  answer_seen Link = gather_same 8 _ _ (λ i h. linked i (omega arith))
  answer_seen Mjlp = rw reported.mjlp
  answer_seen Version = refl

  pub got_seen : (c : ℕ) (q : Query) → command_of c ≡ Get q → (got_of q r).value ≡ got_by past c
  unfolding got_of
  got_seen c q e = answer_seen q ∙ ap (λ (n : ℕ). got_by past n) (sym (get_byte c q e))
