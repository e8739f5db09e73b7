-- Document 01, 'Burst', the paragraph on credits. For a short event RFC 1516 wants a limit between 74 and 82 bit times: power-up chooses one of 75 to 81, and
-- 78 is the usual one. For a late event, of 480 to 565, the paper takes over 512; for a data rate mismatch, of 552 to 565, over 552.
--   Met                 == a burst as the chip met it: H, the single heard port or none, whether it is a collision for the credits, the ports that it
--                          partitioned, and the short event limit
--   class_of limit burst == the register of the one class that a single heard port's burst without collision falls in
--   same_address s a     == two addresses are the same, byte by byte
--   Due                 == what a burst is credited with, worked out once: due_of
--   Share               == the part that one port has in it: share_of
--   credit_for share burst r == the credit of the counter of register r; credits_of lists all thirteen
--   credit_of due burst i r  == the same for port i; frame_at due i == it gets a readable frame
--   credited_all due burst source nine == all nine ports' attributes after the burst
--   SingleHeard met, Consistent due   == the single port, where there is one, is heard; an address changes at no other port
-- Assumes nothing.
use Rattle.std.specs.Prelude.{◌≡◌, ℕ, ◌+◌, ◌%◌, ◌^◌, ◌<◌, Option, Some, None, Bool, true, false, cond, not, ◌&&◌, ◌||◌, List, replicate, ◌==◌, nat_eq, nat_lt, slice_index}
use Rattle.ports.specs.Sets.{port_count, is_at, has, set_of}
use Rattle.ports.specs.Each.{each}
use Rattle.record.specs.declared.Burst.{Burst}
use Rattle.burst.specs.Marks.{jabber_above}
use Rattle.attributes.specs.declared.Attributes.{Attributes}
use Rattle.attributes.specs.declared.Nine.{Nine}
use Rattle.attributes.specs.declared.Met.{Met}
use Rattle.attributes.specs.declared.Due.{Due}
use Rattle.attributes.specs.declared.Share.{Share}
use Rattle.attributes.specs.Nine.{readable_frames, readable_octets, fcs_errors, alignment_errors, frames_too_long, short_events, runts}
use Rattle.attributes.specs.Nine.{collisions, late_events, very_long_events, rate_mismatches, auto_partitions, address_changes, counter_count}
use Rattle.attributes.specs.Nine.{address_of}

-- in bit times: a burst of fewer than the limit is a short event; the usual limit, the lowest and the highest
abbrev pub short_below : ℕ
short_below = 78

abbrev pub short_from : ℕ
short_from = 75

abbrev pub short_to : ℕ
short_to = 81

-- octets of the shortest and of the longest frame
abbrev pub shortest : ℕ
shortest = 64

abbrev pub longest : ℕ
longest = 1518

-- in bit times: a collision that begins after more is late
abbrev pub late_above : ℕ
late_above = 512

-- in bit times: a burst of more with a rate error is a data rate mismatch
abbrev pub mismatch_above : ℕ
mismatch_above = 552

-- the first of these in this order
unfoldable pub class_of : ℕ → Burst → ℕ
class_of limit burst =
    cond (nat_lt burst.d limit) short_events
    (cond (nat_lt burst.n shortest) runts
    (cond (nat_lt longest burst.n) frames_too_long
    (cond burst.fcs_bad (cond (nat_lt 0 burst.k) alignment_errors fcs_errors)
    readable_frames)))

unfoldable pub same_address : List ℕ → List ℕ → Bool
same_address s a =
    (slice_index s 0 == slice_index a 0)
    && slice_index s 1 == slice_index a 1
    && slice_index s 2 == slice_index a 2
    && slice_index s 3 == slice_index a 3
    && slice_index s 4 == slice_index a 4
    && slice_index s 5 == slice_index a 5

-- the port that the class goes to: in a collision it goes to none
unfoldable pub class_port : Met → Option ℕ
class_port met = cond met.collision None met.single

-- a readable frame is credited to that port
abbrev pub framed : Option ℕ → ℕ → Bool
framed (Some single) class = nat_lt single port_count && class == readable_frames
framed None class = false

-- the port whose last source address a readable frame changes, as a set
unfoldable pub changed_by : Nine → Bool → Option ℕ → List ℕ → ℕ
changed_by nine frame (Some single) source = cond (frame && not (same_address source (address_of nine single))) (set_of (λ i. nat_eq i single)) 0
changed_by nine frame None source = 0

unfoldable pub due_of : Nine → Met → Burst → List ℕ → Due
due_of nine met burst source =
    let single : Option ℕ = class_port met in
    let class : ℕ = class_of met.limit burst in
    record {
      heard = met.heard;
      single = single;
      collision = met.collision;
      class = class;
      cut = met.cut;
      changed = changed_by nine (framed single class) single source;
      octets = cond (framed single class) burst.n 0;
    }

unfoldable pub share_of : Due → ℕ → Share
share_of due i = record {
  heard = has due.heard i;
  single = is_at due.single i;
  collision = due.collision && has due.heard i;
  class = due.class;
  cut = has due.cut i;
  changed = has due.changed i;
}

abbrev pub one : Bool → ℕ
one b = cond b 1 0

abbrev pub in_class : Share → ℕ → Bool
in_class share r = share.single && share.class == r

unfoldable pub credit_for : Share → Burst → ℕ → ℕ
credit_for share burst r =
    cond (r == readable_frames) (one (in_class share readable_frames))
    (cond (r == readable_octets) (cond (in_class share readable_frames) burst.n 0)
    (cond (r == fcs_errors) (one (in_class share fcs_errors))
    (cond (r == alignment_errors) (one (in_class share alignment_errors))
    (cond (r == frames_too_long) (one (in_class share frames_too_long))
    (cond (r == short_events) (one (in_class share short_events))
    (cond (r == runts) (one (in_class share runts))
    (cond (r == collisions) (one share.collision)
    (cond (r == late_events) (one (share.collision && nat_lt late_above burst.c))
    (cond (r == very_long_events) (one (share.heard && nat_lt jabber_above burst.d))
    (cond (r == rate_mismatches) (one (share.single && burst.rate_error && nat_lt mismatch_above burst.d))
    (cond (r == auto_partitions) (one share.cut)
    (cond (r == address_changes) (one share.changed)
    0))))))))))))

-- by register
unfoldable pub credits_of : Share → Burst → List ℕ
credits_of share burst = each {A = ℕ} (λ r none. credit_for share burst r) (replicate counter_count 0)

unfoldable pub credit_of : Due → Burst → ℕ → ℕ → ℕ
credit_of due burst i r = credit_for (share_of due i) burst r

unfoldable pub frame_at : Due → ℕ → Bool
frame_at due i = in_class (share_of due i) readable_frames

-- counters wrap at 2^32
unfoldable pub counted : List ℕ → List ℕ → List ℕ
counted credits counters = each (λ r counter. (counter + slice_index credits r) % 2 ^ 32) counters

unfoldable pub credited_with : Share → Burst → List ℕ → Attributes → Attributes
credited_with share burst source port =
    record { counters = counted (credits_of share burst) port.counters; address = cond (in_class share readable_frames) source port.address }

-- a port that has no part in the burst keeps what it has
unfoldable pub credited_at : Due → Burst → List ℕ → ℕ → Attributes → Attributes
credited_at due burst source i port = cond (has due.heard i || has due.cut i) (credited_with (share_of due i) burst source port) port

unfoldable pub credited_all : Due → Burst → List ℕ → Nine → Nine
credited_all due burst source nine = record { ports = each (credited_at due burst source) nine.ports }

abbrev pub SingleHeard : Met → Type 0
SingleHeard met = (p : ℕ) → met.single ≡ Some p → p < port_count → has met.heard p ≡ true

pub record Consistent (due : Due) : Type 0 where
  pub single_heard : (p : ℕ) → due.single ≡ Some p → p < port_count → has due.heard p ≡ true
  pub changed_single : (i : ℕ) → has due.changed i ≡ true → due.single ≡ Some i
