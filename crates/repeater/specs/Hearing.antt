-- Document 01, 'Burst' and 'Partition': which ports are sent to (T), listened to (L) and heard (H) before a burst, by the states
-- that they are in; and what the burst is for one of them.
--   transmits i p, listens i p == port p at place i is in T, in L
--   in_t r i, in_l r i, in_h r activity i == the port at place i is in T, L, H
--   hearing_of r activity       == the sets as masks, and what is heard
--   meeting_of effect activity lasting alternate i == what the burst is for port i: collided, clean, reconnecting, and the collision's length;
--                                 lasting is the set of the ports that it is clean for and lasts, and no other clean burst is one for a port
-- Assumes nothing.
use Rattle.std.specs.Prelude.{ℕ, Bool, not, ◌&&◌, ◌||◌, eqb}
use Rattle.ports.specs.Sets.{aui, has, set_of}
use Rattle.port.specs.declared.Port.{Port}
use Rattle.port.specs.declared.Meeting.{Meeting}
use Rattle.burst.specs.declared.Activity.{Activity}
use Rattle.burst.specs.declared.Hearing.{Hearing}
use Rattle.burst.specs.declared.Effect.{Effect}
use Rattle.burst.specs.Burst.{in_e, heard_of}
use Rattle.burst.specs.Clean.{reconnecting_at}
use Rattle.repeater.specs.declared.Repeater.{Repeater}
use Rattle.repeater.specs.Door.{port_at}

-- T: an enabled port that, for TP, passes its link
unfoldable pub transmits : ℕ → Port → Bool
transmits i p = p.enabled && (eqb i aui || p.link_pass)

abbrev pub in_t : Repeater → ℕ → Bool
in_t r i = transmits i (port_at r i)

-- L: a port of T that is connected
unfoldable pub listens : ℕ → Port → Bool
listens i p = transmits i p && not p.partitioned

abbrev pub in_l : Repeater → ℕ → Bool
in_l r i = listens i (port_at r i)

-- H: E within L
abbrev pub in_h : Repeater → Activity → ℕ → Bool
in_h r activity i = in_e activity i && in_l r i

unfoldable pub hearing_of : Repeater → Activity → Hearing
hearing_of r activity =
    record { e = set_of (in_e activity); t = set_of (in_t r); h = set_of (in_h r activity); heard = heard_of (set_of (in_h r activity)) }

unfoldable pub meeting_of : Effect → Activity → ℕ → Bool → ℕ → Meeting
meeting_of effect activity lasting alternate i =
    record { collided = has effect.collided i; clean = has lasting i; reconnecting = reconnecting_at effect lasting alternate i; x = activity.x }
