-- Document 01, 'Host registers', P 1, P 2 and the C read, by the past: the change bits since they were last read, the enables as last written, the interrupt and
-- the interface error.
--   changes first r j      == the event of bit j of change register R
--   clears r               == a read of that register, or a reset
--   change_by first past r j == the bit after a past
--   allowed_by past r       == the enables of R as last written since the last reset
--   interrupt_by first past == some change bit and its enable are both one
--   error_by past           == a Get through S or a Set through G came since the last C read or reset
-- Assumes nothing.
use Rattle.std.specs.Prelude.{ℕ, zero, suc, Bool, true, false, cond, not, ◌&&◌, ◌||◌, List, [], ◌∷◌, eqb}
use Rattle.std.specs.Bool.{beq}
use Rattle.ports.specs.Sets.{aui, has}
use Rattle.host.specs.declared.Register.{Register}
use Rattle.host.specs.declared.Register.TheVariants as reg
use Rattle.past.specs.Deeds.{Deed, Use, bursts, pulses, ticks, commands, uses, resets, refused, selects_p, selects_r, allows, addresses, asks, reads}
use Rattle.past.specs.Deeds.{is_reset, if_use}
use Rattle.past.specs.Since.{came_since}
use Rattle.past.specs.Link.{passes_by}
use Rattle.past.specs.Partition.{partitioned_by}
use Rattle.past.specs.Addresses.{newcomer}
use Rattle.past.specs.Status.{is_get, loopback, sqe}

-- ---- Change bits

abbrev pub differs : Bool → Bool → Bool
differs a b = not (beq a b)

abbrev pub turns_partition : ℕ → List Deed → Deed → Bool
turns_partition i past d = differs (partitioned_by past i) (partitioned_by (d ∷ past) i)

abbrev pub turns_link : ℕ → List Deed → Deed → Bool
turns_link i past d = differs (passes_by i past) (passes_by i (d ∷ past))

-- TP bits are bits 0 to 7, a single AUI bit is bit 7
unfoldable pub changes : (ℕ → List ℕ) → ℕ → ℕ → List Deed → Deed → Bool
changes first r j past d =
    cond (eqb r 0) (turns_partition j past d)
    (cond (eqb r 1) (eqb j 7 && turns_partition aui past d)
    (cond (eqb r 2) (turns_link j past d)
    (cond (eqb r 3) (eqb j 7 && loopback past d)
    (cond (eqb r 4) (eqb j 7 && sqe past d)
    (cond (eqb r 6) (newcomer first past d j)
    (cond (eqb r 7) (eqb j 7 && newcomer first past d aui)
    false))))))

abbrev pub is_change : ℕ → Register → Bool
is_change r reg.Unlisted = false
is_change r reg.TransmitCollisions = false
is_change r reg.TotalOctets = false
is_change r reg.Version = false
is_change r reg.SetPort = false
is_change r reg.GetPort = false
is_change r (reg.Change k) = eqb k r
is_change r (reg.Enable k) = false
is_change r (reg.Counter i k) = false
is_change r (reg.Address i) = false

abbrev pub reads_change : ℕ → Use → Bool
reads_change r (selects_p n) = false
reads_change r (selects_r n) = false
reads_change r (allows k b) = false
reads_change r (addresses i b) = false
reads_change r asks = false
reads_change r (reads register size) = is_change r register

unfoldable pub clears : ℕ → List Deed → Deed → Bool
clears r past d = is_reset d || if_use false (reads_change r) d

unfoldable pub change_by : (ℕ → List ℕ) → List Deed → ℕ → ℕ → Bool
change_by first past r j = came_since (changes first r j) (clears r) past

-- ---- Enables

-- registers with a single AUI bit keep bit 7 of what is written
abbrev pub kept : ℕ → ℕ → ℕ
kept r b = cond (eqb r 0 || eqb r 2 || eqb r 6) b (cond (has b 7) 128 0)

abbrev pub allowed_used : ℕ → ℕ → Use → ℕ
allowed_used r e (selects_p n) = e
allowed_used r e (selects_r n) = e
allowed_used r e (allows k b) = cond (eqb k r) (kept r b) e
allowed_used r e (addresses i b) = e
allowed_used r e asks = e
allowed_used r e (reads register size) = e

unfoldable pub allowed_by : List Deed → ℕ → ℕ
allowed_by [] r = 0
allowed_by (d ∷ past) r = cond (is_reset d) 0 (if_use (allowed_by past r) (allowed_used r (allowed_by past r)) d)

-- ---- The C read

-- f says yes to one of the first n numbers
unfoldable pub any_below : ℕ → (ℕ → Bool) → Bool
any_below zero f = false
any_below (suc n) f = f n || any_below n f

unfoldable pub interrupt_by : (ℕ → List ℕ) → List Deed → Bool
interrupt_by first past = any_below 8 (λ r. any_below 8 (λ j. change_by first past r j && has (allowed_by past r) j))

abbrev pub wrong_way : List Deed → Deed → Bool
wrong_way past (bursts b source) = false
wrong_way past (pulses mask) = false
wrong_way past ticks = false
wrong_way past (commands through_g c) = cond through_g (not (is_get c)) (is_get c)
wrong_way past (uses u) = false
wrong_way past resets = false
wrong_way past (refused k) = false

abbrev pub is_ask : Use → Bool
is_ask (selects_p n) = false
is_ask (selects_r n) = false
is_ask (allows k b) = false
is_ask (addresses i b) = false
is_ask asks = true
is_ask (reads register size) = false

unfoldable pub error_by : List Deed → Bool
error_by past = came_since wrong_way (λ before d. is_reset d || if_use false is_ask d) past
