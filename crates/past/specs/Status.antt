-- Document 01, 'Commands', the Gets: the status bits since their last clearing Get or reset, and what a Get gives.
--   soundsWrong past d i == a rate error of port i, heard alone; sqe d; loopback past d; jabbers past d == the events of the other bits
--   rate_by i, sqe_by, loopback_by, jabber_by == the bits after a past; rate_by 8 is B, the TP ports' are the others
--   got_by past c         == the byte that the Get c gives after a past
--   g_by past             == G: what the last Get since the last reset gave
-- Assumes nothing.
use Rattle.std.specs.Prelude.{ℕ, ◌+◌, ◌*◌, Bool, false, cond, not, ◌&&◌, ◌||◌, List, [], ◌∷◌, eqb, leb, ltb}
use Rattle.ports.specs.Sets.{aui, has, gather, set_of}
use Rattle.past.specs.Deeds.{Deed, is_reset, command_in, if_burst}
use Rattle.past.specs.Since.{came_since}
use Rattle.past.specs.Settings.{commanded}
use Rattle.past.specs.Link.{passes_by}
use Rattle.past.specs.Bursts.{one, out_by}
use Rattle.past.specs.Partition.{sent_to, heard_by, partitioned_by}
use Rattle.past.specs.Credits.{if}

-- ---- What a burst reports

unfoldable pub mistimes : ℕ → List Deed → Deed → Bool
mistimes i past d = if_burst false (λ b source. b.rate_error && one (heard_by past b) && has (heard_by past b) i) d

unfoldable pub sqe : List Deed → Deed → Bool
sqe past d = if_burst false (λ b source. b.sqe_test) d

unfoldable pub loopback : List Deed → Deed → Bool
loopback past d = if_burst false (λ b source. b.loopback_missing && out_by (sent_to past) (heard_by past b) aui) d

unfoldable pub jabbers : List Deed → Deed → Bool
jabbers past d = if_burst false (λ b source. ltb 65536 b.d && not (eqb (set_of (out_by (sent_to past) (heard_by past b))) 0)) d

-- ---- The bits

abbrev pub clears_b : List Deed → Deed → Bool
clears_b past d = commanded 0b10001111 d || commanded 0b10001101 d || is_reset d

abbrev pub clears_s_l : List Deed → Deed → Bool
clears_s_l past d = commanded 0b10001111 d || commanded 0b10001011 d || is_reset d

abbrev pub clears_rates : List Deed → Deed → Bool
clears_rates past d = commanded 0b10100000 d || is_reset d

abbrev pub clears_m : List Deed → Deed → Bool
clears_m past d = commanded 0b11110000 d || is_reset d

unfoldable pub rate_by : ℕ → List Deed → Bool
rate_by i past = came_since (mistimes i) (λ before d. cond (eqb i aui) (clears_b before d) (clears_rates before d)) past

unfoldable pub sqe_by : List Deed → Bool
sqe_by past = came_since sqe clears_s_l past

unfoldable pub loopback_by : List Deed → Bool
loopback_by past = came_since loopback clears_s_l past

unfoldable pub jabber_by : List Deed → Bool
jabber_by past = came_since jabbers clears_m past

-- ---- What a Get gives

abbrev pub is_get : ℕ → Bool
is_get c = leb 0b10000000 c

-- PBSL0000, P for connected
abbrev pub aui_byte : List Deed → ℕ
aui_byte past =
    128 * if (not (partitioned_by past aui)) + 64 * if (rate_by aui past) + 32 * if (sqe_by past) + 16 * if (loopback_by past)

unfoldable pub got_by : List Deed → ℕ → ℕ
got_by past c =
    cond (eqb c 0b10001111 || eqb c 0b10001011 || eqb c 0b10001101 || eqb c 0b10001001) (aui_byte past)
    (cond (eqb c 0b10000000) (gather 8 (λ i. not (partitioned_by past i)))
    (cond (eqb c 0b10100000) (gather 8 (λ i. rate_by i past))
    (cond (eqb c 0b11010000) (gather 8 (λ i. passes_by i past))
    (cond (eqb c 0b11110000) (128 * if (jabber_by past))
    1))))

unfoldable pub g_by : List Deed → ℕ
g_by [] = 0
g_by (d ∷ past) = cond (is_reset d) 0 (cond (is_get (command_in d)) (got_by past (command_in d)) (g_by past))
