-- Document 01, 'Burst', the paragraph on credits, and Q-6, with sets alone: what a deed credits each counter with, by the ports heard. The limit of short events
-- is what power-up was given.
--   short limit b, runt limit b == the two classes that the limit parts
--   readable b        == the numbers of a readable frame
--   alone b h i       == port i is heard alone, and without collision
--   credit_of limit b h i r == what a burst credits counter R of port i with, for R 0 to R 10
--   partition_credit past d i == R 11; R 12 is in Addresses, which has all thirteen as `credit_by`
--   frames_at past d i == it brings port i a readable frame
--   collision_by, octets_by == what a deed credits Transmit Collisions and Total Octets with
--   sum_by f past      == the sum of f over the deeds of a past
-- Assumes nothing.
use Rattle.std.specs.Prelude.{ℕ, ◌+◌, Bool, false, cond, not, ◌&&◌, List, [], ◌∷◌, eqb, leb, ltb}
use Rattle.ports.specs.Sets.{has}
use Rattle.record.specs.declared.Burst.{Burst}
use Rattle.past.specs.Deeds.{Deed, if_burst}
use Rattle.past.specs.Bursts.{one, more, crash}
use Rattle.past.specs.Partition.{heard_by, partitioned_by}

-- the six classes, each by its own conditions. The limit stands in the first two alone. A burst with 64 octets or more lasts 512 bit times or more, so no
-- limit up to 81 makes it a short event: the other four are told by octets, FCS and dribble bits. So of all that the past says R 5 and R 6 alone depend on
-- the limit. It is handed down from the bytes that a host reads through `counter_by` and `credit_by` to `credit_of`, and nothing else is given it.
abbrev pub short : ℕ → Burst → Bool
short limit b = ltb b.d limit

abbrev pub runt : ℕ → Burst → Bool
runt limit b = leb limit b.d && ltb b.n 64

abbrev pub too_long : Burst → Bool
too_long b = ltb 1518 b.n

abbrev pub framed : Burst → Bool
framed b = leb 64 b.n && leb b.n 1518

abbrev pub misaligned : Burst → Bool
misaligned b = framed b && b.fcs_bad && ltb 0 b.k

abbrev pub faulty : Burst → Bool
faulty b = framed b && b.fcs_bad && eqb b.k 0

abbrev pub readable : Burst → Bool
readable b = framed b && not b.fcs_bad

abbrev pub alone : Burst → ℕ → ℕ → Bool
alone b h i = one h && has h i && not (crash b h)

abbrev pub if : Bool → ℕ
if b = cond b 1 0

-- of a burst b that was heard by h, for the registers R 0 to R 10
unfoldable pub credit_of : ℕ → Burst → ℕ → ℕ → ℕ → ℕ
credit_of limit b h i r =
    cond (eqb r 0) (if (alone b h i && readable b))
    (cond (eqb r 1) (cond (alone b h i && readable b) b.n 0)
    (cond (eqb r 2) (if (alone b h i && faulty b))
    (cond (eqb r 3) (if (alone b h i && misaligned b))
    (cond (eqb r 4) (if (alone b h i && too_long b))
    (cond (eqb r 5) (if (alone b h i && short limit b))
    (cond (eqb r 6) (if (alone b h i && runt limit b))
    (cond (eqb r 7) (if (has h i && crash b h))
    (cond (eqb r 8) (if (has h i && crash b h && ltb 512 b.c))
    (cond (eqb r 9) (if (has h i && ltb 65536 b.d))
    (cond (eqb r 10) (if (alone b h i && b.rate_error && ltb 552 b.d))
    0))))))))))

-- R 11: not partitioned before, and partitioned after
unfoldable pub partition_credit : List Deed → Deed → ℕ → ℕ
partition_credit past d i = if (not (partitioned_by past i) && partitioned_by (d ∷ past) i)

unfoldable pub frames_at : List Deed → Deed → ℕ → Bool
frames_at past d i = if_burst false (λ b source. alone b (heard_by past b) i && readable b) d

unfoldable pub collision_by : List Deed → Deed → ℕ
collision_by past d = if_burst 0 (λ b source. if (more (heard_by past b))) d

unfoldable pub octets_by : List Deed → Deed → ℕ
octets_by past d = if_burst 0 (λ b source. cond (one (heard_by past b) && not (crash b (heard_by past b)) && readable b) b.n 0) d

unfoldable pub sum_by : (List Deed → Deed → ℕ) → List Deed → ℕ
sum_by f [] = 0
sum_by f (d ∷ past) = f past d + sum_by f past
