-- One outcome each, of the functions that speak of counters and addresses as they are kept. Assumes nothing.
--   full_fits        == arrays that fit their type are there: every counter full, and no address known
--   an_address_write == what the contract of an address write allows is there, at AUI; no_neighbour == and TP7's bytes for AUI's are not; .. _alone == likewise of addresses that are lent alone
use Prim.Native.Nat.{ℕ, zero, suc, ◌^◌, ◌<◌}
use mathlib.Core.Path.{◌≡◌, refl, sym, ap, ap₂, ◌∙◌}
use mathlib.Core.List.{List, [], ◌∷◌}
use native.Mathlib.Omega.{arith}
use lib.ListN.{set, get_or, replicate}
use Rattle.ports.specs.Each.{each}
use Rattle.attributes.specs.declared.Nine.{Nine}
use Rattle.attributes.specs.declared.Due.{Due}
use Rattle.attributes.specs.declared.Flat.{Flat}
use Rattle.attributes.specs.Nine.{address_of}
use Rattle.attributes.specs.Credits.{credited_all}
use Rattle.attributes.specs.Flat.{flat_size, spots_size, spots_of, nine_in, Fit, ReaddressedAlone, Readdressed}
use Rattle.attributes.proofs.FlatLaws.{nine_one, spots_back}
use Rattle.chip.specs.declared.FlatChip.{FlatChip}
use Rattle.chip.specs.declared.Powered.{Powered}
use Rattle.chip.proofs.FlatLaws.{chip_one}
use Rattle.himib.specs.declared.Credited.{Credited}
use Rattle.himib.specs.declared.Stepped.{Stepped}
use Rattle.himib.specs.Flat.{stepped_by}
use Rattle.himib.proofs.Computing.{computing}
use Rattle.start.specs.declared.Started.{Started}
use Rattle.ties.specs.Flat.{OneFlat, OneChip, OneLeft, OneStart, OneReaddressAlone, OneReaddress, OneCredit, OneBurst, OneFollow, OneAddress}

-- INSTANCES

abbrev full : List ℕ
full = replicate flat_size 4294967295

abbrev unknown : List ℕ
unknown = replicate spots_size 0

abbrev source : List ℕ
source = 2 ∷ 7 ∷ 6 ∷ 5 ∷ 4 ∷ 3 ∷ []

low_at : (n v k : ℕ) → v < 2 ^ 32 → get_or (replicate n v) k 0 < 2 ^ 32
low_at zero v k l = omega arith
low_at (suc n) v zero l = l
low_at (suc n) v (suc k) l = low_at n v k l

abbrev kept : Flat
kept = record { counters = full; addresses = unknown }

-- the same with these addresses
abbrev with : List ℕ → Flat
with addresses = record { counters = full; addresses = addresses }

full_fits : Fit kept
full_fits = record { counters = record { long = refl; low = λ k. low_at flat_size 4294967295 k (omega arith) }; spots = refl }

an_address_write : Readdressed 8 source kept (with (set (set (set (set (set (set unknown 48 2) 49 7) 50 6) 51 5) 52 4) 53 3))
unfolding computing each
an_address_write = record { counters = refl; fine = refl; is = λ e. refl }

no_neighbour : Readdressed 8 source kept (with (set (set (set (set (set (set unknown 42 2) 43 7) 44 6) 45 5) 46 4) 47 3)) → ⊥
unfolding computing each
no_neighbour w =
    let k : ◌≡◌ {A = ℕ} 0 2 = ap (λ (nine : Nine). get_or (address_of nine 8) 0 0) (w.is refl) in
    absurd (omega (arith, k))

an_address_alone : ReaddressedAlone 8 source unknown (set (set (set (set (set (set unknown 48 2) 49 7) 50 6) 51 5) 52 4) 53 3)
unfolding computing each
an_address_alone = record { fine = refl; is = λ e flat. refl }

no_neighbour_alone : ReaddressedAlone 8 source unknown (set (set (set (set (set (set unknown 42 2) 43 7) 44 6) 45 5) 46 4) 47 3) → ⊥
unfolding computing each
no_neighbour_alone w =
    let k : ◌≡◌ {A = ℕ} 0 2 = ap (λ (nine : Nine). get_or (address_of nine 8) 0 0) (w.is refl full) in
    absurd (omega (arith, k))

-- THE THEOREMS

-- two that fit and stand for the same records
pub one_flat : OneFlat
one_flat nine r s a b p q =
    let e = nine_one r.counters r.addresses s.counters s.addresses a.counters.long b.counters.long a.spots b.spots (p ∙ sym q) in
    ap₂ (λ (x y : List ℕ). record { counters = x; addresses = y }) e.0 e.1

pub one_chip : OneChip
one_chip t r s a b p q =
    ap₂ (λ (c : FlatChip) (w : Powered). record { number = w.number; chip = c })
    (chip_one r.chip s.chip a b (ap (λ (w : Powered). w.chip) (p ∙ sym q))) (p ∙ sym q)

pub one_left : OneLeft
one_left t r s a b p q =
    let e : stepped_by r ≡ stepped_by s = p ∙ sym q in
    ap₂ (λ (c : FlatChip) (w : Stepped). record { chip = c; host = w.host; answer = w.answer })
    (chip_one r.chip s.chip a b (ap (λ (w : Stepped). w.chip) e)) e

pub one_start : OneStart
one_start t r s a b p q =
    ap₂ (λ (c : FlatChip) (w : Started). record { fits = w.fits; limit = w.limit; number = w.number; chip = c })
    (chip_one r.chip s.chip a b (ap (λ (w : Started). w.chip) (p ∙ sym q))) (p ∙ sym q)

pub one_readdress_alone : OneReaddressAlone
one_readdress_alone i source addresses x y e p q =
    (nine_one (replicate 117 0) x (replicate 117 0) y refl refl (p.fine ∙ e) (q.fine ∙ e) (p.is e (replicate 117 0) ∙ sym (q.is e (replicate 117 0)))).1

-- whatever the counters are, how long they are too
pub one_readdress : OneReaddress
one_readdress i source flat x y e p q =
    let w : nine_in x ≡ nine_in y = p.is e ∙ sym (q.is e) in
    ap₂ (λ (c d : List ℕ). record { counters = c; addresses = d }) (p.counters ∙ sym q.counters)
    (sym (spots_back x.counters x.addresses (p.fine ∙ e)) ∙ ap spots_of w ∙ spots_back y.counters y.addresses (q.fine ∙ e))

pub one_credit : OneCredit
one_credit met b source flat r s x y f p q =
    let d : r ≡ s = p.due ∙ sym q.due in
    (d, one_flat _ x y (p.fine f) (q.fine f) (p.is f ∙ ap (λ (z : Due). credited_all z b source (nine_in flat)) d) (q.is f))

pub one_burst_lem : OneBurst
one_burst_lem c b source flat r s x y f p q =
    let w = p.is f ∙ sym (q.is f) in (
      ap (λ (t : Credited). record { core = t.core; answer = t.answer }) w,
      one_flat _ x y (p.fine f) (q.fine f) (ap (λ (t : Credited). t.attributes) w) refl,
    )

pub one_follow : OneFollow
one_follow c h asked source flat r s x y f p q =
    let w = p.is f ∙ sym (q.is f) in (
      ap (λ (t : Stepped). record { core = t.chip.core; host = t.host; answer = t.answer }) w,
      one_flat _ x y (p.fine f) (q.fine f) (ap (λ (t : Stepped). t.chip.attributes) w) refl,
    )

pub one_address : OneAddress
one_address port source flat x y f p q = one_flat _ x y (p.fine f) (q.fine f) (p.is f) (q.is f)
