-- Document 01, 'Host registers': what a C write selects, and what starts a byte sequence afresh. Assumes nothing.
use Prim.Native.Nat.{ℕ, ◌+◌, ◌-◌, ◌/◌, ◌%◌, ◌<◌}
use mathlib.Core.Path.{◌≡◌, refl, sym, ◌∙◌}
use mathlib.Core.Bool.{Bool, true, false, cond, ◌||◌, true≢false}
use mathlib.Core.List.{List}
use native.Mathlib.Omega.{arith}
use lib.Dec.{eqb}
use lib.ListN.{replicate}
use Rattle.host.specs.declared.Host.{Host}
use Rattle.host.specs.Sequence.{power_up, with_selection, with_sequence, restarted, selects, selected, place_for, is_last, next_place, read_byte, wrote_byte}
use Rattle.host.proofs.Places.{selects_page, selects_register, at_first}

-- a record in the middle of a written address
abbrev fifth_next : Host
fifth_next = with_sequence power_up (replicate 6 9) 4 true

-- Two C writes select any P and any R below 32, whatever was selected and however far a sequence had come.
the_last_page : selected 0xee (selected 0x1f fifth_next) ≡ record { page = 31; register = 14; bytes = replicate 6 9; place = 0; writing = true }
unfolding selected
the_last_page = refl

pub two_c_writes : (p r : ℕ) (h : Host) → p < 32 → r < 32 → selected (224 + r) (selected p h) ≡ restarted (with_selection h p r)
two_c_writes p r h l u =
    let e : 224 + r - 224 ≡ r = omega arith in
    rw (← (selects_page p h l))
    (sym (selects_register (224 + r) (restarted (with_selection h p h.register)) (omega arith) (omega arith)) ∙ rw e)

-- A C write that selects starts afresh, in either direction.
module _ (b : ℕ) (h : Host) where
  page_then : Host
  page_then = restarted (with_selection h (b % 32) h.register)

  register_then : Host
  register_then = restarted (with_selection h h.page (b % 32))

after_four : (selects 0xee ≡ true) × (place_for true 6 fifth_next ≡ 4) × (place_for true 6 (selected 0xee fifth_next) ≡ 0)
unfolding selects selected place_for
after_four = (refl, refl, refl)

pub restarted_by_a_selection : (w : Bool) (n b : ℕ) (h : Host) → selects b ≡ true → place_for w n (selected b h) ≡ 0
unfolding selects selected page_then register_then
restarted_by_a_selection w n b h e = go (eqb (b / 32) 0) (eqb (b / 32) 7) e
  where
    go : (x y : Bool) → (x || y) ≡ true → place_for w n (cond x (page_then b h) (cond y (register_then b h) h)) ≡ 0
    go true y t = at_first n (with_selection h (b % 32) h.register) h.bytes w h.writing
    go false true t = at_first n (with_selection h h.page (b % 32)) h.bytes w h.writing
    go false false t = absurd (true≢false (sym t))

-- A C write that is turned away leaves the sequence where it stands.
a_refused_write : (selects 0x20 ≡ false) × (place_for true 6 (selected 0x20 fifth_next) ≡ 4)
unfolding selects selected place_for
a_refused_write = (refl, refl)

pub kept_by_a_refusal : (b : ℕ) (h : Host) → selects b ≡ false → selected b h ≡ h
unfolding selects selected page_then register_then
kept_by_a_refusal b h e = go (eqb (b / 32) 0) (eqb (b / 32) 7) e
  where
    go : (x y : Bool) → (x || y) ≡ false → cond x (page_then b h) (cond y (register_then b h) h) ≡ h
    go true y t = absurd (true≢false t)
    go false true t = absurd (true≢false t)
    go false false t = refl

-- A turn starts afresh, either way.
read_then_write : ((read_byte 6 (replicate 6 7) power_up).host.place ≡ 1) × (place_for true 6 (read_byte 6 (replicate 6 7) power_up).host ≡ 0)
unfolding read_byte place_for next_place is_last
read_then_write = (refl, refl)

pub turned_to_writing : (n m : ℕ) (v : List ℕ) (h : Host) → place_for true n (read_byte m v h).host ≡ 0
unfolding read_byte place_for
turned_to_writing n m v h = refl

write_then_read : ((wrote_byte 6 7 power_up).host.place ≡ 1) × (place_for false 6 (wrote_byte 6 7 power_up).host ≡ 0)
unfolding wrote_byte place_for next_place is_last
write_then_read = (refl, refl)

pub turned_to_reading : (n m b : ℕ) (h : Host) → place_for false n (wrote_byte m b h).host ≡ 0
unfolding wrote_byte place_for
turned_to_reading n m b h = refl
