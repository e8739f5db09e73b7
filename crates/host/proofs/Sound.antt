-- Document 01, 'Host registers': power-up, resets and accesses keep the record sound. Assumes nothing.
use Prim.Native.Nat.{ℕ, zero, suc, ◌/◌, ◌%◌, ◌<◌}
use mathlib.Core.Path.{◌≡◌, refl, ◌∙◌}
use mathlib.Core.Bool.{Bool, true, false, cond}
use mathlib.Core.List.{List, [], ◌∷◌}
use mathlib.Core.Logic.{⊎_elim}
use native.Mathlib.Omega.{arith}
use borrow.Author.Tests.{lt-ltb}
use lib.Dec.{eqb, ltb}
use lib.ListN.{length, set, length-set}
use Rattle.host.specs.declared.Host.{Host}
use Rattle.host.specs.Map.{row_at, table}
use Rattle.host.specs.Sequence.{power_up, with_selection, with_sequence, restarted, selected, place_for, is_last, next_place, copied, read_byte, wrote_byte}
use Rattle.host.specs.Sound.{Sound, selected_size, Access, reset, select, read, write, after_accesses}
use Rattle.host.proofs.Listed.{size_six}
use Rattle.host.proofs.AnyRecord.{either_first}
use Rattle.host.proofs.Places.{next_cases, alike}

pub sound_power_up : Sound power_up
sound_power_up =
    record {
      page = omega arith;
      register = omega arith;
      six = refl;
      place = omega arith;
      inside = λ l. absurd (omega arith);
    }

either : (P : Host → Type 0) (a b : Bool) (x y z : Host) → P x → P y → P z → P (cond a x (cond b y z))
either P true b x y z p q r = p
either P false true x y z p q r = q
either P false false x y z p q r = r

pub sound_select : (b : ℕ) (h : Host) → Sound h → Sound (selected b h)
unfolding selected
sound_select b h s =
    either Sound (eqb (b / 32) 0) (eqb (b / 32) 7)
    (restarted (with_selection h (b % 32) h.register))
    (restarted (with_selection h h.page (b % 32)))
    h
    (record { page = omega arith; register = s.register; six = s.six; place = omega arith; inside = λ l. absurd (omega arith) })
    (record { page = s.page; register = omega arith; six = s.six; place = omega arith; inside = λ l. absurd (omega arith) })
    s

-- another sequence, with a place that follows some place in the selected register
sound_sequence : (h : Host) (bs : List ℕ) (i : ℕ) (w : Bool) → Sound h → length bs ≡ 6
    → Sound (with_sequence h bs (next_place (selected_size h) i) w)
unfolding selected_size
sound_sequence h bs i w s e =
    let k = next_cases (selected_size h) i in
    let z = size_six h.page h.register in
    record {
      page = s.page;
      register = s.register;
      six = e;
      place = ⊎_elim (λ q. omega arith) (λ q. omega arith) k;
      inside = λ l. ⊎_elim (λ q. absurd (omega arith)) (λ q. q) k;
    }

copied_six : (i : ℕ) (v bs : List ℕ) → length v ≡ 6 → length bs ≡ 6 → length (copied i v bs) ≡ 6
unfolding copied
copied_six i v bs p q = go (eqb i 0)
  where
    go : (b : Bool) → length (cond b v bs) ≡ 6
    go true = p
    go false = q

pub sound_read : (v : List ℕ) (h : Host) → length v ≡ 6 → Sound h → Sound (read_byte (selected_size h) v h).host
unfolding read_byte
sound_read v h e s =
    let i = place_for false (selected_size h) h in
    sound_sequence h (copied i v h.bytes) i false s (copied_six i v h.bytes e s.six)

pub sound_write : (b : ℕ) (h : Host) → Sound h → Sound (wrote_byte (selected_size h) b h).host
unfolding wrote_byte
sound_write b h s =
    let i = place_for true (selected_size h) h in
    sound_sequence h (set h.bytes i b) i true s (length-set h.bytes i b ∙ s.six)

-- From power-up on, whatever the accesses.
pub sound_after : (xs : List Access) (h : Host) → Sound h → Sound (after_accesses xs h)
unfolding after_accesses
sound_after [] h s = s
sound_after (reset ∷ xs) h s = sound_after xs power_up sound_power_up
sound_after (select b ∷ xs) h s = sound_after xs (selected b h) (sound_select b h s)
sound_after (read v e ∷ xs) h s = sound_after xs (read_byte (selected_size h) v h).host (sound_read v h e s)
sound_after (write b ∷ xs) h s = sound_after xs (wrote_byte (selected_size h) b h).host (sound_write b h s)

-- selecting TP0's address and writing two of its bytes
abbrev two_bytes : Host
two_bytes = after_accesses (select 0x10 ∷ select 0xee ∷ write 7 ∷ write 8 ∷ []) power_up

two_written : two_bytes ≡ record { page = 16; register = 14; bytes = 7 ∷ 8 ∷ 0 ∷ 0 ∷ 0 ∷ 0 ∷ []; place = 2; writing = true }
unfolding after_accesses selected selected_size row_at table wrote_byte place_for next_place is_last
two_written = refl

pub sound_from_power_up : (xs : List Access) → Sound (after_accesses xs power_up)
sound_from_power_up xs = sound_after xs power_up sound_power_up

-- In a sound record an access in the direction of the last one goes on where the sequence stands: the place is never past the
-- register's last byte.
inside_stays : (i n : ℕ) → (0 < i → i < n) → cond (ltb i n) i 0 ≡ i
inside_stays zero n h = either_first (ltb 0 n)
inside_stays (suc i) n h = rw (lt-ltb (suc i) n (h (omega arith)))

third_of_six : place_for two_bytes.writing (selected_size two_bytes) two_bytes ≡ 2
unfolding after_accesses selected selected_size row_at table wrote_byte place_for next_place is_last
third_of_six = refl

pub never_past : (h : Host) → Sound h → place_for h.writing (selected_size h) h ≡ h.place
unfolding place_for
never_past h s = rw (alike h.writing) (inside_stays h.place (selected_size h) s.inside)
