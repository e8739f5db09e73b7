-- Byte sequences by the past: where the next D read stands, and which past its bytes were copied after. Assumes nothing.
--   stands_on      == a deed is done to the register that the past selects
--   sequenced_up, sequenced_next == kept from deed to deed
--   read_seen      == the byte that a D read gives
use Prim.Native.Nat.{ℕ, zero, suc, ◌+◌, ◌/◌, ◌%◌, ◌<◌}
use mathlib.Core.Path.{◌≡◌, refl, sym, ap, ◌∙◌}
use mathlib.Core.Bool.{Bool, true, false, cond, not}
use mathlib.Core.List.{List, [], ◌∷◌}
use native.Mathlib.Omega.{arith}
use native.Mathlib.Nat.{mod-lt, mod-eq_of_lt, mod_self, suc-mod, zero-mod}
use borrow.Author.Tests.{eqb-false, ne_eqb, leb-true, leb-false}
use lib.Dec.{eqb, leb}
use lib.ListN.{length, get_or}
use Rattle.management.specs.declared.Command.{Command}
use Rattle.management.specs.declared.Command.TheVariants.{Set, Get, Unlisted}
use Rattle.management.specs.Commands.{command_of}
use Rattle.record.specs.declared.Access.{Access}
use Rattle.record.specs.declared.Access.TheVariants.{WriteC, WriteD, ReadC, ReadD}
use Rattle.record.specs.declared.Asked.{Asked}
use Rattle.record.specs.declared.Asked.TheVariants as ask
use Rattle.record.specs.Refusals.{record_of}
use Rattle.ports.specs.declared.Quiet.TheVariants.{Pulse, Tick}
use Rattle.host.specs.declared.Host.{Host}
use Rattle.host.specs.declared.Role.{Role}
use Rattle.host.specs.declared.Role.TheVariants.{Plain, Cleared, Commands, Enables, Address}
use Rattle.host.specs.declared.Register.{Register}
use Rattle.host.specs.Map.{row_at}
use Rattle.host.specs.Sequence.{power_up, with_selection, place_for, next_place, copied, read_byte}
use Rattle.host.proofs.Places.{next_on, next_over, goes_on, at_first}
use Rattle.host.proofs.Afresh.{turned_to_reading}
use Rattle.access.specs.Access.{selected_by, value_of}
use Rattle.himib.specs.Runs.{Point}
use Rattle.past.specs.Deeds.{Deed, bursts, pulses, ticks, commands, uses, resets, refused, selects_p, selects_r, allows, addresses, asks, reads}
use Rattle.past.specs.Deeds.{selecting, commanding, writing, writing_to, reading_of, accessing, deed_of, page_by, register_by, deed_after}
use Rattle.past.specs.Reads.{Start, byte_by, reads_in_a_row, remainder, place_by, back, copied_by, read_by}
use Rattle.alone.specs.Doing.{used_at, doing, next}
use Rattle.alone.specs.Selected.{StandsUse, StandsOn, Sequenced}
use Rattle.alone.proofs.Did.{role_size_lem}

-- WHAT A DEED STANDS ON

module _ (p r : ℕ) where
  commands_on : (g : Bool) (b : ℕ) (k : Command) → (row_at p r).size ≡ 1 → StandsOn (row_at p r) (commanding g b k)
  commands_on g b (Set s) e = e
  commands_on g b (Get q) e = e
  commands_on g b Unlisted e = tt

  writing_on : (role : Role) (b : ℕ) → (row_at p r).role ≡ role → StandsOn (row_at p r) (writing role b)
  writing_on Plain b e = tt
  writing_on (Cleared k) b e = tt
  writing_on (Commands g) b e = commands_on g b (command_of b) (role_size_lem p r ∙ rw e)
  writing_on (Enables k) b e = role_size_lem p r ∙ rw e
  writing_on (Address i) b e = role_size_lem p r ∙ rw e

  write_on : (b : ℕ) → StandsOn (row_at p r) (writing_to (row_at p r) b)
  write_on b = go (eqb (row_at p r).size 0) (row_at p r).writable
    where
      go : (x y : Bool) → StandsOn (row_at p r) (cond x (refused 5) (cond (not y) (refused 6) (writing (row_at p r).role b)))
      go true y = tt
      go false false = tt
      go false true = writing_on (row_at p r).role b refl

  read_on : StandsOn (row_at p r) (reading_of (row_at p r))
  read_on = go (eqb (row_at p r).size 0) (row_at p r).readable refl
    where
      go : (x y : Bool) → eqb (row_at p r).size 0 ≡ x
          → StandsOn (row_at p r) (cond x (refused 5) (cond (not y) (refused 6) (uses (reads (row_at p r).register (row_at p r).size))))
      go true y e = tt
      go false false e = tt
      go false true e = let z = eqb-false (row_at p r).size 0 e in (refl, refl, omega arith)

  select_on : (b : ℕ) → StandsUse (row_at p r) (selecting b)
  select_on b = go (eqb (b / 32) 0b000)
    where
      go : (x : Bool) → StandsUse (row_at p r) (cond x (selects_p (b % 32)) (selects_r (b % 32)))
      go true = tt
      go false = tt

  access_on : (a : Access) → StandsOn (row_at p r) (accessing (row_at p r) a)
  access_on (WriteC b) = select_on b
  access_on (WriteD b) = write_on b
  access_on ReadC = tt
  access_on ReadD = read_on

  asked_on : (a : Asked) (source : List ℕ) → StandsOn (row_at p r) (deed_of (row_at p r) a source)
  unfolding deed_of
  asked_on (ask.Burst b) source = tt
  asked_on (ask.Quiet (Pulse mask)) source = tt
  asked_on (ask.Quiet Tick) source = tt
  asked_on (ask.Access a) source = access_on a
  asked_on ask.Reset source = tt
  asked_on (ask.Refused k) source = tt

pub stands_on : (past : List Deed) (bs : List ℕ) → StandsOn (row_at (page_by past) (register_by past)) (deed_after past bs)
unfolding deed_after
stands_on past bs = asked_on (page_by past) (register_by past) (record_of bs).asked (record_of bs).source

-- PLACES

-- the place after the k-th, modulo the number of bytes
next_mod : (n k : ℕ) → next_place (suc n) (k % suc n) ≡ suc k % suc n
next_mod n k = go (leb (suc n) (k % suc n + 1)) refl
  where
    below : k % suc n < suc n
    below = mod-lt k (omega arith)

    go : (t : Bool) → leb (suc n) (k % suc n + 1) ≡ t → next_place (suc n) (k % suc n) ≡ suc k % suc n
    go true e =
        let m = leb-true (suc n) (k % suc n + 1) e in
        let l = below in
        let z : suc (k % suc n) ≡ suc n = omega arith in
        next_over (suc n) (k % suc n) m ∙ sym (suc-mod k (suc n) ∙ rw z (mod_self (suc n)))
    go false e =
        let m = leb-false (suc n) (k % suc n + 1) e in
        next_on (suc n) (k % suc n) m ∙ sym (suc-mod k (suc n) ∙ mod-eq_of_lt (omega arith))

-- a step that is no wrap
no_wrap : (n k j : ℕ) → suc k % suc n ≡ suc j → k % suc n ≡ j
no_wrap n k j e = go (leb (suc n) (k % suc n + 1)) refl
  where
    below : k % suc n < suc n
    below = mod-lt k (omega arith)

    go : (t : Bool) → leb (suc n) (k % suc n + 1) ≡ t → k % suc n ≡ j
    go true t =
        let m = leb-true (suc n) (k % suc n + 1) t in
        let o = next_over (suc n) (k % suc n) m in
        let z = sym e ∙ sym (next_mod n k) ∙ o in
        absurd (omega arith)
    go false t =
        let m = leb-false (suc n) (k % suc n + 1) t in
        let o = next_on (suc n) (k % suc n) m in
        let z = sym o ∙ next_mod n k ∙ e in
        omega arith

-- FROM DEED TO DEED

module _ (start : Start) where
  -- a row begins where the next read takes the first byte
  begun : (past : List Deed) (h : Host) → reads_in_a_row past ≡ [] → ((n : ℕ) → place_for false n h ≡ 0) → Sequenced start past h
  begun past h e first = record {
    place = λ n z. first (suc n) ∙ sym (none n);
    held = λ n k z m. let o = none n in absurd (omega (arith, sym m ∙ o));
  }
    where
      none : (n : ℕ) → length (reads_in_a_row past) % suc n ≡ 0
      none n = ap (λ (row : List (List Deed)). length row % suc n) e ∙ zero-mod (suc n)

  same : (past : List Deed) (d : Deed) (h : Host) → reads_in_a_row (d ∷ past) ≡ reads_in_a_row past → Sequenced start past h → Sequenced start (d ∷ past) h
  same past d h e s = record { place = rw e s.place; held = rw e s.held }

  pub sequenced_up : Sequenced start [] power_up
  unfolding reads_in_a_row place_for
  sequenced_up = begun [] power_up refl (λ n. at_first n power_up power_up.bytes false false)

  -- a D read
  module _ (past : List Deed) (h : Host) (register : Register) (size : ℕ) (v : List ℕ) (s : Sequenced start past h) (on : StandsUse (selected_by h) (reads register size))
      (seen : (i : ℕ) → i < size → get_or v i 0 ≡ byte_by start past register i) where
    abbrev row : List (List Deed)
    row = reads_in_a_row past

    abbrev after : Host
    after = (read_byte size v h).host

    read_place : (n : ℕ) → (selected_by h).size ≡ suc n → place_for false (suc n) after ≡ suc (length row) % suc n
    unfolding read_byte
    read_place n z =
        let e : size ≡ suc n = sym on.1 ∙ z in
        rw (e, s.place n z, next_mod n (length row)) (goes_on (suc n) h _ false (suc (length row) % suc n) (mod-lt (suc (length row)) (omega arith)))

    -- at the place j
    read_held : (n j : ℕ) → (selected_by h).size ≡ suc n → length row % suc n ≡ j → (i : ℕ) → i < suc n
        → get_or (copied j v h.bytes) i 0 ≡ byte_by start (get_or (past ∷ row) j []) (selected_by h).register i
    unfolding copied
    read_held n zero z m i l =
        let e : size ≡ suc n = sym on.1 ∙ z in
        rw on.0 (seen i (omega arith))
    read_held n (suc j) z m i l = rw (ne_eqb (suc j) 0 (λ e. omega arith)) (s.held n j z m i l)

    pub read_sequenced : Sequenced start (uses (reads register size) ∷ past) after
    unfolding reads_in_a_row read_byte
    read_sequenced = record {
      place = read_place;
      held = λ n k z m i l.
          let e : size ≡ suc n = sym on.1 ∙ z in
          let j : length row % suc n ≡ k = no_wrap n (length row) k m in
          rw (e, s.place n z, j) (read_held n k z j i l);
    }

    -- the byte that it gives, at the place j
    byte_at : (n j : ℕ) → (selected_by h).size ≡ suc n → length row % suc n ≡ j → j < suc n
        → get_or (copied j v h.bytes) j 0 ≡ byte_by start (back row past j) register j
    unfolding copied
    byte_at n zero z m l = let e : size ≡ suc n = sym on.1 ∙ z in seen 0 (omega arith)
    byte_at n (suc j) z m l = rw (ne_eqb (suc j) 0 (λ e. omega arith), ← on.0) (s.held n j z m (suc j) l)

    pub read_seen : (read_byte size v h).byte ≡ read_by start past register size
    unfolding read_byte read_by copied_by place_by remainder
    read_seen = go size refl
      where
        go : (n : ℕ) → size ≡ n → (read_byte size v h).byte ≡ read_by start past register size
        go zero e = absurd (omega (arith, on.2))
        go (suc n) e =
            let z : (selected_by h).size ≡ suc n = on.1 ∙ e in
            rw (e, s.place n z) (byte_at n (length row % suc n) z refl (mod-lt (length row) (omega arith)))

  pub sequenced_next : (past : List Deed) (d : Deed) (p : Point) → StandsOn (selected_by p.host) d
      → ((register : Register) (size : ℕ) → d ≡ uses (reads register size) → (i : ℕ) → i < size
      → get_or (value_of p.chip.core p.chip.attributes register) i 0 ≡ byte_by start past register i)
      → Sequenced start past p.host → Sequenced start (d ∷ past) (next d p).host
  unfolding doing used_at reads_in_a_row
  sequenced_next past (bursts b source) p on seen s = same past (bursts b source) p.host refl s
  sequenced_next past (pulses mask) p on seen s = same past (pulses mask) p.host refl s
  sequenced_next past ticks p on seen s = same past ticks p.host refl s
  sequenced_next past (commands g c) p on seen s = begun (commands g c ∷ past) _ refl (λ n. turned_to_reading n 1 c p.host)
  sequenced_next past (uses (selects_p k)) p on seen s =
      begun (uses (selects_p k) ∷ past) _ refl
      (λ n. at_first n (with_selection p.host k p.host.register) p.host.bytes false p.host.writing)
  sequenced_next past (uses (selects_r k)) p on seen s =
      begun (uses (selects_r k) ∷ past) _ refl
      (λ n. at_first n (with_selection p.host p.host.page k) p.host.bytes false p.host.writing)
  sequenced_next past (uses (allows k b)) p on seen s = begun (uses (allows k b) ∷ past) _ refl (λ n. turned_to_reading n 1 b p.host)
  sequenced_next past (uses (addresses i b)) p on seen s = begun (uses (addresses i b) ∷ past) _ refl (λ n. turned_to_reading n 6 b p.host)
  sequenced_next past (uses asks) p on seen s = same past (uses asks) p.host refl s
  sequenced_next past (uses (reads register size)) p on seen s =
      read_sequenced past p.host register size (value_of p.chip.core p.chip.attributes register) s on (seen register size refl)
  sequenced_next past resets p on seen s = begun (resets ∷ past) _ refl (λ n. at_first n power_up power_up.bytes false false)
  sequenced_next past (refused k) p on seen s = same past (refused k) p.host refl s
