-- The answer for each way through the code: the table of refusals, read with the tests that led there.
-- Assumes nothing.
use Prim.Native.Nat.{ℕ}
use mathlib.Core.Path.{◌≡◌, refl, sym}
use mathlib.Core.List.{List}
use mathlib.Core.Bool.{Bool, true, false, cond}
use borrow.Author.Tests.{ne_eqb}
use lib.Dec.{leb, eqb}
use lib.ListN.{length}
use Rattle.ports.specs.declared.Quiet.{Quiet}
use Rattle.record.specs.Record.{record_length, kinds, find, mask, byte_at, number_in, burst_of, stray}
use Rattle.record.specs.Record.{burst_kind, pulse_kind, tick_kind, c_write_kind, d_write_kind, c_read_kind, d_read_kind, reset_kind}
use Rattle.record.specs.Refusals.{burst_mask_end, pulse_mask_end, bad_numbers, nothing_active, selects_neither}
use Rattle.record.specs.Refusals.{refusals, first_of, refused, accepted, asked_by, answer, record_of}
use Rattle.std.specs.Prelude.{Result, Ok, Err}
use Rattle.record.specs.Reading.{kind_code, Reads, ReadsBare}
use Rattle.record.specs.declared.Access.{Access}
use Rattle.record.specs.declared.Kind.{Kind as Numbered}
use Rattle.record.specs.declared.Kind.TheVariants as kind
use Rattle.record.specs.declared.Refusal.{Refusal}
use Rattle.record.specs.declared.Asked.{Asked}
use Rattle.record.specs.declared.Burst.{Burst}

pub wrong_length : (s : List ℕ) → (length s ≡ record_length → ⊥) → refused 9 ≡ record_of s
unfolding record_of refusals first_of answer
wrong_length s h = simp (ne_eqb (length s) record_length h)

module _ (s : List ℕ) (sized : length s ≡ record_length) where
  module _ (is-burst : byte_at s 0 ≡ burst_kind) where
    pub burst_stray : stray burst_kind s ≡ true → refused 8 ≡ record_of s
    unfolding record_of refusals first_of answer
    burst_stray h = simp (sized, is-burst, h)

    module _ (clear : stray burst_kind s ≡ false) (b : Burst) (e : b ≡ burst_of s) where
      pub burst_high : leb burst_mask_end b.mask ≡ true → refused 3 ≡ record_of s
      unfolding record_of refusals first_of answer
      burst_high h = simp (sized, is-burst, clear, rw e at h)

      pub burst_bad : leb burst_mask_end b.mask ≡ false → bad_numbers b ≡ true → refused 2 ≡ record_of s
      unfolding record_of refusals first_of answer
      burst_bad h k = simp (sized, is-burst, clear, rw e at h, rw e at k)

      pub burst_still : leb burst_mask_end b.mask ≡ false → bad_numbers b ≡ false → nothing_active b ≡ true → refused 1 ≡ record_of s
      unfolding record_of refusals first_of answer
      burst_still h k l = simp (sized, is-burst, clear, rw e at h, rw e at k, rw e at l)

      pub burst_taken : leb burst_mask_end b.mask ≡ false → bad_numbers b ≡ false → nothing_active b ≡ false → accepted (Asked.Burst b) s ≡ record_of s
      unfolding record_of refusals first_of answer find
      burst_taken h k l = simp (sized, is-burst, clear, rw e at h, rw e at k, rw e at l, e)

  module _ (is-pulse : byte_at s 0 ≡ pulse_kind) where
    pub pulse_stray : stray pulse_kind s ≡ true → refused 8 ≡ record_of s
    unfolding record_of refusals first_of answer
    pulse_stray h = simp (sized, is-pulse, h)

    module _ (clear : stray pulse_kind s ≡ false) (m : ℕ) (e : m ≡ number_in s mask) where
      pub pulse_high : leb pulse_mask_end m ≡ true → refused 3 ≡ record_of s
      unfolding record_of refusals first_of answer
      pulse_high h = simp (sized, is-pulse, clear, rw e at h)

      pub pulse_taken : leb pulse_mask_end m ≡ false → accepted (Asked.Quiet (Quiet.Pulse m)) s ≡ record_of s
      unfolding record_of refusals first_of answer find
      pulse_taken h = simp (sized, is-pulse, clear, rw e at h, e)

  module _ (is-write : byte_at s 0 ≡ c_write_kind) where
    pub c_write_stray : stray c_write_kind s ≡ true → refused 8 ≡ record_of s
    unfolding record_of refusals first_of answer
    c_write_stray h = simp (sized, is-write, h)

    pub c_write_lost : stray c_write_kind s ≡ false → selects_neither (byte_at s 13) ≡ true → refused 7 ≡ record_of s
    unfolding record_of refusals first_of answer
    c_write_lost h k = simp (sized, is-write, h, k)

    pub c_write_taken : stray c_write_kind s ≡ false → selects_neither (byte_at s 13) ≡ false → accepted (Asked.Access (Access.WriteC (byte_at s 13))) s ≡ record_of s
    unfolding record_of refusals first_of answer find
    c_write_taken h k = simp (sized, is-write, h, k)

  -- a kind with no row of its own
  plain :
      (q : ℕ) → byte_at s 0 ≡ q → eqb q burst_kind ≡ false → eqb q pulse_kind ≡ false → eqb q c_write_kind ≡ false →
      cond (stray q s) (refused 8) (accepted (asked_by (find kinds q) s) s) ≡ record_of s
  unfolding record_of refusals first_of answer
  plain q e h1 h2 h4 = go (stray q s) refl
    where
      go : (t : Bool) → stray q s ≡ t → cond t (refused 8) (accepted (asked_by (find kinds q) s) s) ≡ record_of s
      go true k = simp (sized, e, k)
      go false k = simp (sized, e, h1, h2, h4, k)

  -- kinds with the same uses have the same stray bytes
  pub d_write_lem : byte_at s 0 ≡ d_write_kind → cond (stray c_write_kind s) (refused 8) (accepted (Asked.Access (Access.WriteD (byte_at s 13))) s) ≡ record_of s
  unfolding stray find
  d_write_lem e = plain d_write_kind e refl refl refl

  pub tick : byte_at s 0 ≡ tick_kind → cond (stray tick_kind s) (refused 8) (accepted (Asked.Quiet Quiet.Tick) s) ≡ record_of s
  unfolding stray find
  tick e = plain tick_kind e refl refl refl

  pub c_read_lem : byte_at s 0 ≡ c_read_kind → cond (stray tick_kind s) (refused 8) (accepted (Asked.Access Access.ReadC) s) ≡ record_of s
  unfolding stray find
  c_read_lem e = plain c_read_kind e refl refl refl

  pub d_read_lem : byte_at s 0 ≡ d_read_kind → cond (stray tick_kind s) (refused 8) (accepted (Asked.Access Access.ReadD) s) ≡ record_of s
  unfolding stray find
  d_read_lem e = plain d_read_kind e refl refl refl

  pub reset : byte_at s 0 ≡ reset_kind → cond (stray tick_kind s) (refused 8) (accepted Asked.Reset s) ≡ record_of s
  unfolding stray find
  reset e = plain reset_kind e refl refl refl

  pub unknown : ((k : Numbered) → kind_code k ≡ byte_at s 0 → ⊥) → refused 8 ≡ record_of s
  unfolding record_of refusals first_of answer stray find
  unknown none =
      let other : (k : Numbered) → eqb (byte_at s 0) (kind_code k) ≡ false = λ k. ne_eqb (byte_at s 0) (kind_code k) (λ e. none k (sym e)) in
      simp (
        sized,
        other kind.Burst,
        other kind.Pulse,
        other kind.Tick,
        other kind.WriteC,
        other kind.WriteD,
        other kind.ReadC,
        other kind.ReadD,
        other kind.Reset,
      )

-- a kind whose number is all that may stand in the record
pub bare : (s : List ℕ) (a : Asked) (r : Result Asked Refusal) → cond (stray tick_kind s) (refused 8) (accepted a s) ≡ record_of s → ReadsBare s a r → Reads s r
bare s a (Ok x) h (e, clear) = rw e (rw clear at h)
bare s a (Err why) h (e, stray) = rw e (rw stray at h)
