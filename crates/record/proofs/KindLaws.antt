-- Which kinds what a record asks for is not: some are quiet, four are accesses. Assumes nothing.
--   quiet_is_no, access_is_no == what is quiet, and an access, is of no kind but those
use Prim.Native.Nat.{ℕ}
use mathlib.Core.Path.{◌≡◌, refl}
use mathlib.Core.Bool.{Bool, true, false, ◌||◌, true≢false}
use lib.Dec.{eqb}
use Rattle.ports.specs.declared.Quiet.{Quiet}
use Rattle.ports.specs.declared.Quiet.TheVariants.{Pulse, Tick}
use Rattle.record.specs.declared.Access.{Access}
use Rattle.record.specs.declared.Access.TheVariants.{WriteC, WriteD, ReadC, ReadD}
use Rattle.record.specs.declared.Asked.TheVariants as ask
use Rattle.record.specs.Record.{pulse_kind, tick_kind, c_write_kind, d_write_kind, c_read_kind, d_read_kind}
use Rattle.record.specs.Accepted.{is_quiet, kind_number}

first_fails : (a b : Bool) → (a || b) ≡ false → a ≡ false
first_fails true b e = absurd (true≢false e)
first_fails false b e = refl

second_fails : (a b : Bool) → (a || b) ≡ false → b ≡ false
second_fails true b e = absurd (true≢false e)
second_fails false b e = e

pub quiet_is_no : (k : ℕ) → is_quiet k ≡ false → (q : Quiet) → eqb (kind_number (ask.Quiet q)) k ≡ false
quiet_is_no k e (Pulse mask) = first_fails (eqb pulse_kind k) (eqb tick_kind k) e
quiet_is_no k e Tick = second_fails (eqb pulse_kind k) (eqb tick_kind k) e

pub access_is_no : (k : ℕ) → eqb c_write_kind k ≡ false → eqb d_write_kind k ≡ false → eqb c_read_kind k ≡ false → eqb d_read_kind k ≡ false
    → (a : Access) → eqb (kind_number (ask.Access a)) k ≡ false
access_is_no k wc wd rc rd (WriteC b) = wc
access_is_no k wc wd rc rd (WriteD b) = wd
access_is_no k wc wd rc rd ReadC = rc
access_is_no k wc wd rc rd ReadD = rd
