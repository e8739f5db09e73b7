-- Document 01, 'What each statement must settle', of the functions that speak of counters and addresses as they are kept: any pair of outcomes that a contract allows is
-- equal, arrays and all. What is lent or given back by value has as many places as its type says.
--   OneFlat      == `zero` and `with_port` of attributes; OneChip == `power_up` of chip; OneLeft == `take` and `step` of himib; OneStart == `start_chip` of start
--   OneReaddressAlone       == `readdress` of attributes, over the addresses that it is lent alone
--   OneReaddress, OneCredit == `readdress` and `credit` of attributes, over the Flat that they are lent
--   OneBurst, OneFollow     == `burst` and `follow` of himib, likewise; OneAddress == `write_address` of himib
-- Assumes nothing.
use Rattle.std.specs.Prelude.{ℕ, ◌≡◌, List, Option, length}
use Rattle.record.specs.declared.Burst.{Burst}
use Rattle.record.specs.declared.Asked.{Asked}
use Rattle.host.specs.declared.Host.{Host}
use Rattle.attributes.specs.declared.Flat.{Flat}
use Rattle.attributes.specs.declared.Nine.{Nine}
use Rattle.attributes.specs.declared.Met.{Met}
use Rattle.attributes.specs.declared.Due.{Due}
use Rattle.attributes.specs.Flat.{spots_size, nine_in, Fit, ReaddressedAlone, Readdressed, Credited}
use Rattle.chip.specs.declared.Core.{Core}
use Rattle.chip.specs.declared.Powered.{Powered}
use Rattle.chip.specs.declared.FlatPowered.{FlatPowered}
use Rattle.chip.specs.Flat.{powered_by, Sized}
use Rattle.himib.specs.declared.Spoken.{Spoken}
use Rattle.himib.specs.declared.Followed.{Followed}
use Rattle.himib.specs.declared.Left.{Left}
use Rattle.himib.specs.declared.Stepped.{Stepped}
use Rattle.himib.specs.Flat.{stepped_by, Bursts, Addressed, Follows}
use Rattle.start.specs.declared.Opened.{Opened}
use Rattle.start.specs.declared.Started.{Started}
use Rattle.start.specs.Flat.{started_by}

abbrev pub OneFlat : Type 0
OneFlat = (nine : Nine) (r s : Flat) → Fit r → Fit s → nine_in r ≡ nine → nine_in s ≡ nine → r ≡ s

abbrev pub OneChip : Type 0
OneChip = (t : Powered) (r s : FlatPowered) → Sized r.chip → Sized s.chip → powered_by r ≡ t → powered_by s ≡ t → r ≡ s

abbrev pub OneLeft : Type 0
OneLeft = (t : Stepped) (r s : Left) → Sized r.chip → Sized s.chip → stepped_by r ≡ t → stepped_by s ≡ t → r ≡ s

abbrev pub OneStart : Type 0
OneStart = (t : Started) (r s : Opened) → Sized r.chip → Sized s.chip → started_by r ≡ t → started_by s ≡ t → r ≡ s

abbrev pub OneReaddressAlone : Type 0
OneReaddressAlone =
    (i : ℕ) (source addresses x y : List ℕ) → length addresses ≡ spots_size → ReaddressedAlone i source addresses x → ReaddressedAlone i source addresses y → x ≡ y

abbrev pub OneReaddress : Type 0
OneReaddress =
    (i : ℕ) (source : List ℕ) (flat x y : Flat) → length flat.addresses ≡ spots_size → Readdressed i source flat x → Readdressed i source flat y → x ≡ y

abbrev pub OneCredit : Type 0
OneCredit =
    (met : Met) (b : Burst) (source : List ℕ) (flat : Flat) (r s : Due) (x y : Flat) → Fit flat → Credited met b source flat r x
    → Credited met b source flat s y → (r ≡ s) × (x ≡ y)

abbrev pub OneBurst : Type 0
OneBurst =
    (c : Core) (b : Burst) (source : List ℕ) (flat : Flat) (r s : Spoken) (x y : Flat) → Fit flat → Bursts c b source flat r x
    → Bursts c b source flat s y → (r ≡ s) × (x ≡ y)

abbrev pub OneFollow : Type 0
OneFollow =
    (c : Core) (h : Host) (asked : Asked) (source : List ℕ) (flat : Flat) (r s : Followed) (x y : Flat) → Fit flat → Follows c h asked source flat r x
    → Follows c h asked source flat s y → (r ≡ s) × (x ≡ y)

abbrev pub OneAddress : Type 0
OneAddress =
    (port : Option ℕ) (source : List ℕ) (flat x y : Flat) → Fit flat → Addressed port source flat x → Addressed port source flat y → x ≡ y
