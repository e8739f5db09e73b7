-- The step over counters and addresses as they are kept, and the step of specs/Step that it stands for.
--   spoken_by t flat   == what a burst gave and left of the counters and addresses, as specs/Bursts tells it
--   followed_by t flat == the same of any record, as specs/Step tells it; stepped_by == of a step by value
--   Bursts, Addressed, Follows == what `burst`, `write_address` and `follow` do: what was lent stands for what the rules say
-- Assumes nothing.
use Rattle.std.specs.Prelude.{ℕ, ◌≡◌, List, Option}
use Rattle.record.specs.declared.Burst.{Burst}
use Rattle.record.specs.declared.Asked.{Asked}
use Rattle.host.specs.declared.Host.{Host}
use Rattle.attributes.specs.declared.Flat.{Flat}
use Rattle.attributes.specs.Flat.{nine_in, Fit}
use Rattle.chip.specs.declared.Core.{Core}
use Rattle.chip.specs.Flat.{holding, chip_of}
use Rattle.himib.specs.declared.Credited.{Credited}
use Rattle.himib.specs.declared.Stepped.{Stepped}
use Rattle.himib.specs.declared.Spoken.{Spoken}
use Rattle.himib.specs.declared.Followed.{Followed}
use Rattle.himib.specs.declared.Left.{Left}
use Rattle.himib.specs.Bursts.{burst_on}
use Rattle.himib.specs.Step.{addressed_at, taken}

abbrev pub spoken_by : Spoken → Flat → Credited
spoken_by t flat = record { core = t.core; attributes = nine_in flat; answer = t.answer }

abbrev pub followed_by : Followed → Flat → Stepped
followed_by t flat = record { chip = holding t.core flat; host = t.host; answer = t.answer }

abbrev pub stepped_by : Left → Stepped
stepped_by t = record { chip = chip_of t.chip; host = t.host; answer = t.answer }

pub record Bursts (c : Core) (b : Burst) (source : List ℕ) (flat : Flat) (t : Spoken) (later : Flat) : Type 0 where
  pub fine : Fit flat → Fit later
  pub is : Fit flat → spoken_by t later ≡ burst_on c (nine_in flat) b source

pub record Addressed (port : Option ℕ) (source : List ℕ) (flat later : Flat) : Type 0 where
  pub fine : Fit flat → Fit later
  pub is : Fit flat → nine_in later ≡ addressed_at port source (nine_in flat)

pub record Follows (c : Core) (h : Host) (asked : Asked) (source : List ℕ) (flat : Flat) (t : Followed) (later : Flat) : Type 0 where
  pub fine : Fit flat → Fit later
  pub is : Fit flat → followed_by t later ≡ taken asked source (holding c flat) h
