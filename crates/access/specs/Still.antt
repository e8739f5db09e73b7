-- Demand 1 for each access by itself: what is turned away changes nothing, in every state of the core and of the host's record.
--   Still c h t k == t is turned away with k: the core c, the host's record h, nobody's address, no output ports, value 0
--   ReadIsStill, WriteIsStill == a D read, and a D write
--   SelectIsStill == a C write of a byte that selects neither P nor R; its number, 7, is given where the record is read
--   AccessIsStill == any access
-- Assumes nothing.
use Rattle.std.specs.Prelude.{ℕ, ◌≡◌, false, None}
use Rattle.record.specs.declared.Access as Ask
use Rattle.record.specs.declared.Access.TheVariants.{WriteC}
use Rattle.host.specs.declared.Host.{Host}
use Rattle.host.specs.Sequence.{selects}
use Rattle.answer.specs.declared.Answer.TheVariants.{Refused}
use Rattle.answer.specs.Answer.{number_of, outputs_of, byte_of}
use Rattle.attributes.specs.declared.Nine.{Nine}
use Rattle.chip.specs.declared.Core.{Core}
use Rattle.access.specs.declared.Acted.{Acted}
use Rattle.access.specs.Access.{d_read_of, d_write_of, served}

pub record Still (c : Core) (h : Host) (t : Acted) (k : ℕ) : Type 0 where
  pub core : t.core ≡ c
  pub host : t.host ≡ h
  pub port : t.port ≡ None
  pub number : number_of t.answer ≡ k
  pub outputs : outputs_of t.answer ≡ 0
  pub value : byte_of t.answer ≡ 0

abbrev pub ReadIsStill : Type 0
ReadIsStill = (c : Core) (nine : Nine) (h : Host) (k : ℕ) → (d_read_of c nine h).answer ≡ Refused k → Still c h (d_read_of c nine h) k

abbrev pub WriteIsStill : Type 0
WriteIsStill = (c : Core) (h : Host) (b k : ℕ) → (d_write_of c h b).answer ≡ Refused k → Still c h (d_write_of c h b) k

abbrev pub SelectIsStill : Type 0
SelectIsStill =
    (c : Core) (nine : Nine) (h : Host) (b : ℕ) → selects b ≡ false
    → ((served (WriteC b) c nine h).core ≡ c) × ((served (WriteC b) c nine h).host ≡ h) × ((served (WriteC b) c nine h).port ≡ None)

abbrev pub AccessIsStill : Type 0
AccessIsStill = (a : Ask.Access) (c : Core) (nine : Nine) (h : Host) (k : ℕ) → (served a c nine h).answer ≡ Refused k → Still c h (served a c nine h) k
