-- Document 01, 'Numbers turned away with', the rows of an access: 5, 6 and 4, by the register that the host's record selects. Rows 9 to 7 are the record's own.
--   listed, write_only, read_only == what the rows ask of the selected register
--   read_rows w, write_rows w b == the rows of a D read, and of a D write of b, where the row w is selected
--   rows_of access w           == the rows of any access; a C access has none
--   Left o c h t              == t is turned away with k, the core c and the host's record h as they were, where o is k; and is not turned away where o is none
-- Assumes nothing.
use Rattle.std.specs.Prelude.{ℕ, ◌≡◌, Bool, true, false, not, ◌&&◌, List, [], ◌∷◌}
use Rattle.std.proofs.Math.Option.{Option, none, some}
use Rattle.record.specs.declared.Access as Ask
use Rattle.record.specs.declared.Access.TheVariants.{WriteC, WriteD, ReadC, ReadD}
use Rattle.record.specs.Refusals as Rec
use Rattle.host.specs.declared.Host.{Host}
use Rattle.host.specs.declared.Row.{Row}
use Rattle.host.specs.Stands as Stands
use Rattle.answer.specs.declared.Answer.{Answer}
use Rattle.answer.specs.declared.Answer.TheVariants.{Done, Sent, Value, Refused}
use Rattle.chip.specs.declared.Core.{Core}
use Rattle.access.specs.declared.Acted.{Acted}
use Rattle.access.specs.Access.{strange, turned_away}

abbrev pub listed : Row → Bool
listed w = Stands.listed w.register

abbrev pub write_only : Row → Bool
write_only w = w.writable && not w.readable

abbrev pub read_only : Row → Bool
read_only w = w.readable && not w.writable

abbrev pub row : ℕ → Bool → Rec.Row
row k b = record { number = k; holds = b }

abbrev pub read_rows : Row → List Rec.Row
read_rows w = row 5 (not (listed w)) ∷ row 6 (write_only w) ∷ []

abbrev pub write_rows : Row → ℕ → List Rec.Row
write_rows w b = row 5 (not (listed w)) ∷ row 6 (read_only w) ∷ row 4 (strange w.role b) ∷ []

abbrev pub rows_of : Ask.Access → Row → List Rec.Row
rows_of (WriteC b) w = []
rows_of (WriteD b) w = write_rows w b
rows_of ReadC w = []
rows_of ReadD w = read_rows w

abbrev pub is_refused : Answer → Bool
is_refused Done = false
is_refused (Sent word out) = false
is_refused (Value byte) = false
is_refused (Refused k) = true

abbrev pub Left : Option ℕ → Core → Host → Acted → Type 0
Left none c h t = is_refused t.answer ≡ false
Left (some k) c h t = t ≡ turned_away c h k
