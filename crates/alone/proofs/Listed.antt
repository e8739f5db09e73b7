-- Document 01, 'Commands': which byte a listed command is. Assumes nothing.
--   GetByte c q, Byte c k == the byte c is the Get q, the command k
--   listed_byte           == a byte that is listed is its command's
--   get_high              == the Gets stand in the upper half
use Prim.Native.Nat.{ℕ, ◌+◌, ◌-◌, ◌≤◌, ◌<◌}
use mathlib.Core.Path.{◌≡◌, refl, subst}
use mathlib.Core.Bool.{Bool, true, false, cond, false≢true}
use mathlib.Core.List.{List, [], ◌∷◌}
use native.Mathlib.Omega.{arith}
use borrow.Author.Tests.{eqb-true, leb-true}
use lib.Dec.{eqb, leb, lit≤}
use Rattle.ports.proofs.Sets.{and_first, and_second}
use Rattle.management.specs.declared.Setting.TheVariants.{AlternateAui, AlternateTp, DisableAui, EnableAui, DisableTp, EnableTp, LinkTestOff, LinkTestOn}
use Rattle.management.specs.declared.Query.{Query}
use Rattle.management.specs.declared.Query.TheVariants.{Aui, AuiClearB, AuiClearSl, AuiClearBsl, Partition, Rates, Link, Mjlp, Version}
use Rattle.management.specs.declared.Command.{Command}
use Rattle.management.specs.declared.Command.TheVariants.{Set, Get}
use Rattle.management.specs.Commands.{Row, one, eight, table, of_eight, found, command_of}
use Rattle.access.specs.Access.{is_listed}

pub data GetByte : ℕ → Query → Type 0 where
  aui_bsl : GetByte 0b10001111 AuiClearBsl
  aui_sl : GetByte 0b10001011 AuiClearSl
  aui_b : GetByte 0b10001101 AuiClearB
  aui : GetByte 0b10001001 Aui
  partition : GetByte 0b10000000 Partition
  rates : GetByte 0b10100000 Rates
  link : GetByte 0b11010000 Link
  mjlp : GetByte 0b11110000 Mjlp
  version : GetByte 0b11111111 Version

pub data Byte : ℕ → Command → Type 0 where
  alternate_aui : Byte 0b00011111 (Set AlternateAui)
  alternate_tp : Byte 0b00010000 (Set AlternateTp)
  disable_aui : Byte 0b00101111 (Set DisableAui)
  enable_aui : Byte 0b00111111 (Set EnableAui)
  disable_tp : (k : ℕ) → k < 8 → Byte (0b00100000 + k) (Set (DisableTp k))
  enable_tp : (k : ℕ) → k < 8 → Byte (0b00110000 + k) (Set (EnableTp k))
  test_off : (k : ℕ) → k < 8 → Byte (0b01000000 + k) (Set (LinkTestOff k))
  test_on : (k : ℕ) → k < 8 → Byte (0b01010000 + k) (Set (LinkTestOn k))
  get : (c : ℕ) (q : Query) → GetByte c q → Byte c (Get q)

-- what the rows say, row by row
abbrev Right : Row → Type 0
Right (one c k) = Byte c k
Right (eight first k) = (j : ℕ) → j < 8 → Byte (first + j) (k j)

infixr 5 ◌also◌
data AllRight : List Row → Type 0 where
  done : AllRight []
  ◌also◌ : {row : Row} {rows : List Row} → Right row → AllRight rows → AllRight (row ∷ rows)

module _ (c : ℕ) (rest : Command) (below : is_listed rest ≡ true → Byte c rest) where
  at_one : (only : ℕ) (k : Command) → Byte only k → (b : Bool) → eqb c only ≡ b → is_listed (cond b k rest) ≡ true → Byte c (cond b k rest)
  at_one only k g true e h = rw (eqb-true c only e) g
  at_one only k g false e h = below h

  at_eight : (first : ℕ) (k : ℕ → Command) → ((j : ℕ) → j < 8 → Byte (first + j) (k j)) → (b : Bool) → of_eight first c ≡ b
      → is_listed (cond b (k (c - first)) rest) ≡ true → Byte c (cond b (k (c - first)) rest)
  at_eight first k g true e h =
      let low : first ≤ c = leb-true first c (and_first (leb first c) (leb c (first + 7)) e) in
      let high : c ≤ first + 7 = leb-true c (first + 7) (and_second (leb first c) (leb c (first + 7)) e) in
      let back : first + (c - first) ≡ c = omega arith in
      subst (λ (n : ℕ). Byte n (k (c - first))) back (g (c - first) (omega arith))
  at_eight first k g false e h = below h

found_byte : (rows : List Row) → AllRight rows → (c : ℕ) → is_listed (found rows c) ≡ true → Byte c (found rows c)
found_byte [] done c h = absurd (false≢true h)
found_byte (one only k ∷ rows) (g also gs) c h = at_one c (found rows c) (λ l. found_byte rows gs c l) only k g (eqb c only) refl h
found_byte (eight first k ∷ rows) (g also gs) c h = at_eight c (found rows c) (λ l. found_byte rows gs c l) first k g (of_eight first c) refl h

all_right : AllRight table
all_right =
    alternate_aui also alternate_tp also disable_aui also enable_aui
    also get _ _ aui_bsl also get _ _ aui_sl also get _ _ aui_b also get _ _ aui
    also get _ _ partition also get _ _ rates also get _ _ link also get _ _ mjlp also get _ _ version
    also disable_tp also enable_tp also test_off also test_on also done

pub listed_byte : (c : ℕ) → is_listed (command_of c) ≡ true → Byte c (command_of c)
unfolding command_of
listed_byte c h = found_byte table all_right c h

pub get_high : (c : ℕ) (q : Query) → GetByte c q → 128 ≤ c
get_high c q aui_bsl = lit≤ tt
get_high c q aui_sl = lit≤ tt
get_high c q aui_b = lit≤ tt
get_high c q aui = lit≤ tt
get_high c q partition = lit≤ tt
get_high c q rates = lit≤ tt
get_high c q link = lit≤ tt
get_high c q mjlp = lit≤ tt
get_high c q version = lit≤ tt
