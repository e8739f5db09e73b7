-- Document 01, 'Commands' (004, table 2): which byte is which command. A new command is a row here and an arm in the code.
--   Row                 == a row of the table: a byte and its command, or eight bytes from one on, whose last three bits name the TP port of the command
--   ones, eights, table == the rows of one byte, those of eight, and all of them
--   found rows byte     == the command of the byte in these rows, or Unlisted
--   command_of byte      == the command of the byte; 45 bytes are listed, 211 are not
--   row_of byte          == the command of a byte that is none of `ones`
--   listed_below n       == how many of the bytes below n are commands
-- Assumes nothing.
use Rattle.std.specs.Prelude.{ℕ, zero, suc, ◌+◌, ◌-◌, Bool, cond, ◌&&◌, List, [], ◌∷◌, ◌++◌, eqb, leb}
use Rattle.management.specs.declared.Setting.TheVariants.{AlternateAui, AlternateTp, DisableAui, EnableAui, DisableTp, EnableTp, LinkTestOff, LinkTestOn}
use Rattle.management.specs.declared.Query.TheVariants.{Aui, AuiClearB, AuiClearSl, AuiClearBsl, Partition, Rates, Link, Mjlp, Version}
use Rattle.management.specs.declared.Command.{Command}
use Rattle.management.specs.declared.Command.TheVariants.{Set, Get, Unlisted}

pub data Row : Type 0 where
  one : ℕ → Command → Row
  eight : ℕ → (ℕ → Command) → Row

abbrev pub ones : List Row
ones =
    one 0b00011111 (Set AlternateAui)
    ∷ one 0b00010000 (Set AlternateTp)
    ∷ one 0b00101111 (Set DisableAui)
    ∷ one 0b00111111 (Set EnableAui)
    ∷ one 0b10001111 (Get AuiClearBsl)
    ∷ one 0b10001011 (Get AuiClearSl)
    ∷ one 0b10001101 (Get AuiClearB)
    ∷ one 0b10001001 (Get Aui)
    ∷ one 0b10000000 (Get Partition)
    ∷ one 0b10100000 (Get Rates)
    ∷ one 0b11010000 (Get Link)
    ∷ one 0b11110000 (Get Mjlp)
    ∷ one 0b11111111 (Get Version)
    ∷ []

abbrev pub eights : List Row
eights =
    eight 0b00100000 (λ port. Set (DisableTp port))
    ∷ eight 0b00110000 (λ port. Set (EnableTp port))
    ∷ eight 0b01000000 (λ port. Set (LinkTestOff port))
    ∷ eight 0b01010000 (λ port. Set (LinkTestOn port))
    ∷ []

abbrev pub table : List Row
table = ones ++ eights

-- whether a byte is one of the eight from `first` on
abbrev pub of_eight : ℕ → ℕ → Bool
of_eight first byte = leb first byte && leb byte (first + 7)

abbrev pub found : List Row → ℕ → Command
found [] byte = Unlisted
found (one only command ∷ rows) byte = cond (eqb byte only) command (found rows byte)
found (eight first command ∷ rows) byte = cond (of_eight first byte) (command (byte - first)) (found rows byte)

unfoldable pub row_of : ℕ → Command
row_of byte = found eights byte

unfoldable pub command_of : ℕ → Command
command_of byte = found table byte

abbrev pub counted : Command → ℕ
counted (Set setting) = 1
counted (Get query) = 1
counted Unlisted = 0

abbrev pub listed_below : ℕ → ℕ
listed_below zero = 0
listed_below (suc n) = counted (command_of n) + listed_below n
