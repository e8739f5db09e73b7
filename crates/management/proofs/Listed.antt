-- Document 01, 'Commands' and 'Reset and power-up': how many bytes are commands, which they are, which bits stay after each Get, and which are set by a
-- burst, computed. Assumes nothing.
use mathlib.Core.Path.{◌≡◌, refl}
use mathlib.Core.Bool.{true, false}
use mathlib.Core.List.{[], ◌∷◌, map}
use Rattle.management.specs.declared.Setting.TheVariants.{AlternateAui, AlternateTp, DisableAui, EnableAui, DisableTp, EnableTp, LinkTestOff, LinkTestOn}
use Rattle.management.specs.declared.Query.TheVariants.{Aui, AuiClearB, AuiClearSl, AuiClearBsl, Partition, Rates, Link, Mjlp, Version}
use Rattle.management.specs.declared.Command.TheVariants.{Set, Get, Unlisted}
use Rattle.management.specs.Commands.{command_of, listed_below}
use Rattle.management.specs.Status.{clear_status, marked, cleared_by}
use Rattle.management.specs.Reported.{bits, all}

-- 45 of 256: thirteen by themselves, and four rows of eight
pub forty_five : listed_below 256 ≡ 45
unfolding command_of
forty_five = refl

-- each of the thirteen, and the ends of the rows with the bytes beside them
pub singles : map command_of (0x1f ∷ 0x10 ∷ 0x2f ∷ 0x3f ∷ 0x8f ∷ 0x8b ∷ 0x8d ∷ 0x89 ∷ 0x80 ∷ 0xa0 ∷ 0xd0 ∷ 0xf0 ∷ 0xff ∷ [])
    ≡ Set AlternateAui ∷ Set AlternateTp ∷ Set DisableAui ∷ Set EnableAui
    ∷ Get AuiClearBsl ∷ Get AuiClearSl ∷ Get AuiClearB ∷ Get Aui ∷ Get Partition ∷ Get Rates ∷ Get Link ∷ Get Mjlp ∷ Get Version
    ∷ []
unfolding command_of
singles = refl

pub rows : map command_of (0x20 ∷ 0x27 ∷ 0x28 ∷ 0x30 ∷ 0x37 ∷ 0x38 ∷ 0x3f ∷ 0x40 ∷ 0x47 ∷ 0x48 ∷ 0x4f ∷ 0x50 ∷ 0x57 ∷ 0x58 ∷ [])
    ≡ Set (DisableTp 0) ∷ Set (DisableTp 7) ∷ Unlisted ∷ Set (EnableTp 0) ∷ Set (EnableTp 7) ∷ Unlisted ∷ Set EnableAui
    ∷ Set (LinkTestOff 0) ∷ Set (LinkTestOff 7) ∷ Unlisted ∷ Unlisted ∷ Set (LinkTestOn 0) ∷ Set (LinkTestOn 7) ∷ Unlisted
    ∷ []
unfolding command_of
rows = refl

-- the ports of a row, one by one
pub ports_of_rows : map command_of (0x21 ∷ 0x32 ∷ 0x43 ∷ 0x54 ∷ 0x26 ∷ 0x35 ∷ [])
    ≡ Set (DisableTp 1) ∷ Set (EnableTp 2) ∷ Set (LinkTestOff 3) ∷ Set (LinkTestOn 4) ∷ Set (DisableTp 6) ∷ Set (EnableTp 5) ∷ []
unfolding command_of
ports_of_rows = refl

-- B, S, L, the TP ports' bits and M, all of them one before: what each Get leaves
pub cleared : map (λ query. cleared_by query all) (AuiClearBsl ∷ AuiClearSl ∷ AuiClearB ∷ Aui ∷ Partition ∷ Rates ∷ Link ∷ Mjlp ∷ Version ∷ [])
    ≡ bits false false false 0xff true
    ∷ bits true false false 0xff true
    ∷ bits false true true 0xff true
    ∷ all
    ∷ all
    ∷ bits true true true 0 true
    ∷ all
    ∷ bits true true true 0xff false
    ∷ all
    ∷ []
unfolding cleared_by
cleared = refl

-- a bit that is set stays, and each mark sets its own
pub marks_stay : map (marked (bits false true false 0b00010010 false)) (clear_status ∷ bits true false false 0 false ∷ bits false true false 0b00000011 false
    ∷ bits false false true 0b10000000 false ∷ bits false false false 0 true ∷ [])
    ≡ bits false true false 0b00010010 false
    ∷ bits true true false 0b00010010 false
    ∷ bits false true false 0b00010011 false
    ∷ bits false true true 0b10010010 false
    ∷ bits false true false 0b00010010 true
    ∷ []
unfolding marked
marks_stay = refl

-- at power-up, and after a reset
pub nothing_reported : clear_status ≡ bits false false false 0 false
nothing_reported = refl
