-- Document 01, 'Commands', on whole repeaters: what Gets give one after the other, and what Sets come to. proofs/Commands.antt computes every row.
--   answers_to r queries == the bytes that Gets give, one after the other
--   Asked, asked   == a row: inputs from power-up, Gets, and their bytes; what the definitions make of it
--   reporting      == inputs after which B, S, L, the bit of TP1, M and the links of TP0 to TP2 are one, and every port is connected
--   gets           == the Gets
--   sets           == the Sets, as rows of specs/Sheet: how a port stands then, and whether its link passes
-- Assumes nothing.
use Rattle.std.specs.Prelude.{ℕ, Bool, true, false, List, [], ◌∷◌, ◌++◌, replicate}
use Rattle.management.specs.declared.Query.{Query}
use Rattle.management.specs.declared.Query.TheVariants.{Aui, AuiClearB, AuiClearSl, AuiClearBsl, Partition, Rates, Link, Mjlp, Version}
use Rattle.management.specs.declared.Setting.TheVariants.{AlternateAui, AlternateTp, DisableAui, EnableAui, DisableTp, EnableTp, LinkTestOff, LinkTestOn}
use Rattle.history.specs.History.{connected, partitioned}
use Rattle.burst.specs.Scenes.{flagged}
use Rattle.repeater.specs.declared.Repeater.{Repeater}
use Rattle.repeater.specs.declared.Got.{Got}
use Rattle.repeater.specs.Reset.{power_up}
use Rattle.repeater.specs.Repeater.{got_of}
use Rattle.repeater.specs.Events.{Input, burst, setting, reset, after_inputs}
use Rattle.repeater.specs.Sheet.{tick, pulse, active, passing, aui_parted, Row, row}

abbrev pub answers_to : Repeater → List Query → List ℕ
answers_to r [] = []
answers_to r (q ∷ queries) = let got : Got = got_of q r in got.value ∷ answers_to got.repeater queries

pub record Asked : Type 0 where
  pub inputs : List Input
  pub queries : List Query
  pub bytes : List ℕ

abbrev pub ask : List Input → List Query → List ℕ → Asked
ask inputs queries bytes = record { inputs = inputs; queries = queries; bytes = bytes }

abbrev pub asked : Asked → List ℕ
asked w = answers_to (after_inputs power_up w.inputs) w.queries

-- a burst: mask, then the flags of rate error, loopback missing and SQE Test, and its duration
abbrev pub heard : ℕ → Bool → Bool → Bool → ℕ → Input
heard mask rate loopback sqe d = burst (flagged mask rate false loopback sqe d 0)

-- AUI alone with its collision signal, for x bit times
abbrev pub signal : ℕ → Input
signal x = burst (flagged 0b100000000 false true false false 2000 x)

abbrev pub reporting : List Input
reporting =
    passing
    ++ (heard 0b100000000 true false false 2000
    ∷ heard 0b100000000 false false true 2000
    ∷ heard 0b000000001 false true false 2000
    ∷ heard 0b000000010 true false false 2000
    ∷ heard 0b000000001 false false false 65537
    ∷ [])

abbrev pub gets : List Asked
gets =
    -- nothing reported, and every port connected; no link passes
    ask [] (Aui ∷ Partition ∷ Rates ∷ Link ∷ Mjlp ∷ Version ∷ []) (0x80 ∷ 0xff ∷ 0x00 ∷ 0x00 ∷ 0x00 ∷ 0x01 ∷ [])
    -- each bit by itself: AUI partitioned, B, S, L
    ∷ ask (signal 1025 ∷ []) (Aui ∷ Partition ∷ []) (0x00 ∷ 0xff ∷ [])
    ∷ ask (heard 0b100000000 true false false 2000 ∷ []) (Aui ∷ Rates ∷ []) (0xc0 ∷ 0x00 ∷ [])
    ∷ ask (heard 0b100000000 false false true 2000 ∷ []) (Aui ∷ []) (0xa0 ∷ [])
    ∷ ask (passing ++ (heard 0b000000001 false true false 2000 ∷ [])) (Aui ∷ []) (0x90 ∷ [])
    -- TP0 and TP1 partitioned; a bit rate error of TP0, of TP1, of both one after the other
    ∷ ask (passing ++ (active 0b000000011 2000 1025 ∷ [])) (Partition ∷ Aui ∷ []) (0xfc ∷ 0x80 ∷ [])
    ∷ ask (passing ++ (heard 0b000000001 true false false 2000 ∷ [])) (Rates ∷ Rates ∷ []) (0x01 ∷ 0x00 ∷ [])
    ∷ ask (passing ++ (heard 0b000000001 true false false 9 ∷ heard 0b000000010 true false false 9 ∷ [])) (Rates ∷ Aui ∷ []) (0x03 ∷ 0x80 ∷ [])
    -- the links of TP0 to TP2, of a disabled port too, and of one without link test
    ∷ ask passing (Link ∷ Link ∷ []) (0x07 ∷ 0x07 ∷ [])
    ∷ ask (passing ++ (setting (DisableTp 0) ∷ setting (LinkTestOff 7) ∷ [])) (Link ∷ []) (0x87 ∷ [])
    -- M above 65,536
    ∷ ask (passing ++ (heard 0b000000001 false false false 65536 ∷ [])) (Mjlp ∷ []) (0x00 ∷ [])
    ∷ ask (passing ++ (heard 0b000000001 false false false 65537 ∷ [])) (Mjlp ∷ Mjlp ∷ []) (0x80 ∷ 0x00 ∷ [])
    -- what each of them clears, and what it leaves
    ∷ ask reporting (Aui ∷ Aui ∷ Rates ∷ Mjlp ∷ []) (0xf0 ∷ 0xf0 ∷ 0x02 ∷ 0x80 ∷ [])
    ∷ ask reporting (AuiClearB ∷ Aui ∷ Rates ∷ Mjlp ∷ []) (0xf0 ∷ 0xb0 ∷ 0x02 ∷ 0x80 ∷ [])
    ∷ ask reporting (AuiClearSl ∷ Aui ∷ Rates ∷ Mjlp ∷ []) (0xf0 ∷ 0xc0 ∷ 0x02 ∷ 0x80 ∷ [])
    ∷ ask reporting (AuiClearBsl ∷ Aui ∷ Rates ∷ Mjlp ∷ []) (0xf0 ∷ 0x80 ∷ 0x02 ∷ 0x80 ∷ [])
    ∷ ask reporting (Rates ∷ Rates ∷ Aui ∷ Mjlp ∷ []) (0x02 ∷ 0x00 ∷ 0xf0 ∷ 0x80 ∷ [])
    ∷ ask reporting (Mjlp ∷ Mjlp ∷ Aui ∷ Rates ∷ []) (0x80 ∷ 0x00 ∷ 0xf0 ∷ 0x02 ∷ [])
    ∷ ask reporting (Partition ∷ Link ∷ Version ∷ Aui ∷ Rates ∷ Mjlp ∷ []) (0xff ∷ 0x07 ∷ 0x01 ∷ 0xf0 ∷ 0x02 ∷ 0x80 ∷ [])
    -- a reset clears all of it
    ∷ ask (reporting ++ (reset ∷ [])) (Aui ∷ Rates ∷ Link ∷ Mjlp ∷ []) (0x80 ∷ 0x00 ∷ 0x00 ∷ 0x00 ∷ [])
    ∷ []

-- TP0, TP1 and AUI are partitioned: their own activity connects them again, if they do not go by the alternate algorithm, and data that is sent to them does
abbrev pub sets : List Row
sets =
    row (aui_parted ++ (active 0b100000000 2000 0 ∷ [])) 8 (connected 0) true
    ∷ row (setting AlternateAui ∷ aui_parted ++ (active 0b100000000 2000 0 ∷ [])) 8 partitioned true
    ∷ row (setting AlternateAui ∷ aui_parted ++ (active 0b000000100 2000 0 ∷ [])) 8 (connected 0) true
    ∷ row (setting AlternateAui ∷ aui_parted ++ (active 0b000000001 2000 0 ∷ [])) 0 (connected 0) true
    ∷ row (setting AlternateTp ∷ aui_parted ++ (active 0b000000001 2000 0 ∷ [])) 0 partitioned true
    ∷ row (setting AlternateTp ∷ aui_parted ++ (active 0b000000100 2000 0 ∷ [])) 0 (connected 0) true
    ∷ row (setting AlternateTp ∷ aui_parted ++ (active 0b100000000 2000 0 ∷ [])) 8 (connected 0) true
    -- both, in either order, and a reset, which brings the standard ones back
    ∷ row (setting AlternateAui ∷ setting AlternateTp ∷ aui_parted ++ (active 0b100000001 2000 0 ∷ [])) 8 partitioned true
    ∷ row (setting AlternateTp ∷ setting AlternateAui ∷ aui_parted ++ (active 0b000000001 2000 0 ∷ [])) 0 partitioned true
    ∷ row (setting AlternateAui ∷ reset ∷ aui_parted ++ (active 0b100000000 2000 0 ∷ [])) 8 (connected 0) true
    ∷ row (setting AlternateTp ∷ reset ∷ aui_parted ++ (active 0b000000001 2000 0 ∷ [])) 0 (connected 0) true
    -- disabling is for one port: AUI, TP1
    ∷ row (aui_parted ++ (setting DisableAui ∷ [])) 8 (connected 0) true
    ∷ row (aui_parted ++ (setting DisableAui ∷ [])) 0 partitioned true
    ∷ row (aui_parted ++ (setting (DisableTp 1) ∷ [])) 1 (connected 0) true
    ∷ row (aui_parted ++ (setting (DisableTp 1) ∷ [])) 0 partitioned true
    -- a disabled port is heard no more, and an enabled one is
    ∷ row (setting DisableAui ∷ signal 1025 ∷ []) 8 (connected 0) true
    ∷ row (setting DisableAui ∷ setting EnableAui ∷ signal 1025 ∷ []) 8 partitioned true
    -- link tests, off and on, are a port's own
    ∷ row (setting (LinkTestOff 1) ∷ []) 1 (connected 0) true
    ∷ row (setting (LinkTestOff 1) ∷ []) 0 (connected 0) false
    ∷ row (setting (LinkTestOff 7) ∷ setting (LinkTestOn 7) ∷ replicate 100 tick) 7 (connected 0) false
    ∷ row (setting (LinkTestOff 7) ∷ setting (LinkTestOn 6) ∷ replicate 100 tick) 7 (connected 0) true
    ∷ row (replicate 4 (pulse 0b10000000) ++ (setting (DisableTp 7) ∷ setting (EnableTp 7) ∷ [])) 7 (connected 0) false
    -- reset: partition and link
    ∷ row (aui_parted ++ (reset ∷ [])) 0 (connected 0) false
    ∷ row (aui_parted ++ (reset ∷ [])) 8 (connected 0) true
    ∷ []
