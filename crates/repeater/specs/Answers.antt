-- Document 01, 'Commands': what a Get answers.
--   connected_at, passing_at == a port's bit in the answers that report every TP port
--   aui_byte r      == PBSL0000
--   answer_of query r   == the byte that a Get gives
-- Assumes nothing.
use Rattle.std.specs.Prelude.{ℕ, ◌+◌, ◌*◌, Bool, cond, not}
use Rattle.ports.specs.Sets.{aui, gather}
use Rattle.management.specs.declared.Query.{Query}
use Rattle.management.specs.declared.Query.TheVariants.{Aui, AuiClearB, AuiClearSl, AuiClearBsl, Partition, Rates, Link, Mjlp, Version}
use Rattle.repeater.specs.declared.Repeater.{Repeater}
use Rattle.repeater.specs.Door.{port_at}

-- a port's bit in a Get's answer, at place i
abbrev pub connected_at : Repeater → ℕ → Bool
connected_at r i = not (port_at r i).partitioned

abbrev pub passing_at : Repeater → ℕ → Bool
passing_at r i = (port_at r i).link_pass

abbrev pub bit : Bool → ℕ
bit b = cond b 1 0

-- PBSL0000: connected, bit rate error, SQE Test, loopback
abbrev pub aui_byte : Repeater → ℕ
aui_byte r =
    128 * bit (connected_at r aui) + 64 * bit r.status.rate + 32 * bit r.status.sqe + 16 * bit r.status.loopback

unfoldable pub answer_of : Query → Repeater → ℕ
answer_of Aui r = aui_byte r
answer_of AuiClearB r = aui_byte r
answer_of AuiClearSl r = aui_byte r
answer_of AuiClearBsl r = aui_byte r
answer_of Partition r = gather 8 (connected_at r)
answer_of Rates r = r.status.rates
answer_of Link r = gather 8 (passing_at r)
answer_of Mjlp r = 128 * bit r.status.mjlp
answer_of Version r = 1
