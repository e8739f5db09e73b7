-- How the code reads a record: by its kind, to what it asks for or to why it is turned away.
--     kind_code k           the number of the kind k
--     Decodes number r      r is the kind with this number, or the refusal of a number that no kind has
--     Reads s r             r is what the bytes s ask for, or why they are turned away
--     ReadsBare s asked r   the same for a kind whose number is all that may stand in s, and that asks for this
-- Assumes nothing.
use Rattle.std.specs.Prelude.{ℕ, List, true, false, ◌≡◌, Result, MatchResult}
use Rattle.record.specs.Record.{burst_kind, pulse_kind, tick_kind, c_write_kind, d_write_kind, c_read_kind, d_read_kind, reset_kind, stray}
use Rattle.record.specs.Numbers.{number_of}
use Rattle.record.specs.Refusals.{refused, accepted, record_of}
use Rattle.record.specs.declared.Asked.{Asked}
use Rattle.record.specs.declared.Kind.{Kind}
use Rattle.record.specs.declared.Kind.TheVariants as kind
use Rattle.record.specs.declared.Refusal.{Refusal}

abbrev pub kind_code : Kind → ℕ
kind_code kind.Burst = burst_kind
kind_code kind.Pulse = pulse_kind
kind_code kind.Tick = tick_kind
kind_code kind.WriteC = c_write_kind
kind_code kind.WriteD = d_write_kind
kind_code kind.ReadC = c_read_kind
kind_code kind.ReadD = d_read_kind
kind_code kind.Reset = reset_kind

abbrev pub Decodes : ℕ → Result Kind Refusal → Type 0
Decodes number r = MatchResult r (λ k. kind_code k ≡ number) (λ why. (why ≡ Refusal.StrayBytes) × ((k : Kind) → kind_code k ≡ number → ⊥))

abbrev pub Reads : List ℕ → Result Asked Refusal → Type 0
Reads s r = MatchResult r (λ asked. accepted asked s ≡ record_of s) (λ why. refused (number_of why) ≡ record_of s)

abbrev pub ReadsBare : List ℕ → Asked → Result Asked Refusal → Type 0
ReadsBare s asked r = MatchResult r (λ a. (a ≡ asked) × (stray tick_kind s ≡ false)) (λ why. (why ≡ Refusal.StrayBytes) × (stray tick_kind s ≡ true))
