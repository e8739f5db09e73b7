-- The records of a stretch of input, taken one after the other: where the run stands behind them, and how many of them were turned away.
--   Tally             == where a run stands, and how many records were turned away on the way there
--   end_of at n        == where the piece ends that begins at the place at of n bytes
--   refusal a         == one for an answer that turns its record away, and nothing for any other
--   refused_in said    == how many of the answers said turn a record away
--   tallied p rs      == from the point p through the records rs
--   tally_of p bs      == through all records of the bytes bs, a short last piece being one
--   standing ..       == a run stands at this chip as it is kept, and this host's record
--   came_to t          == the tally that `take_all` returns
--   OneTally          == two results that `take_all` may give for the same arguments are one; their arrays have as many places as their type says
-- Assumes nothing.
use Rattle.std.specs.Prelude.{ℕ, ◌+◌, ◌-◌, ◌≡◌, cond, List, [], ◌∷◌, ltb}
use Rattle.record.specs.Record.{record_length}
use Rattle.host.specs.declared.Host.{Host}
use Rattle.answer.specs.declared.Answer.{Answer}
use Rattle.chip.specs.declared.FlatChip.{FlatChip}
use Rattle.chip.specs.Flat.{chip_of, Sized}
use Rattle.himib.specs.Runs.{Point, at, history, run, answers_in, accepted}
use Rattle.lent.specs.Lists.{cut}
use Rattle.tally.specs.declared.Tallied.{Tallied}

pub record Tally : Type 0 where
  pub point : Point
  pub refused : ℕ

abbrev pub end_of : ℕ → ℕ → ℕ
end_of at n = cond (ltb (n - at) record_length) n (at + record_length)

abbrev pub refusal : Answer → ℕ
refusal a = cond (accepted a) 0 1

unfoldable pub refused_in : List Answer → ℕ
refused_in [] = 0
refused_in (a ∷ rest) = refusal a + refused_in rest

abbrev pub tallied : Point → List (List ℕ) → Tally
tallied p rs = record { point = run p rs; refused = refused_in (answers_in (history p rs)) }

unfoldable pub tally_of : Point → List ℕ → Tally
tally_of p bs = tallied p (cut bs)

abbrev pub standing : FlatChip → Host → Point
standing chip host = at (chip_of chip) host

abbrev pub came_to : Tallied → Tally
came_to t = record { point = standing t.chip t.host; refused = t.refused }

abbrev pub OneTally : Type 0
OneTally =
    (p : Point) (bs : List ℕ) (r s : Tallied) → Sized r.chip → Sized s.chip → came_to r ≡ tally_of p bs → came_to s ≡ tally_of p bs → r ≡ s
