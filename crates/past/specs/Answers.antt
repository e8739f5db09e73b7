-- Document 01, all of it, as one function of the records that came before and of what power-up was given: the answer to the next record.
--   answer_by start past d  == the answer to the deed d after a past
--   answers_by start past rs == the answers to the records rs, the oldest first, after a past
--   answer_to start rs bs   == the answer to the bytes bs after the records rs, the oldest first, from power-up
-- Assumes nothing.
use Rattle.std.specs.Prelude.{ℕ, ◌+◌, cond, List, [], ◌∷◌}
use Rattle.ports.specs.Sets.{set_of}
use Rattle.answer.specs.declared.Answer.{Answer}
use Rattle.answer.specs.declared.Answer.TheVariants.{Done, Sent, Value, Refused}
use Rattle.past.specs.Deeds.{Deed, Use, bursts, pulses, ticks, commands, uses, resets, refused, selects_p, selects_r, allows, addresses, asks, reads}
use Rattle.past.specs.Deeds.{deed_after, deeds_from}
use Rattle.past.specs.Bursts.{word_by, out_by}
use Rattle.past.specs.Partition.{sent_to, heard_by}
use Rattle.past.specs.Changes.{interrupt_by, error_by}
use Rattle.past.specs.Reads.{Start, read_by}

-- bit 7 interrupt, bit 6 interface error
abbrev pub status_by : Start → List Deed → ℕ
status_by start past = cond (interrupt_by start.addresses past) 128 0 + cond (error_by past) 64 0

abbrev pub used_by : Start → List Deed → Use → Answer
used_by start past (selects_p n) = Done
used_by start past (selects_r n) = Done
used_by start past (allows k b) = Done
used_by start past (addresses i b) = Done
used_by start past asks = Value (status_by start past)
used_by start past (reads register size) = Value (read_by start past register size)

unfoldable pub answer_by : Start → List Deed → Deed → Answer
answer_by start past (bursts b source) = Sent (word_by b (heard_by past b)) (set_of (out_by (sent_to past) (heard_by past b)))
answer_by start past (pulses mask) = Done
answer_by start past ticks = Done
answer_by start past (commands through_g c) = Done
answer_by start past (uses u) = used_by start past u
answer_by start past resets = Done
answer_by start past (refused k) = Refused k

unfoldable pub answers_by : Start → List Deed → List (List ℕ) → List Answer
answers_by start past [] = []
answers_by start past (bs ∷ rs) = let d : Deed = deed_after past bs in answer_by start past d ∷ answers_by start (d ∷ past) rs

unfoldable pub answer_to : Start → List (List ℕ) → List ℕ → Answer
answer_to start rs bs = answer_by start (deeds_from [] rs) (deed_after (deeds_from [] rs) bs)
