-- Document 01, 'What each statement must settle': any pair of outcomes that a contract allows is equal. Most contracts are an equation with a definition, and
-- need nothing. Here stand the functions whose contract is a relation, or which hand something back through what they were lent: each with two results and
-- two later contents, both as the contract allows. Results that hold a chip have the arrays that its type says: as many places, and no more.
--   OneLine  == `put_line` of answer; OneBlock, OnePiece == `answer_block` and `answer_piece` of block; OneList == `answer_all` of lent
--   OneLent  == `write_c`, `write_d`, `read_c`, `read_d` and `step` of lent; the results and the lent records that they leave
-- And demand 1 of the last five:
--   LentIsStill == what is turned away leaves the chip as it was, and the lent record as it was lent
-- And calls of `step` one after the other, the record lent to each in turn:
--   Call        == a call: its bytes, its result and the record that it leaves; Calls c h ks == calls from the chip c and the record h
--   LentCallsAreARun == they are the run of their bytes: chip and record in the end, and the answers
-- Assumes nothing.
use Rattle.std.specs.Prelude.{ℕ, ◌≡◌, List, [], ◌∷◌, map}
use Rattle.record.specs.declared.Record.{Record}
use Rattle.host.specs.declared.Host.{Host}
use Rattle.answer.specs.declared.Answer.{Answer}
use Rattle.answer.specs.declared.Answer.TheVariants.{Refused}
use Rattle.answer.specs.Put.{WrittenLine}
use Rattle.chip.specs.declared.FlatChip.{FlatChip}
use Rattle.chip.specs.Flat.{chip_of, Sized}
use Rattle.himib.specs.Step.{step_of}
use Rattle.himib.specs.Runs.{Point, at, answers_in}
use Rattle.block.specs.declared.Block.{Block}
use Rattle.block.specs.Block.{standing, came_to, Answered, AnsweredPiece}
use Rattle.lent.specs.declared.Rest.{Rest}
use Rattle.lent.specs.Lent.{together, requested, c_write, c_read, d_write, d_read}
use Rattle.lent.specs.Lists.{chip_after_all, answers_laid}
use Rattle.pass.specs.Judged.{history, run}

abbrev pub OneLine : Type 0
OneLine =
    (old : List ℕ) (at n : ℕ) (a : Answer) (x y : List ℕ) (r s : ℕ) → WrittenLine old at n a x r → WrittenLine old at n a y s → (r ≡ s) × (x ≡ y)

abbrev pub OneBlock : Type 0
OneBlock =
    (c : FlatChip) (h : Host) (n : ℕ) (input out : List ℕ) (r s : Block) (x y : List ℕ) → Sized r.chip → Sized s.chip
    → Answered (standing c h) n input out (came_to r x) → Answered (standing c h) n input out (came_to s y) → (r ≡ s) × (x ≡ y)

abbrev pub OnePiece : Type 0
OnePiece =
    (n : ℕ) (piece out x y : List ℕ) (r s : ℕ) → AnsweredPiece n piece out x r → AnsweredPiece n piece out y s → (r ≡ s) × (x ≡ y)

abbrev pub OneList : Type 0
OneList =
    (c : FlatChip) (bs out : List ℕ) (d e : FlatChip) (x y : List ℕ) → Sized d → Sized e
    → (chip_of d ≡ chip_after_all (chip_of c) bs) × (x ≡ answers_laid (chip_of c) bs out)
    → (chip_of e ≡ chip_after_all (chip_of c) bs) × (y ≡ answers_laid (chip_of c) bs out) → (d ≡ e) × (x ≡ y)

-- what a lent function ensures of its result r and of the record z that it leaves
abbrev pub Takes : Record → FlatChip → Host → Rest → Host → Type 0
Takes q c h r z = together r z ≡ requested q (chip_of c) h

abbrev pub Steps : List ℕ → FlatChip → Host → Rest → Host → Type 0
Steps bs c h r z = together r z ≡ step_of (chip_of c) h bs

-- one result and one later record
abbrev pub One : (FlatChip → Host → Rest → Host → Type 0) → Type 0
One E = (c : FlatChip) (h : Host) (r s : Rest) (y z : Host) → Sized r.chip → Sized s.chip → E c h r y → E c h s z → (r ≡ s) × (y ≡ z)

pub record OneLent : Type 0 where
  pub write_c : (byte : ℕ) → One (Takes (c_write byte))
  pub write_d : (byte : ℕ) → One (Takes (d_write byte))
  pub read_c : One (Takes c_read)
  pub read_d : One (Takes d_read)
  pub step : (bs : List ℕ) → One (Steps bs)

-- turned away, everything is as it was
abbrev pub StillLent : (FlatChip → Host → Rest → Host → Type 0) → Type 0
StillLent E =
    (c : FlatChip) (h : Host) (r : Rest) (z : Host) (k : ℕ) → Sized c → Sized r.chip → E c h r z → r.answer ≡ Refused k → (r.chip ≡ c) × (z ≡ h)

pub record LentIsStill : Type 0 where
  pub write_c : (byte : ℕ) → StillLent (Takes (c_write byte))
  pub write_d : (byte : ℕ) → StillLent (Takes (d_write byte))
  pub read_c : StillLent (Takes c_read)
  pub read_d : StillLent (Takes d_read)
  pub step : (bs : List ℕ) → StillLent (Steps bs)

pub record Call : Type 0 where
  pub bytes : List ℕ
  pub rest : Rest
  pub host : Host

abbrev pub Calls : FlatChip → Host → List Call → Type 0
Calls c h [] = Unit
Calls c h (k ∷ ks) = Steps k.bytes c h k.rest k.host × Calls k.rest.chip k.host ks

abbrev pub left_by : FlatChip → Host → List Call → Point
left_by c h [] = at (chip_of c) h
left_by c h (k ∷ ks) = left_by k.rest.chip k.host ks

abbrev pub asked_in : List Call → List (List ℕ)
asked_in ks = map (λ k. k.bytes) ks

abbrev pub LentCallsAreARun : Type 0
LentCallsAreARun =
    (c : FlatChip) (h : Host) (ks : List Call) → Calls c h ks
    → (left_by c h ks ≡ run (at (chip_of c) h) (asked_in ks)) × (map (λ k. k.rest.answer) ks ≡ answers_in (history (at (chip_of c) h) (asked_in ks)))
