-- No section of document 01: the line that the program `tell` prints for a record. It says what the record was answered with, in the words of the run
-- program, and what it left, in 28 words of three hexadecimal digits. Everything that is told is what the chip shows, by the definitions of the crates below.
--   spoken n a             == the line of the run program for record n, answered with a, but for its newline
--   spelt ws               == a space and three hexadecimal digits for each word
--   told_as n a ws          == a line: what is spoken, the words, a newline
--   moved_of before after r == the ports whose counter R differs between two sets of attributes
--   status_of c             == the byte that a C read would give: interrupt and interface error
--   changesIn c            == the seven change registers
--   credits_in before after == for each of the thirteen counters the ports where it differs, and whether each of the two totals does: 1 or 0
--   words_of before after h == the words: the ports that are enabled, whose link passes, that are partitioned; the change registers; the status; P and R; the
--                             credits
--   tell_of n h             == the line of record n, to which h happened
--   Wrote                  == a line was put into a buffer
--   Tells                  == what `tell` does
--   OneTold                == two outcomes that `tell` allows are equal, their arrays having the size that their type says
--   SameAnswer             == the line begins with the line of the run program, a space in the place of its newline
-- Assumes nothing.
use Rattle.std.specs.Prelude.{ℕ, ◌+◌, ◌-◌, ◌≤◌, ◌≡◌, Bool, cond, not, ◌&&◌, List, [], ◌∷◌, ◌++◌, eqb, leb, length, get_or, take}
use Rattle.ports.specs.Sets.{port_count, gather}
use Rattle.repeater.specs.Repeater.{partitioned_of, linked_of, enabled_of}
use Rattle.host.specs.declared.Host.{Host}
use Rattle.answer.specs.declared.Answer.{Answer}
use Rattle.answer.specs.Numerals.{decimal, hex}
use Rattle.answer.specs.Line.{space, newline, said_of, line_of}
use Rattle.answer.specs.Put.{laid}
use Rattle.attributes.specs.declared.Nine.{Nine}
use Rattle.attributes.specs.Nine.{counter_of}
use Rattle.changes.specs.Changes.{bit7, pending}
use Rattle.chip.specs.declared.Core.{Core}
use Rattle.chip.specs.declared.Chip.{Chip}
use Rattle.chip.specs.declared.FlatChip.{FlatChip}
use Rattle.chip.specs.Flat.{chip_of, Sized}
use Rattle.himib.specs.Runs.{Happening, at, happening}
use Rattle.telling.specs.declared.Told.{Told}

-- ---- The line

unfoldable pub spoken : ℕ → Answer → List ℕ
spoken n a = decimal n ++ space ∷ said_of a

unfoldable pub spelt : List ℕ → List ℕ
spelt [] = []
spelt (w ∷ ws) = (space ∷ hex 3 w) ++ spelt ws

unfoldable pub told_as : ℕ → Answer → List ℕ → List ℕ
told_as n a ws = spoken n a ++ (spelt ws ++ (newline ∷ []))

-- ---- Its words

abbrev pub differ : ℕ → ℕ → Bool
differ a b = not (eqb a b)

unfoldable pub moved_of : Nine → Nine → ℕ → ℕ
moved_of before after r = gather port_count (λ i. differ (counter_of before i r) (counter_of after i r))

abbrev pub status_of : Core → ℕ
status_of c = bit7 (pending c.changes c.enables) + cond c.interface_error 64 0

abbrev pub moved_total : ℕ → ℕ → ℕ
moved_total before after = cond (differ before after) 1 0

unfoldable pub words_of : Chip → Chip → Host → List ℕ
words_of before after h =
    enabled_of after.core.repeater
    ∷ linked_of after.core.repeater
    ∷ partitioned_of after.core.repeater
    ∷ get_or after.core.changes 0 0
    ∷ get_or after.core.changes 1 0
    ∷ get_or after.core.changes 2 0
    ∷ get_or after.core.changes 3 0
    ∷ get_or after.core.changes 4 0
    ∷ get_or after.core.changes 6 0
    ∷ get_or after.core.changes 7 0
    ∷ status_of after.core
    ∷ h.page
    ∷ h.register
    ∷ moved_of before.attributes after.attributes 0
    ∷ moved_of before.attributes after.attributes 1
    ∷ moved_of before.attributes after.attributes 2
    ∷ moved_of before.attributes after.attributes 3
    ∷ moved_of before.attributes after.attributes 4
    ∷ moved_of before.attributes after.attributes 5
    ∷ moved_of before.attributes after.attributes 6
    ∷ moved_of before.attributes after.attributes 7
    ∷ moved_of before.attributes after.attributes 8
    ∷ moved_of before.attributes after.attributes 9
    ∷ moved_of before.attributes after.attributes 10
    ∷ moved_of before.attributes after.attributes 11
    ∷ moved_of before.attributes after.attributes 12
    ∷ moved_total before.core.kept.transmit_collisions after.core.kept.transmit_collisions
    ∷ moved_total before.core.kept.total_octets after.core.kept.total_octets
    ∷ []

unfoldable pub tell_of : ℕ → Happening → List ℕ
tell_of n h = told_as n h.answer (words_of h.before.chip h.after.chip h.after.host)

-- ---- The line in a buffer, and what it says of the run program's

-- the longest line: the number of a record in 64 bits, and a refusal's in 8
abbrev pub longest : ℕ
longest = 141

-- so many bytes are left from the place at on
unfoldable pub roomy : List ℕ → ℕ → Bool
roomy old at = leb at (length old) && leb longest (length old - at)

-- a line in a buffer from the place at on, and everything else as it was; nothing without room; `short` follows where the line is one of the code's
pub record Wrote (old : List ℕ) (at : ℕ) (line new : List ℕ) (r : ℕ) : Type 0 where
  pub next : r ≡ cond (roomy old at) (at + length line) at
  pub bytes : new ≡ cond (roomy old at) (laid old at line) old
  pub short : r ≤ at + longest

pub record Tells (s : FlatChip) (h : Host) (n : ℕ) (bs old : List ℕ) (place : ℕ) (t : Told) (new : List ℕ) : Type 0 where
  pub after : at (chip_of t.chip) t.host ≡ (happening (at (chip_of s) h) bs).after
  pub wrote : Wrote old place (tell_of n (happening (at (chip_of s) h) bs)) new t.next

abbrev pub OneTold : Type 0
OneTold =
    (s : FlatChip) (h : Host) (n : ℕ) (bs old : List ℕ) (place : ℕ) (t u : Told) (x y : List ℕ) → Sized t.chip → Sized u.chip
    → Tells s h n bs old place t x → Tells s h n bs old place u y → (t ≡ u) × (x ≡ y)

abbrev pub SameAnswer : Type 0
SameAnswer = (n : ℕ) (h : Happening) → take (length (line_of n h.answer) - 1) (tell_of n h) ++ (newline ∷ []) ≡ line_of n h.answer
