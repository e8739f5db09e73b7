use Prim.Native.Nat.{◌+◌, ◌*◌}
use mathlib.Core.Path.{◌≡◌}
use lib.ListN.{length, take}
use Rattle.answer.specs.Put.{Put}
use Rattle.telling.specs.Telling.{spelt}
use Rattle.telling.proofs.put_words.Given as goal

abbrev pub invariant-loop-word : goal.invariant-loop-word
invariant-loop-word l =
    record { room : length l.out ≡ length l.initial.out; place : l.next ≡ l.at + 4 * l.word-index; put : Put l.initial.out l.at (spelt (take l.word-index l.word-items)) l.out l.next }
