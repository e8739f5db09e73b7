-- Document 01, 'Host registers': a register's value as six bytes.
-- Settles where its bytes stand: they come in the order of `spelling`, and places past the register's own bytes hold 0.
--     spread_of number == the six bytes of a register of four
--     single_of byte   == the six bytes of a register of one
-- Assumes nothing.
use Rattle.std.specs.Prelude.{ℕ, List, ◌∷◌, ◌++◌, replicate}
use Rattle.spelling.specs.Spelling.{least_first}

abbrev pub spread_of : ℕ → List ℕ
spread_of number = least_first 4 number ++ replicate 2 0

abbrev pub single_of : ℕ → List ℕ
single_of byte = byte ∷ replicate 5 0
