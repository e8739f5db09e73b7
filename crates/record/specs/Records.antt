-- Document 01, section 'Record': a builder for each kind, with the fields that the kind uses. Computed instances are made with them.
--     burst_record mask flags d n k c x source    a burst
--     pulse_record mask, tick_record, c_write_record byte, d_write_record byte, c_read_record, d_read_record, reset_record    the other kinds
--     plain_record kind mask written              a kind with at most a mask and a written byte
--     no_address                                  the address of six zeros
--     from i n                                   the n places from i on
-- Assumes nothing.
use Rattle.std.specs.Prelude.{ℕ, zero, suc, ◌+◌, List, [], ◌∷◌, ◌++◌, replicate}
use Rattle.spelling.specs.Spelling.{least_first}
use Rattle.record.specs.Record.{burst_kind, pulse_kind, tick_kind, c_write_kind, d_write_kind, c_read_kind, d_read_kind, reset_kind}

abbrev pub no_address : List ℕ
no_address = replicate 6 0

abbrev pub from : ℕ → ℕ → List ℕ
from i zero = []
from i (suc n) = i ∷ from (i + 1) n

abbrev pub burst_record : ℕ → ℕ → ℕ → ℕ → ℕ → ℕ → ℕ → List ℕ → List ℕ
burst_record mask flags d n k c x source =
    (burst_kind ∷ flags ∷ least_first 2 mask) ++ least_first 4 d ++ least_first 4 n ++ (k ∷ 0 ∷ 0 ∷ 0 ∷ [])
    ++ least_first 4 c
    ++ least_first 4 x
    ++ source
    ++ (0 ∷ 0 ∷ [])

abbrev pub plain_record : ℕ → ℕ → ℕ → List ℕ
plain_record kind mask written = (kind ∷ 0 ∷ least_first 2 mask) ++ replicate 9 0 ++ (written ∷ replicate 18 0)

abbrev pub pulse_record : ℕ → List ℕ
pulse_record mask = plain_record pulse_kind mask 0

abbrev pub tick_record : List ℕ
tick_record = plain_record tick_kind 0 0

abbrev pub c_write_record : ℕ → List ℕ
c_write_record byte = plain_record c_write_kind 0 byte

abbrev pub d_write_record : ℕ → List ℕ
d_write_record byte = plain_record d_write_kind 0 byte

abbrev pub c_read_record : List ℕ
c_read_record = plain_record c_read_kind 0 0

abbrev pub d_read_record : List ℕ
d_read_record = plain_record d_read_kind 0 0

abbrev pub reset_record : List ℕ
reset_record = plain_record reset_kind 0 0
