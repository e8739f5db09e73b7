-- Document 01, 'Host registers': D accesses in a row to one register, each from the record that the one before it left.
-- Bursts, ticks and C reads between them do not touch the record; they may change what the register holds, so each read
-- has a value of its own.
--     read_bytes size values host   == the bytes that reads give while the register holds, read by read, the values
--     after_reads size values host  == the record after them
--     completions size bytes host  == for each of the written bytes, whether the write was complete with it
--     after_writes size bytes host  == the record after them
-- Assumes nothing.
use Rattle.std.specs.Prelude.{ℕ, Bool, List, [], ◌∷◌}
use Rattle.host.specs.declared.Host.{Host}
use Rattle.host.specs.Sequence.{read_byte, wrote_byte}

unfoldable pub read_bytes : ℕ → List (List ℕ) → Host → List ℕ
read_bytes size [] host = []
read_bytes size (value ∷ values) host = (read_byte size value host).byte ∷ read_bytes size values (read_byte size value host).host

unfoldable pub after_reads : ℕ → List (List ℕ) → Host → Host
after_reads size [] host = host
after_reads size (value ∷ values) host = after_reads size values (read_byte size value host).host

unfoldable pub completions : ℕ → List ℕ → Host → List Bool
completions size [] host = []
completions size (byte ∷ bytes) host = (wrote_byte size byte host).complete ∷ completions size bytes (wrote_byte size byte host).host

unfoldable pub after_writes : ℕ → List ℕ → Host → Host
after_writes size [] host = host
after_writes size (byte ∷ bytes) host = after_writes size bytes (wrote_byte size byte host).host
