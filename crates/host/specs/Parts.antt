-- Document 01, 'Host registers': the ways of a listed register as the code has them; and a port's page by its port: TP0's page says for every port what
-- stands at an R. `proofs/Pages.antt` shows that the table says the same of each port's own page.
-- Assumes nothing.
use Rattle.std.specs.Prelude.{ℕ}
use Rattle.host.specs.declared.Row.{Row}
use Rattle.host.specs.declared.Ways as declared
use Rattle.host.specs.Map.{Ways, read, write, both, line_at, row_on, tp0_page}

unfoldable pub port_row : ℕ → ℕ → Row
port_row i r = row_on (line_at tp0_page r) i r

abbrev pub listed_ways : declared.Ways → Ways
listed_ways declared.Ways.Read = read
listed_ways declared.Ways.Write = write
listed_ways declared.Ways.Both = both
