-- The tables of specs/Sheet.antt, by computing: each is one equation. Assumes nothing.
--   up_kept                 == the ports at power-up
--   puts_found, gives_found == every port put and found again, and nothing else moved
--   some_found              == each bit goes to its own mask and comes from it, and each number to its own place in the row
--   moves_made              == what is done to all ports
use mathlib.Core.Path.{◌≡◌, refl}
use mathlib.Core.List.{map}
use Rattle.ports.specs.Sets.{has}
use Rattle.ports.specs.Each.{each}
use Rattle.port.specs.Link.{ticked, pulsed, revived, ticked_at, pulsed_at, revived_at}
use Rattle.port.specs.Partition.{partitioning, after_meeting}
use Rattle.port.specs.Reset.{tp_up, aui_up}
use Rattle.store.specs.Door.{ports_from, ports_of, mask_of, with_ports_in, port_in, put_in, each_in, alike_in, met_in}
use Rattle.store.specs.Sheet.{up, wanted, taken, given, puts, gives, some, differing, with_some, Move, done, moves}

pub up_kept : up ≡ alike_in tp_up aui_up
unfolding mask_of with_ports_in alike_in
up_kept = refl

pub puts_found : map taken puts ≡ map wanted puts
unfolding ports_from ports_of mask_of with_ports_in port_in put_in
puts_found = refl

pub gives_found : map given gives ≡ map wanted gives
unfolding ports_from ports_of mask_of with_ports_in port_in put_in
gives_found = refl

pub some_found : (put_in 3 some differing ≡ with_some) × (port_in with_some 3 ≡ some)
unfolding ports_from ports_of mask_of with_ports_in port_in put_in
some_found = (refl, refl)

pub moves_made : map (λ (w : Move). done w.doing w.before) moves ≡ map (λ (w : Move). w.after) moves
unfolding has each ports_from ports_of mask_of with_ports_in each_in met_in ticked pulsed revived ticked_at pulsed_at revived_at partitioning after_meeting
moves_made = refl
