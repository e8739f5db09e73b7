-- Every row of specs/Sheet.antt, by computing. Assumes nothing.
use mathlib.Core.Path.{◌≡◌, refl}
use mathlib.Core.List.{List, map}
use Rattle.host.specs.Sequence.{power_up}
use Rattle.access.specs.Access.{value_of, number_of}
use Rattle.access.specs.Sheet.{Row, said, ports, up, commands, bits, interrupts, registers, barred, address, completed}
use Rattle.access.specs.Sheet.{Content, counting, counting_ports, contents}
use Rattle.access.proofs.Computing.{accessing}

abbrev Holds : List Row → Type 0
Holds rows = map (λ (w : Row). w.answers) rows ≡ map (λ (w : Row). said w.core power_up w.accesses) rows

pub commands_hold : Holds commands
unfolding accessing said commands
commands_hold = refl

pub bits_hold : Holds bits
unfolding accessing said bits
bits_hold = refl

pub interrupts_hold : Holds interrupts
unfolding accessing said interrupts
interrupts_hold = refl

pub registers_hold : Holds registers
unfolding accessing said registers
registers_hold = refl

pub barred_hold : Holds barred
unfolding accessing said barred
barred_hold = refl

pub address_completed : completed ≡ ports up power_up address
unfolding accessing ports
address_completed = refl

pub bytes_hold : map (λ (w : Content). w.bytes) contents ≡ map (λ (w : Content). value_of counting counting_ports w.register) contents
unfolding accessing contents
bytes_hold = refl

pub numbers_hold : map (λ (w : Content). w.number) contents ≡ map (λ (w : Content). number_of counting counting_ports w.register) contents
unfolding accessing contents
numbers_hold = refl
