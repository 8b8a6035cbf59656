-- What an opening gives back, as the definitions' record. Assumes nothing.
use Rattle.std.specs.Prelude.{ℕ, List}
use Rattle.coop_spec.specs.Numbers.{opening_number}
use Rattle.coop_spec.specs.Machine.{machine_of}
use Rattle.coop_spec.specs.Entries as entries
use Rattle.coop_opening.specs.declared.Opened.{Opened}

-- the refusal's number, and the state with what is left in the pool
abbrev pub opened_of : Opened → List ℕ → entries.Opened
opened_of r vs = record { refusal = opening_number r.refusal; machine = machine_of r.state vs }
