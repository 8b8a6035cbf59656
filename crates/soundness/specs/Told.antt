-- What a check of all memory gives: of sound memory a task's record, of other memory none. Assumes nothing.
use Rattle.std.specs.Prelude.{ℕ, Bool, if◌then◌else◌, Option, None, Some}
use Rattle.spec.specs.Machine.{Machine, task_of}
use Rattle.spec.specs.Sound.{sound}
use Rattle.spec.specs.declared.Task.{Task}

unfoldable pub told : Bool → Task → Option Task
told sound c = if sound then Some c else None

-- with the record of task k
abbrev pub checked_of : Machine → ℕ → Option Task
checked_of y k = told (sound y) (task_of y k)
