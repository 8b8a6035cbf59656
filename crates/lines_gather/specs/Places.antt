-- What the lines that read a place of a node have in common: 39 into b, 46 into m, 47 into n. Assumes nothing.
use Rattle.std.specs.Prelude.{ℕ, List, [], ◌∷◌}
use Rattle.spec.specs.declared.Task.{Task}
use Rattle.spec.specs.Machine.{Machine, with_line, with_b, with_m, with_n}
use Rattle.spec.specs.Listed.{size_of, place_of}
use Rattle.spec.specs.Lines.{Effect, moves}
use Rattle.laws.specs.StepAt.{Test, through, uses}
use Rattle.lines_gather.specs.declared.Field.{Field}
use Rattle.lines_gather.specs.declared.Field.TheVariants.{B, M, N}

unfoldable pub with_field : Field → ℕ → Task → Task
with_field B v c = with_b v c
with_field M v c = with_m v c
with_field N v c = with_n v c

-- it goes through the node, and uses its place i
abbrev pub place_tests : Machine → ℕ → ℕ → List Test
place_tests y node i = through node ∷ uses i (size_of y node) ∷ []

-- the field is that place, to line l
abbrev pub reads_place : Machine → Task → Field → ℕ → ℕ → ℕ → Effect
reads_place y c f node i l = moves (with_line l (with_field f (place_of y node i) c))
