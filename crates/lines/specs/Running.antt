-- What the lines of one procedure ask of the task that they move: memory is sound, the task runs in it with this record, and stands at
-- one of the procedure's lines. Assumes nothing.
use Rattle.std.specs.Prelude.{ℕ, ◌≡◌, List, [], ◌∷◌, true}
use Rattle.spec.specs.Lists.{member}
use Rattle.spec.specs.Machine.{Machine}
use Rattle.spec.specs.declared.Task.{Task}
use Rattle.spec.specs.Sound.{sound}
use Rattle.laws.specs.SoundFacts.{RunFacts}

-- ---- the lines of each procedure

abbrev pub contains_lines : List ℕ
contains_lines = 12 ∷ 13 ∷ 15 ∷ 16 ∷ 17 ∷ 18 ∷ []

abbrev pub resize_lines : List ℕ
resize_lines = 20 ∷ 24 ∷ 27 ∷ 28 ∷ []

abbrev pub apply_lines : List ℕ
apply_lines = 32 ∷ 33 ∷ 36 ∷ []

-- those of INITBUCKET that read the predecessor's buckets, freeze them and copy their tags
abbrev pub gather_lines : List ℕ
gather_lines = 43 ∷ 44 ∷ 46 ∷ 47 ∷ 48 ∷ 49 ∷ 52 ∷ []

abbrev pub init_bucket_lines : List ℕ
init_bucket_lines = 39 ∷ 40 ∷ 50 ∷ 51 ∷ gather_lines

-- ---- the task

-- task k runs with the record c, at one of these lines
pub record Runs (y : Machine) (k : ℕ) (c : Task) (ls : List ℕ) : Type 0 where
  pub is_sound : sound y ≡ true
  pub task : RunFacts y k c
  pub at_line : member c.line ls ≡ true
