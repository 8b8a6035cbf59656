-- Whether a tag is inside after calls that were all answered rightly: if an odd number of them put it in or took it out, since these two
-- take turns. What the plain set then answers. Assumes nothing.
use Rattle.std.specs.Prelude.{ℕ, ◌+◌, ◌≤◌, ◌≡◌, List, [], ◌∷◌, Bool, true, false, not, ◌&&◌, eqb, length, if◌then◌else◌}
use Rattle.spec.specs.declared.Call.{Call}
use Rattle.spec.specs.declared.Call.TheVariants.{Insert, Remove, Contains, Grow, Shrink}
use Rattle.spec.specs.declared.Answer.{Answer}
use Rattle.spec.specs.declared.Answer.TheVariants.{Done}
use Rattle.spec.specs.Lists.{member}
use Rattle.spec.specs.Numbers.{answer_number}
use Rattle.spec.specs.Plain.{found_answer}
use Rattle.laws.specs.Ascending.{Rising}
use Rattle.notes.specs.declared.Note.{Note}

-- the answer to a call, by whether its tag is inside
abbrev pub said : Call → Bool → Answer
said Insert inside = found_answer (not inside)
said Remove inside = found_answer inside
said Contains inside = found_answer inside
said Grow inside = Done
said Shrink inside = Done

-- the calls of the set: spec's `set_call`
abbrev pub of_set : Call → Bool
of_set Insert = true
of_set Remove = true
of_set Contains = true
of_set Grow = false
of_set Shrink = false

-- the calls that change the set where they are answered yes
abbrev pub moves : Call → Bool
moves Insert = true
moves Remove = true
moves Contains = false
moves Grow = false
moves Shrink = false

-- the call, as it was answered, put the tag k in or took it out
unfoldable pub turns : ℕ → Note → Bool
turns k x = eqb x.tag k && (eqb (answer_number x.answer) 1 && moves x.call)

abbrev pub differ : Bool → Bool → Bool
differ a b = if a then not b else b

-- whether the tag is inside after some calls, by whether it was inside before them
unfoldable pub toggled : ℕ → Bool → List Note → Bool
toggled k r [] = r
toggled k r (x ∷ xs) = toggled k (differ (turns k x) r) xs

-- after these calls of both lists
abbrev pub inside : List Note → List Note → ℕ → Bool
inside xs ys k = toggled k (toggled k false xs) ys

-- S is a set that these calls may have left
pub record Stands (xs ys : List Note) (S : List ℕ) : Type 0 where
  pub holds : (k : ℕ) → member k S ≡ inside xs ys k
  pub rising : Rising S
  pub few : length S ≤ length xs + length ys
