-- Paper 02, U8: "Given two lists of at most six calls each, say whether some order that keeps both lists gives those answers from an
-- empty set. If so, write it, taking the first lane's call wherever both choices can still succeed." Assumes nothing.
use Rattle.std.specs.Prelude.{ℕ, zero, suc, ◌+◌, ◌-◌, List, [], ◌∷◌, ◌++◌, map, Bool, not, ◌||◌, ltb, eqb, length, take, replicate, if◌then◌else◌}
use Rattle.std.specs.Prelude.{Option, Some, None, Result, Ok, Err}
use Rattle.spec.specs.declared.Answer.TheVariants.{No}
use Rattle.spec.specs.declared.Call.TheVariants.{Contains}
use Rattle.spec.specs.Lists.{every}
use Rattle.spec.specs.Numbers.{answer_number}
use Rattle.spec.specs.History.{set_call}
use Rattle.notes.specs.declared.Note.{Note}
use Rattle.notes.specs.declared.Notes.{Notes}
use Rattle.notes.specs.declared.Lane.{Lane as LaneTaken}
use Rattle.notes.specs.declared.Lane.TheVariants.{First, Second}
use Rattle.notes.specs.declared.Unfit.{Unfit}
use Rattle.notes.specs.declared.Unfit.TheVariants.{LongerOrResize}
use Rattle.notes.specs.Orders.{note, Lane, first, second, asked}

-- ---- the search

pub data Found : Type 0 where
  order : List Lane → Found
  none : Found

-- a call of this lane, then what was found of the rest
unfoldable pub preceded : Lane → Found → Found
preceded l (order L) = order (l ∷ L)
preceded l none = none

-- the second only where the first cannot succeed
unfoldable pub or_else : Found → Found → Found
or_else (order L) f = order L
or_else none f = f

-- "taking the first lane's call wherever both choices can still succeed"
unfoldable pub either : (Lane → Found) → Found
either choices = or_else (choices first) (choices second)

-- the plain set gives the note's answer
unfoldable pub gives : List ℕ → Note → Bool
gives S x = eqb (answer_number (asked S x).answer) (answer_number x.answer)

-- how a search goes on from a set, with what is left of both lists
abbrev pub Search : Type 0
Search = List ℕ → List Note → List Note → Found

-- the call x of this lane is taken, if the set gives its answer, and the search goes on with what is left
unfoldable pub take_call : Lane → Search → List ℕ → Note → List Note → List Note → Found
take_call l on S x xs ys = if gives S x then preceded l (on (asked S x).tags xs ys) else none

-- the lane's next call is taken, if it has one
unfoldable pub choice : Lane → Search → List ℕ → List Note → List Note → Found
choice first on S [] ys = none
choice first on S (x ∷ xs) ys = take_call first on S x xs ys
choice second on S xs [] = none
choice second on S xs (y ∷ ys) = take_call second on S y xs ys

-- an order of the n calls that are left in both lists, from the set S on
unfoldable pub search : ℕ → Search
search zero S xs ys = order []
search (suc n) S xs ys = either (λ l. choice l (search n) S xs ys)

-- "from an empty set"
unfoldable pub search_all : List Note → List Note → Found
search_all xs ys = search (length xs + length ys) [] xs ys

-- ---- what is answered

pub data Outcome : Type 0 where
  searched : Found → Outcome
  refused : ℕ → Outcome

-- "a longer list or a resize in one"
unfoldable pub unfit : List Note → Bool
unfit xs = ltb 6 (length xs) || not (every (λ (x : Note). set_call x.call) xs)

-- "Refused: 13, a longer list or a resize in one, before any search."
unfoldable pub merge : List Note → List Note → Outcome
merge xs ys = if unfit xs || unfit ys then refused 13 else searched (search_all xs ys)

-- ---- the same as the code has it

-- a list's calls. A count over six is a longer list, whatever its calls are
unfoldable pub list_of : Notes → List Note
list_of l = if ltb 6 l.count then replicate 7 (note Contains 0 No) else take l.count l.note

-- a lane's number in a line of notes
abbrev pub number_of : LaneTaken → ℕ
number_of First = 1
number_of Second = 2

abbrev pub lane_of : Lane → Option LaneTaken
lane_of first = Some First
lane_of second = Some Second

-- the lane of each call, then none
unfoldable pub lanes_of : List Lane → List (Option LaneTaken)
lanes_of L = map lane_of L ++ replicate (12 - length L) None

abbrev pub Merged : Type 0
Merged = Result (Option (List (Option LaneTaken))) Unfit

unfoldable pub merged : Outcome → Merged
merged (searched (order L)) = Ok (Some (lanes_of L))
merged (searched none) = Ok None
merged (refused r) = Err LongerOrResize
