-- Paper 02, U8: "some order that keeps both lists gives those answers from an empty set": orders of two lists, which of them give
-- the answers, and which takes the first lane's call sooner. Assumes nothing.
use Rattle.std.specs.Prelude.{ℕ, ◌≡◌, ◌⊎◌, List, [], ◌∷◌}
use Rattle.spec.specs.declared.Answer.{Answer}
use Rattle.spec.specs.declared.Call.{Call}
use Rattle.spec.specs.Plain.{Plain, plain}
use Rattle.notes.specs.declared.Note.{Note}

abbrev pub note : Call → ℕ → Answer → Note
note call tag answer = record { call = call; tag = tag; answer = answer }

-- which list the next call is taken from
pub data Lane : Type 0 where
  first : Lane
  second : Lane

-- of the lists xs and ys, that lane's first call x is taken; xs' and ys' are left
pub data Takes : Lane → List Note → List Note → Note → List Note → List Note → Type 0 where
  from_first : {x : Note} {xs ys : List Note} → Takes first (x ∷ xs) ys x xs ys
  from_second : {y : Note} {xs ys : List Note} → Takes second xs (y ∷ ys) y xs ys

-- "some order that keeps both lists": taking from the lanes in the order L lays the calls of both lists out as zs
pub data Interleaves : List Note → List Note → List Lane → List Note → Type 0 where
  none_left : Interleaves [] [] [] []
  taking : {l : Lane} {xs ys xs' ys' zs : List Note} {x : Note} {L : List Lane} → Takes l xs ys x xs' ys' → Interleaves xs' ys' L zs
      → Interleaves xs ys (l ∷ L) (x ∷ zs)

-- what the plain set S answers to a call, and leaves
abbrev pub asked : List ℕ → Note → Plain
asked S x = plain S x.call x.tag

-- "gives those answers", from the set S on
abbrev pub Right : List ℕ → List Note → Type 0
Right S [] = Unit {0}
Right S (z ∷ zs) = ((asked S z).answer ≡ z.answer) × Right (asked S z).tags zs

-- at the first place where they differ, L takes the first lane's call and M the second's
pub data Sooner : List Lane → List Lane → Type 0 where
  here : {L M : List Lane} → Sooner (first ∷ L) (second ∷ M)
  there : {l : Lane} {L M : List Lane} → Sooner L M → Sooner (l ∷ L) (l ∷ M)

-- some order of both lists gives the answers from S on: this one
pub record RightOrder (S : List ℕ) (xs ys : List Note) (L : List Lane) : Type 0 where
  pub calls : List Note
  pub keeps : Interleaves xs ys L calls
  pub right : Right S calls

-- L is a right order and the first: "taking the first lane's call wherever both choices can still succeed" is to come before every
-- other in this dictionary order
pub record FirstRight (S : List ℕ) (xs ys : List Note) (L : List Lane) : Type 0 where
  pub order : RightOrder S xs ys L
  pub soonest : (M : List Lane) → RightOrder S xs ys M → (L ≡ M) ⊎ Sooner L M
