-- Some element of a list has a property. Assumes nothing.
use Rattle.std.specs.Prelude.{◌≡◌, Bool, ◌&&◌, ◌↔◌}
use Rattle.std.proofs.Math.Path.{refl}
use mathlib.Core.List.{List, [], ◌∷◌}
use Rattle.std.proofs.Math.Bool.{true, false}
use Rattle.spec.specs.Lists.{every}
use Rattle.laws.specs.Tests.{tf, and_never}

pub data Any {A : Type 0} (P : A → Type 0) : List A → Type 0 where
  here : {x : A} {xs : List A} → P x → Any P (x ∷ xs)
  later : {x : A} {xs : List A} → Any P xs → Any P (x ∷ xs)

-- a test of every element fails exactly if it fails at one of them
module _ {A : Type 0} (good : A → Bool) (P : A → Type 0) (iff : (x : A) → (good x ≡ false) ↔ P x) where
  fails_at : (xs : List A) → every good xs ≡ false → Any P xs
  unfolding every
  fails_at [] e = absurd (tf refl e)
  fails_at (x ∷ xs) e = go (good x) refl e (fails_at xs)
    where
      go : (b : Bool) → good x ≡ b → (b && every good xs) ≡ false → (every good xs ≡ false → Any P xs) → Any P (x ∷ xs)
      go false q h ih = here ((iff x).0 q)
      go true q h ih = later (ih h)

  any_fails : {xs : List A} → Any P xs → every good xs ≡ false
  unfolding every
  any_fails (here {x = x} p) = rw ((iff x).1 p)
  any_fails (later {x = x} a) = and_never (good x) _ (λ e. any_fails a)

  pub not_every : (xs : List A) → (every good xs ≡ false) ↔ Any P xs
  not_every xs = (fails_at xs, any_fails)
