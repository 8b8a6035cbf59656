-- What a loop fills and what `all` tests, at the numbers below n, in the words of `spec`; and a truth value's word. Assumes nothing.
use Rattle.std.proofs.Common.{Bool, true, false, ◌&&◌, ℕ, length, zero, suc, ◌+◌, ◌≤◌, ◌<◌, ◌≡◌, ap, ◌∙◌, List, ◌∷◌, map, get_or, arith, refl}
use mir.Val.{bool_byte}
use Rattle.std.specs.List.{range_with_len, list_all}
use Rattle.std.proofs.lemmas.List.FromFn.{fill_by_all}
use Rattle.spec.specs.Lists.{every, range}
use Rattle.state_words.specs.StateWords.{bit}

pub range_is : (i n : ℕ) → range_with_len i n ≡ range i n
unfolding range
range_is i zero = refl
range_is i (suc n) = let next : i + 1 ≡ suc i = omega arith in ap (λ (ks : List ℕ). i ∷ ks) (rw next (range_is (suc i) n))

-- every number from i on passes
pub every_is : (f : ℕ → Bool) (i n : ℕ) → list_all f (range_with_len i n) ≡ every f (range i n)
unfolding every range
every_is f i zero = refl
every_is f i (suc n) = let next : i + 1 ≡ suc i = omega arith in ap (λ (b : Bool). f i && b) (rw next (every_is f (suc i) n))

pub bit_is : (b : Bool) → bool_byte b ≡ bit b
bit_is true = refl
bit_is false = refl

-- a loop that wrote v k at each number k below n
pub filled : {B : Type 0} (v : ℕ → B) (xs : List B) (n k : ℕ) (d : B) → length xs ≡ n → n ≤ k → ((j : ℕ) → j < k → get_or xs j d ≡ v j) → xs ≡ map v (range 0 n)
filled v xs n k d long all below =
    fill_by_all v xs n d long (λ j h. below j (omega arith)) ∙ ap (λ (ks : List ℕ). map v ks) (range_is 0 n)
