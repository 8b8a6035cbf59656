-- A state and its words say the same: words that a state has are the words of the state that they are, a state as the code has it comes back from its
-- words, and its words are such that a state has. Assumes nothing.
use Prim.Native.Nat.{ℕ, zero, suc, ◌+◌, ◌*◌, ◌%◌}
use Rattle.std.specs.Prelude.{◌≡◌, Bool, true, false, ◌&&◌, eqb, length}
use Rattle.std.proofs.Math.Path.{refl, ap}
use Rattle.std.proofs.Common.{subst, ◌∙◌, mod-eq_of_lt, arith, eqb-true, leb-true}
use mathlib.Core.List.{List, [], ◌∷◌, ◌++◌, map}
use Rattle.std.proofs.Math.ListN.{get_or}
use Rattle.spec.specs.declared.State.{State}
use Rattle.spec.specs.Lists.{concat_map, every, range}
use Rattle.spec.specs.Machine.{idle}
use Rattle.laws.specs.Tests.{and_left, and_right, and_i, and3}
use Rattle.state_words.specs.StateWords.{bit, truth, state_words}
use Rattle.state_words.specs.StateWords.{bit_fits, own_fits, task_fits, state_fits}

-- ---- a list, element by element

module _ {A : Type 0} (d : A) where
  shifted : (x : A) (xs : List A) (i n : ℕ) → map (λ k. get_or (x ∷ xs) k d) (range (suc i) n) ≡ map (λ k. get_or xs k d) (range i n)
  unfolding range
  shifted x xs i zero = refl
  shifted x xs i (suc n) = ap (λ (r : List A). get_or xs i d ∷ r) (shifted x xs (suc i) n)

  each : (xs : List A) → map (λ k. get_or xs k d) (range 0 (length xs)) ≡ xs
  unfolding range
  each [] = refl
  each (x ∷ xs) = ap (λ (r : List A). x ∷ r) (shifted x xs 0 (length xs) ∙ each xs)

  pub each_of : (n : ℕ) (xs : List A) → length xs ≡ n → map (λ k. get_or xs k d) (range 0 n) ≡ xs
  each_of n xs e = subst (λ (m : ℕ). map (λ k. get_or xs k d) (range 0 m) ≡ xs) e (each xs)

-- ---- truth values and own steps

pub bit_truth : (n : ℕ) → bit_fits n ≡ true → bit (truth n) ≡ n
unfolding bit_fits
bit_truth zero h = refl
bit_truth (suc zero) h = refl
bit_truth (suc (suc n)) h = let few = leb-true (suc (suc n)) _ h in absurd (omega arith)

pub truth_bit : (b : Bool) → truth (bit b) ≡ b
truth_bit true = refl
truth_bit false = refl

pub bit_small : (b : Bool) → bit_fits (bit b) ≡ true
unfolding bit_fits
bit_small true = refl
bit_small false = refl

pub own_again : (n : ℕ) → own_fits n ≡ true → n % 65536 ≡ n
unfolding own_fits
own_again n h = let few = leb-true n _ h in mod-eq_of_lt (omega arith)

pub same_joined : (f g : ℕ → List ℕ) (t : ℕ → Bool) → ((k : ℕ) → t k ≡ true → f k ≡ g k) → (ks : List ℕ) → every t ks ≡ true → concat_map f ks ≡ concat_map g ks
unfolding concat_map every
same_joined f g t h [] e = refl
same_joined f g t h (k ∷ ks) e =
    let here = h k (and_left (t k) (every t ks) e) in
    let later = same_joined f g t h ks (and_right (t k) (every t ks) e) in
    ap (λ (v : List ℕ). v ++ concat_map f ks) here ∙ ap (λ (v : List ℕ). g k ++ v) later

pub fits_long : (w : List ℕ) → state_fits w ≡ true → length w ≡ 113
unfolding state_fits
fits_long w h = eqb-true (length w) 113 (and3 (eqb (length w) 113) (bit_fits (get_or w 2 0)) (every (λ k. task_fits w (9 + 13 * k)) (range 0 8)) h).0

-- ---- from a state to words and back

-- as the code has a state: eight tasks, own steps of 16 bits
pub record Stored (s : State) : Type 0 where
  pub eight : length s.task ≡ 8
  pub own_steps : (k : ℕ) → own_fits (get_or s.task k idle).own ≡ true

pub map_same : {A : Type 0} (f g : ℕ → A) → ((k : ℕ) → f k ≡ g k) → (ks : List ℕ) → map f ks ≡ map g ks
map_same f g h [] = refl
map_same {A} f g h (k ∷ ks) = ap (λ (x : A). x ∷ map f ks) (h k) ∙ ap (λ (r : List A). g k ∷ r) (map_same f g h ks)

pub every_of : (f : ℕ → Bool) → ((k : ℕ) → f k ≡ true) → (ks : List ℕ) → every f ks ≡ true
unfolding every
every_of f h [] = refl
every_of f h (k ∷ ks) = and_i (f k) (every f ks) (h k) (every_of f h ks)

-- and its words are such that a state has
pub words_fit : (s : State) → Stored s → state_fits (state_words s) ≡ true
unfolding state_words state_fits task_fits concat_map every range
words_fit s h =
    let f : ℕ → Bool = λ k. bit_fits (bit (get_or s.task k idle).running) && own_fits (get_or s.task k idle).own in
    let fits : (k : ℕ) → f k ≡ true = λ k. and_i _ _ (bit_small (get_or s.task k idle).running) (h.own_steps k) in
    and_i (bit_fits (bit s.config.zero_withdrawn)) (every f (range 0 8)) (bit_small s.config.zero_withdrawn) (every_of f fits (range 0 8))
