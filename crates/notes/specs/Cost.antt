-- How many calls a search asks of the plain set: at most 3,430 for two lists of six, as many as an order has beginnings other than the
-- empty one (`asks_at_most`), and so many for the lists `slowest` (`asks_so_many`). Assumes nothing.
use Rattle.std.specs.Prelude.{ℕ, zero, suc, ◌+◌, ◌≤◌, ◌≡◌, refl, Bool, true, false, length, replicate, if◌then◌else◌}
use native.Mathlib.Omega.{arith}
use mathlib.Core.List.{List, [], ◌∷◌, ◌++◌}
use Rattle.spec.specs.declared.Answer.TheVariants.{Yes, No}
use Rattle.spec.specs.declared.Call.TheVariants.{Insert, Contains}
use Rattle.spec.specs.Everything.{everything}
use Rattle.notes.specs.declared.Note.{Note}
use Rattle.notes.specs.Orders.{note, Lane, first, second, asked}
use Rattle.notes.specs.Merge.{Found, order, none, preceded, or_else, either, gives, take_call, choice, search}

unfoldable pub is_order : Found → Bool
is_order (order L) = true
is_order none = false

-- the calls that a choice asks: the lane's own, and those of the search that goes on if it is given
unfoldable pub choice_asks : Lane → (List ℕ → List Note → List Note → ℕ) → List ℕ → List Note → List Note → ℕ
choice_asks first on S [] ys = 0
choice_asks first on S (x ∷ xs) ys = 1 + (if gives S x then on (asked S x).tags xs ys else 0)
choice_asks second on S xs [] = 0
choice_asks second on S xs (y ∷ ys) = 1 + (if gives S y then on (asked S y).tags xs ys else 0)

-- the calls that a search asks: those of the second choice only where the first finds nothing
unfoldable pub asks : ℕ → List ℕ → List Note → List Note → ℕ
asks zero S xs ys = 0
asks (suc n) S xs ys =
    choice_asks first (asks n) S xs ys + (if is_order (choice first (search n) S xs ys) then 0 else choice_asks second (asks n) S xs ys)

-- ---- the bound

-- the beginnings that an order of a and b calls can have, of n calls at most
unfoldable pub beginning_with : ℕ → (ℕ → ℕ) → ℕ
beginning_with zero rest = 0
beginning_with (suc a) rest = 1 + rest a

unfoldable pub beginnings : ℕ → ℕ → ℕ → ℕ
beginnings zero a b = 0
beginnings (suc n) a b = beginning_with a (λ c. beginnings n c b) + beginning_with b (λ c. beginnings n a c)

given_or_not : (b : Bool) (m k : ℕ) → m ≤ k → (if b then m else 0) ≤ k
given_or_not true m k h = h
given_or_not false m k h = omega arith

found_or_not : (b : Bool) (m k : ℕ) → m ≤ k → (if b then 0 else m) ≤ k
found_or_not true m k h = omega arith
found_or_not false m k h = h

module _ (on : List ℕ → List Note → List Note → ℕ) (S : List ℕ) (most : ℕ → ℕ) where
  first_asks : (xs ys : List Note) → ((T : List ℕ) (us : List Note) → on T us ys ≤ most (length us))
      → choice_asks first on S xs ys ≤ beginning_with (length xs) most
  unfolding choice_asks beginning_with
  first_asks [] ys h = omega arith
  first_asks (x ∷ xs) ys h = omega (arith, given_or_not (gives S x) _ _ (h (asked S x).tags xs))

  second_asks : (xs ys : List Note) → ((T : List ℕ) (vs : List Note) → on T xs vs ≤ most (length vs))
      → choice_asks second on S xs ys ≤ beginning_with (length ys) most
  unfolding choice_asks beginning_with
  second_asks xs [] h = omega arith
  second_asks xs (y ∷ ys) h = omega (arith, given_or_not (gives S y) _ _ (h (asked S y).tags ys))

asks_beginnings : (n : ℕ) (S : List ℕ) (xs ys : List Note) → asks n S xs ys ≤ beginnings n (length xs) (length ys)
unfolding asks beginnings
asks_beginnings zero S xs ys = omega arith
asks_beginnings (suc n) S xs ys =
    let a = first_asks (asks n) S (λ c. beginnings n c (length ys)) xs ys (λ T us. asks_beginnings n T us ys) in
    let b = second_asks (asks n) S (λ c. beginnings n (length xs) c) xs ys (λ T vs. asks_beginnings n T xs vs) in
    omega (arith, found_or_not (is_order (choice first (search n) S xs ys)) _ _ b)

-- more calls have more beginnings
more_beginning : (a c : ℕ) (f g : ℕ → ℕ) → a ≤ c → ((i j : ℕ) → i ≤ j → f i ≤ g j) → beginning_with a f ≤ beginning_with c g
unfolding beginning_with
more_beginning zero c f g h k = omega arith
more_beginning (suc a) zero f g h k = absurd (omega arith)
more_beginning (suc a) (suc c) f g h k = omega (arith, k a c (omega arith))

more_beginnings : (n m a b c d : ℕ) → n ≤ m → a ≤ c → b ≤ d → beginnings n a b ≤ beginnings m c d
unfolding beginnings
more_beginnings zero m a b c d k h i = omega arith
more_beginnings (suc n) zero a b c d k h i = absurd (omega arith)
more_beginnings (suc n) (suc m) a b c d k h i =
    let p = more_beginning a c (λ j. beginnings n j b) (λ j. beginnings m j d) h (λ j l q. more_beginnings n m j b l d (omega arith) q i) in
    let q = more_beginning b d (λ j. beginnings n a j) (λ j. beginnings m c j) i (λ j l q. more_beginnings n m a j c l (omega arith) h q) in
    omega arith

six_and_six : beginnings 12 6 6 ≡ 3430
unfolding beginnings beginning_with
six_and_six = refl

-- two lists of at most six
pub asks_at_most : (xs ys : List Note) → length xs ≤ 6 → length ys ≤ 6 → asks (length xs + length ys) [] xs ys ≤ 3430
asks_at_most xs ys h k =
    omega (
      arith,
      asks_beginnings (length xs + length ys) [] xs ys,
      more_beginnings (length xs + length ys) 12 (length xs) (length ys) 6 6 (omega arith) h k,
      six_and_six,
    )

-- ---- a case that takes so many: both lanes end with an insert of the same tag that was answered yes, and all calls before are given

unfoldable pub slowest : List Note
slowest = replicate 5 (note Contains 1 No) ++ (note Insert 5 Yes ∷ [])

pub asks_so_many : asks 12 [] slowest slowest ≡ 3430
unfolding everything slowest preceded or_else either gives take_call choice search is_order choice_asks asks
asks_so_many = refl
