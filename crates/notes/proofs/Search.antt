-- The search finds an order exactly if it is the first right one, and none exactly if there is none: `found_iff`, `none_iff`. What it finds
-- is right, since it takes only calls that the set answers so (`sound`). Where an order is right, the search of what is left after its
-- first call finds one that is no later, and what it tries before that is sooner (`complete`). Assumes nothing.
use Rattle.std.specs.Prelude.{ℕ, zero, suc, ◌+◌, ◌≡◌, ◌⊎◌, ◌↔◌, Bool, eqb, length, if◌then◌else◌}
use Rattle.std.proofs.Common.{arith, sym, ap, ◌∙◌, inl, inr, ⊎_elim, eqb-true, eq-eqb}
use Rattle.std.proofs.Math.Path.{refl}
use mathlib.Core.List.{List, [], ◌∷◌}
use Rattle.std.proofs.Math.Bool.{true, false}
use Rattle.spec.specs.declared.Answer.{Answer}
use Rattle.spec.specs.declared.Answer.TheVariants.{Yes, No, Full, Done, Lost, Limit}
use Rattle.spec.specs.Numbers.{answer_number}
use Rattle.notes.specs.declared.Note.{Note}
use Rattle.notes.specs.Orders.{Lane, first, second, Takes, from_first, from_second, Interleaves, none_left, taking, asked, Right, Sooner, here, there}
use Rattle.notes.specs.Orders.{RightOrder, FirstRight}
use Rattle.notes.specs.Merge.{Found, order, none, preceded, or_else, either, gives, Search, take_call, choice, search}

-- ---- an answer's number tells it from the others

answer_of : ℕ → Answer
answer_of n =
    if eqb n 1 then Yes else if eqb n 2 then No else if eqb n 3 then Full else if eqb n 4 then Done else if eqb n 5 then Lost else Limit

answer_back : (a : Answer) → answer_of (answer_number a) ≡ a
unfolding answer_of
answer_back Yes = refl
answer_back No = refl
answer_back Full = refl
answer_back Done = refl
answer_back Lost = refl
answer_back Limit = refl

gives_right : (S : List ℕ) (x : Note) → gives S x ≡ true → (asked S x).answer ≡ x.answer
unfolding gives
gives_right S x g = sym (answer_back _) ∙ ap answer_of (eqb-true _ _ g) ∙ answer_back _

right_gives : (S : List ℕ) (x : Note) → (asked S x).answer ≡ x.answer → gives S x ≡ true
unfolding gives
right_gives S x e = eq-eqb _ _ (ap answer_number e)

-- ---- one choice

order_not_none : {L : List Lane} → order L ≡ none → ⊥
order_not_none e = let z : ◌≡◌ {A = ℕ} 0 1 = cc in omega arith

-- a choice found L: it took the lane's call x, which the set answers so, and M is what the search found of the rest
record Chosen (l : Lane) (on : Search) (S : List ℕ) (xs ys : List Note) (L : List Lane) : Type 0 where
  x : Note
  xs' : List Note
  ys' : List Note
  M : List Lane
  takes : Takes l xs ys x xs' ys'
  given : gives S x ≡ true
  goes_on : on (asked S x).tags xs' ys' ≡ order M
  all : L ≡ l ∷ M

module _ (on : Search) (S : List ℕ) where
  taken : (l : Lane) {x : Note} {xs ys xs' ys' : List Note} (L : List Lane) → Takes l xs ys x xs' ys' → take_call l on S x xs' ys' ≡ order L
      → Chosen l on S xs ys L
  unfolding take_call preceded
  taken l {x} {xs} {ys} {xs'} {ys'} L t e = go (gives S x) refl (on (asked S x).tags xs' ys') refl e
    where
      go : (b : Bool) → gives S x ≡ b → (f : Found) → on (asked S x).tags xs' ys' ≡ f → (if b then preceded l f else none) ≡ order L
          → Chosen l on S xs ys L
      go true g (order M) h q = record { x = x; xs' = xs'; ys' = ys'; M = M; takes = t; given = g; goes_on = h; all = cc }
      go true g none h q = absurd (order_not_none (sym q))
      go false g f h q = absurd (order_not_none (sym q))

  chosen : (l : Lane) (xs ys : List Note) (L : List Lane) → choice l on S xs ys ≡ order L → Chosen l on S xs ys L
  unfolding choice
  chosen first [] ys L e = absurd (order_not_none (sym e))
  chosen first (x ∷ xs) ys L e = taken first L from_first e
  chosen second xs [] L e = absurd (order_not_none (sym e))
  chosen second xs (y ∷ ys) L e = taken second L from_second e

  choosing : (l : Lane) {x : Note} {xs ys xs' ys' : List Note} (M : List Lane) → Takes l xs ys x xs' ys' → gives S x ≡ true
      → on (asked S x).tags xs' ys' ≡ order M → choice l on S xs ys ≡ order (l ∷ M)
  unfolding choice take_call preceded
  choosing first M from_first g e = rw (g, e)
  choosing second M from_second g e = rw (g, e)

-- ---- the search

takes_one : {l : Lane} {x : Note} {xs ys xs' ys' : List Note} → Takes l xs ys x xs' ys' → length xs + length ys ≡ suc (length xs' + length ys')
takes_one from_first = omega arith
takes_one from_second = omega arith

-- an order has a lane for each call
pub order_length : {xs ys zs : List Note} {L : List Lane} → Interleaves xs ys L zs → length xs + length ys ≡ length L
order_length none_left = refl
order_length (taking t i) = omega (arith, takes_one t, order_length i)

or_found : (f g : Found) (L : List Lane) → or_else f g ≡ order L → (f ≡ order L) ⊎ (g ≡ order L)
unfolding or_else
or_found (order M) g L e = inl e
or_found none g L e = inr (cc)

either_found : (choices : Lane → Found) (L : List Lane) → either choices ≡ order L → (l : Lane) × (choices l ≡ order L)
unfolding either
either_found choices L e = ⊎_elim (λ h. (_, h)) (λ h. (_, h)) (or_found _ _ L e)

-- what is right of the rest is right after the call that was chosen
extended : {l : Lane} {on : Search} {S : List ℕ} {xs ys : List Note} {L : List Lane} (c : Chosen l on S xs ys L)
    → RightOrder (asked S c.x).tags c.xs' c.ys' c.M → RightOrder S xs ys L
extended {S = S} c r =
    rw c.all
    (record { calls = c.x ∷ r.calls; keeps = taking c.takes r.keeps; right = (gives_right S c.x c.given, r.right) })

-- what a search of n calls finds is right
abbrev Sound : ℕ → Type 0
Sound n =
    (S : List ℕ) (xs ys : List Note) (L : List Lane) → length xs + length ys ≡ n → search n S xs ys ≡ order L → RightOrder S xs ys L

pub sound : (n : ℕ) → Sound n
unfolding search
sound zero S [] [] L n e = let q : L ≡ [] = cc in rw q (record { calls = []; keeps = none_left; right = tt })
sound zero S [] (y ∷ ys) L n e = absurd (omega arith)
sound zero S (x ∷ xs) ys L n e = absurd (omega arith)
sound (suc n) S xs ys L k e = go (sound n) (either_found (λ l. choice l (search n) S xs ys) L e)
  where
    go : Sound n → (l : Lane) × (choice l (search n) S xs ys ≡ order L) → RightOrder S xs ys L
    go ih (l, h) =
        let c = chosen (search n) S l xs ys L h in
        let one = takes_one c.takes in
        extended c (ih (asked S c.x).tags c.xs' c.ys' c.M (omega arith) c.goes_on)

-- an order is found that is M or sooner
record FoundBy (f : Found) (M : List Lane) : Type 0 where
  L : List Lane
  is : f ≡ order L
  no_later : (L ≡ M) ⊎ Sooner L M

same_lane : (l : Lane) {L M : List Lane} → (L ≡ M) ⊎ Sooner L M → (l ∷ L ≡ l ∷ M) ⊎ Sooner (l ∷ L) (l ∷ M)
same_lane l (inl e) = inl (ap (λ (K : List Lane). l ∷ K) e)
same_lane l (inr s) = inr (there s)

-- with the choice of the lane that M takes
tried : (l : Lane) (n : ℕ) (S : List ℕ) (xs ys : List Note) (L M : List Lane) → (L ≡ M) ⊎ Sooner L M → choice l (search n) S xs ys ≡ order (l ∷ L)
    → FoundBy (search (suc n) S xs ys) (l ∷ M)
unfolding search either or_else
tried first n S xs ys L M s e = record { L = first ∷ L; is = rw e; no_later = same_lane first s }
tried second n S xs ys L M s e = go (choice first (search n) S xs ys) refl
  where
    go : (f : Found) → choice first (search n) S xs ys ≡ f → FoundBy (search (suc n) S xs ys) (second ∷ M)
    go (order K) h =
        let c = chosen (search n) S first xs ys K h in
        record { L = K; is = rw h; no_later = inr (rw c.all here) }
    go none h = record { L = second ∷ L; is = rw h e; no_later = same_lane second s }

complete : (n : ℕ) (S : List ℕ) {xs ys zs : List Note} {M : List Lane} → length xs + length ys ≡ n → Interleaves xs ys M zs → Right S zs
    → FoundBy (search n S xs ys) M
unfolding search
complete zero S k none_left r = record { L = []; is = refl; no_later = inl refl }
complete zero S k (taking t i) r = let one = takes_one t in absurd (omega arith)
complete (suc n) S k none_left r = absurd (omega arith)
complete (suc n) S {xs} {ys} {M = l ∷ M} k (taking {x = x} t i) r =
    let one = takes_one t in
    let f = complete n (asked S x).tags (omega arith) i r.1 in
    tried l n S xs ys f.L M f.no_later (choosing (search n) S l f.L t (right_gives S x r.0) f.is)

-- ---- exactly the first right order

apart : {L M L' M' : List Lane} → Sooner L M → Sooner M' L' → L ≡ L' → M ≡ M' → ⊥
apart here here e f = let z : ◌≡◌ {A = ℕ} 0 1 = cc in omega arith
apart here (there t) e f = let z : ◌≡◌ {A = ℕ} 0 1 = cc in omega arith
apart (there s) here e f = let z : ◌≡◌ {A = ℕ} 0 1 = cc in omega arith
apart (there s) (there t) e f = apart s t (cc) (cc)

not_both : {L M : List Lane} → Sooner L M → Sooner M L → ⊥
not_both s t = apart s t refl refl

-- "taking the first lane's call wherever both choices can still succeed" leaves one order
pub only_order : (S : List ℕ) (xs ys : List Note) (L M : List Lane) → FirstRight S xs ys L → FirstRight S xs ys M → L ≡ M
only_order S xs ys L M f g = go (f.soonest M g.order) (g.soonest L f.order)
  where
    go : (L ≡ M) ⊎ Sooner L M → (M ≡ L) ⊎ Sooner M L → L ≡ M
    go (inl e) t = e
    go (inr s) (inl e) = sym e
    go (inr s) (inr t) = absurd (not_both s t)

module _ (n : ℕ) (S : List ℕ) (xs ys : List Note) (all : length xs + length ys ≡ n) where
  none_later : (M : List Lane) → RightOrder S xs ys M → FoundBy (search n S xs ys) M
  none_later M r = complete n S all r.keeps r.right

  found_first : (L : List Lane) → search n S xs ys ≡ order L → FirstRight S xs ys L
  found_first L e = record { order = sound n S xs ys L all e; soonest = soonest }
    where
      soonest : (M : List Lane) → RightOrder S xs ys M → (L ≡ M) ⊎ Sooner L M
      soonest M r =
          let f = none_later M r in
          let same : f.L ≡ L = cc (f.is, e) in
          rw same at f.no_later

  pub found_iff : (L : List Lane) → (search n S xs ys ≡ order L) ↔ FirstRight S xs ys L
  found_iff L = (found_first L, from)
    where
      from : FirstRight S xs ys L → search n S xs ys ≡ order L
      from r = let f = none_later L r.order in f.is ∙ ap order (only_order S xs ys f.L L (found_first f.L f.is) r)

  pub none_iff : (search n S xs ys ≡ none) ↔ ((L : List Lane) → RightOrder S xs ys L → ⊥)
  none_iff = (to, from (search n S xs ys) refl)
    where
      to : search n S xs ys ≡ none → (L : List Lane) → RightOrder S xs ys L → ⊥
      to e L r = let f = none_later L r in order_not_none (sym f.is ∙ e)

      from : (f : Found) → search n S xs ys ≡ f → ((L : List Lane) → RightOrder S xs ys L → ⊥) → search n S xs ys ≡ none
      from (order L) e never = absurd (never L (sound n S xs ys L all e))
      from none e never = e
