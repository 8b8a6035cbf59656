-- What rests on statements of specs/Theorems.antt that a must-fail edit makes false: theorems moved from there as they stood. Assumes nothing.
use Rattle.std.specs.Prelude.{ℕ, ◌+◌, ◌≡◌, ◌⊎◌, ◌↔◌, Bool, true, false, not, ◌||◌, ltb}
use Rattle.std.proofs.Common.{arith, ltb-true, lt-ltb, ap, ◌∙◌}
use Rattle.std.proofs.lemmas.Bool.{not-true}
use Rattle.std.proofs.Math.Path.{refl}
use Rattle.std.proofs.Math.Logic.{inl, inr}
use mathlib.Core.List.{List, [], ◌∷◌}
use Rattle.std.proofs.Math.ListN.{length}
use Rattle.spec.specs.declared.Call.{Call}
use Rattle.spec.specs.declared.Call.TheVariants.{Insert, Remove, Contains, Grow, Shrink}
use Rattle.spec.specs.Lists.{every}
use Rattle.spec.specs.History.{set_call}
use Rattle.laws.specs.Tests.{bool?, tf, and_never, or_e, or_l, or_r}
use Rattle.notes.specs.declared.Note.{Note}
use Rattle.notes.specs.Orders.{Lane, RightOrder, FirstRight}
use Rattle.notes.specs.Merge.{Found, order, none, search_all, searched, refused, unfit, merge}
use Rattle.notes.proofs.Search.{found_iff, none_iff}
use Rattle.notes.specs.Theorems.{HasResize, Unfit, unfit_refused, here, later}

resize? : (c : Call) → (set_call c ≡ true) ⊎ ((c ≡ Grow) ⊎ (c ≡ Shrink))
unfolding set_call
resize? Insert = inl refl
resize? Remove = inl refl
resize? Contains = inl refl
resize? Grow = inr (inl refl)
resize? Shrink = inr (inr refl)

resize_not : (c : Call) → (c ≡ Grow) ⊎ (c ≡ Shrink) → set_call c ≡ false
unfolding set_call
resize_not c (inl e) = rw e
resize_not c (inr e) = rw e

has_resize : (xs : List Note) → every (λ (x : Note). set_call x.call) xs ≡ false → HasResize xs
unfolding every
has_resize [] e = absurd (tf refl e)
has_resize (x ∷ xs) e = go (resize? x.call) (has_resize xs)
  where
    go : (set_call x.call ≡ true) ⊎ ((x.call ≡ Grow) ⊎ (x.call ≡ Shrink)) → (every (λ (y : Note). set_call y.call) xs ≡ false → HasResize xs)
        → HasResize (x ∷ xs)
    go (inl s) ih = later (ih (rw s at e))
    go (inr r) ih = here r

resize_fails : {xs : List Note} → HasResize xs → every (λ (x : Note). set_call x.call) xs ≡ false
unfolding every
resize_fails (here {x = x} r) = rw (resize_not x.call r)
resize_fails (later {x = x} h) = and_never (set_call x.call) _ (λ s. resize_fails h)

unfit_iff : (xs : List Note) → (unfit xs ≡ true) ↔ Unfit xs
unfolding unfit
unfit_iff xs = (λ e. to (or_e long (not whole) e), from)
  where
    long : Bool
    long = ltb 6 (length xs)

    whole : Bool
    whole = every (λ (x : Note). set_call x.call) xs

    to : (long ≡ true) ⊎ (not whole ≡ true) → Unfit xs
    to (inl e) = inl (ltb-true _ _ e)
    to (inr e) = inr (has_resize xs (not-true whole e))

    from : Unfit xs → (long || not whole) ≡ true
    from (inl h) = or_l long (not whole) (lt-ltb _ _ h)
    from (inr r) = or_r long (not whole) (ap not (resize_fails r))

module _ (xs ys : List Note) where
  -- "Refused: 13, a longer list or a resize in one, before any search."
  pub refused_13 : (merge xs ys ≡ refused 13) ↔ (Unfit xs ⊎ Unfit ys)
  unfolding merge
  refused_13 = (to (bool? (unfit xs || unfit ys)), λ u. (unfit_refused xs ys) (from u))
    where
      one : (unfit xs ≡ true) ⊎ (unfit ys ≡ true) → Unfit xs ⊎ Unfit ys
      one (inl e) = inl ((unfit_iff xs).0 e)
      one (inr e) = inr ((unfit_iff ys).0 e)

      to : ((unfit xs || unfit ys) ≡ true) ⊎ ((unfit xs || unfit ys) ≡ false) → merge xs ys ≡ refused 13 → Unfit xs ⊎ Unfit ys
      to (inl h) e = one (or_e (unfit xs) (unfit ys) h)
      to (inr h) e = let f : merge xs ys ≡ searched (search_all xs ys) = rw h in let z : ◌≡◌ {A = ℕ} 0 1 = cc in absurd (omega arith)

      from : Unfit xs ⊎ Unfit ys → (unfit xs || unfit ys) ≡ true
      from (inl u) = or_l (unfit xs) (unfit ys) ((unfit_iff xs).1 u)
      from (inr u) = or_r (unfit xs) (unfit ys) ((unfit_iff ys).1 u)

  module _ (fit : (unfit xs || unfit ys) ≡ false) where
    goes_on : merge xs ys ≡ searched (search_all xs ys)
    unfolding merge
    goes_on = rw fit

    said : (f : Found) → (merge xs ys ≡ searched f) ↔ (search_all xs ys ≡ f)
    said f = (λ e. cc (goes_on, e), λ e. goes_on ∙ ap searched e)

    -- "say whether some order that keeps both lists gives those answers from an empty set. If so, write it, taking the first lane's
    -- call wherever both choices can still succeed."
    pub order_iff : (L : List Lane) → (merge xs ys ≡ searched (order L)) ↔ FirstRight [] xs ys L
    unfolding search_all
    order_iff L =
        let i = found_iff (length xs + length ys) [] xs ys refl L in
        (λ e. i.0 ((said (order L)).0 e), λ r. (said (order L)).1 (i.1 r))

    -- "'No order' is given only if there is none."
    pub no_order_iff : (merge xs ys ≡ searched none) ↔ ((L : List Lane) → RightOrder [] xs ys L → ⊥)
    unfolding search_all
    no_order_iff =
        let i = none_iff (length xs + length ys) [] xs ys refl in
        (λ e. i.0 ((said none).0 e), λ never. (said none).1 (i.1 never))
