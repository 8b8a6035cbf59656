-- Examples for the types of demand 3 (Linearizable): for each of its parts a history of two calls that breaks just that one, a history
-- that has no order at all, and a schedule with its order and listing. Assumes nothing.
use Rattle.std.specs.Prelude.{ℕ, suc, ◌≡◌, refl, List, [], ◌∷◌, ◌++◌, ◌⊎◌, true, false, ltb, length, drop, get_or, replicate, Ok}
use Rattle.std.proofs.Common.{sym, ap, subst, inl, inr, arith}
use Rattle.spec.specs.Outputs.{Listing}
use Rattle.spec.specs.declared.Answer.{Answer}
use Rattle.spec.specs.declared.Answer.TheVariants.{Yes, No}
use Rattle.spec.specs.declared.Call.TheVariants.{Insert, Remove, Contains}
use Rattle.spec.specs.declared.Config.{Config}
use Rattle.spec.specs.Machine.{Machine, config_of}
use Rattle.spec.specs.Lists.{member, add_tag}
use Rattle.spec.specs.Plain.{insert_answer, inserted, plain_insert, plain_contains, plain}
use Rattle.spec.specs.Sound.{sound}
use Rattle.spec.specs.Listed.{listed}
use Rattle.spec.specs.Entries.{Written, list}
use Rattle.spec.specs.Schedule.{Event, starts, steps, schedule}
use Rattle.spec.specs.History.{Ended, note, tell, history_from, history, set_call}
use Rattle.spec.specs.Linearizable.{Into, here, there, Order, none, more, Timely, Answers, after, Linearizable}
use Rattle.spec.specs.Everything.{everything}
use Rattle.spec.specs.Rows.{stepping, calling}

-- ---- two calls: an insert of 5 from event 0 to event 3, answered yes, and a contains of 5 that ended with event 9

abbrev pub insert_5 : Ended
insert_5 = record { task = 0; call = Insert; tag = 5; answer = Yes; start = 0; end = 3 }

-- its answer, and the event at which it started
abbrev pub contains_5 : Answer → ℕ → Ended
contains_5 a r = record { task = 1; call = Contains; tag = 5; answer = a; start = r; end = 9 }

-- the three demands on an order L of a history of the two; a history has the last ended call first
abbrev pub Orders : Answer → ℕ → List Ended → Type 0
Orders a r L = Order (contains_5 a r ∷ insert_5 ∷ []) L × Timely L × Answers [] L

-- the contains starts after the insert's end and says yes: an order
pub in_turn : Orders Yes 4 (insert_5 ∷ contains_5 Yes 4 ∷ [])
unfolding plain plain_insert plain_contains insert_answer inserted member add_tag
in_turn = (more (more none here) (there here), ((omega arith, tt), (tt, tt)), (omega arith, refl, (omega arith, refl, omega arith)))

-- it starts before the insert's end and says no: it stands first
pub overlapping : Orders No 2 (contains_5 No 2 ∷ insert_5 ∷ [])
unfolding plain plain_insert plain_contains insert_answer inserted member add_tag
overlapping = (more (more none here) here, ((omega arith, tt), (tt, tt)), (omega arith, refl, (omega arith, refl, omega arith)))

-- ---- just one demand broken

-- real time: it starts after the insert's end and stands first all the same
pub untimely :
    Order (contains_5 No 4 ∷ insert_5 ∷ []) (contains_5 No 4 ∷ insert_5 ∷ [])
    × (¬ Timely (contains_5 No 4 ∷ insert_5 ∷ []))
    × Answers [] (contains_5 No 4 ∷ insert_5 ∷ [])
unfolding plain plain_insert plain_contains insert_answer inserted member add_tag
untimely = (more (more none here) here, λ t. (let late = t.0.0 in omega arith), (omega arith, refl, (omega arith, refl, omega arith)))

-- answers: it says no with 5 in the plain set
no_yes : Yes ≡ No → ⊥
no_yes e = let z : ◌≡◌ {A = ℕ} 0 1 = cc in omega arith

pub wrong_answer :
    Order (contains_5 No 4 ∷ insert_5 ∷ []) (insert_5 ∷ contains_5 No 4 ∷ [])
    × Timely (insert_5 ∷ contains_5 No 4 ∷ [])
    × (¬ Answers [] (insert_5 ∷ contains_5 No 4 ∷ []))
unfolding plain plain_insert plain_contains insert_answer inserted member add_tag
wrong_answer = (more (more none here) (there here), ((omega arith, tt), (tt, tt)), λ a. no_yes a.2.1)

-- each call once: an order has as many calls as the history
into_length : {e : Ended} {L M : List Ended} → Into e L M → length M ≡ suc (length L)
into_length here = refl
into_length (there i) = let h = into_length i in omega arith

order_length : {L M : List Ended} → Order L M → length L ≡ length M
order_length none = refl
order_length (more o i) =
    let h = order_length o in
    let g = into_length i in
    omega arith

-- the contains is left out
pub left_out :
    (¬ Order (contains_5 No 4 ∷ insert_5 ∷ []) (insert_5 ∷ [])) × Timely (insert_5 ∷ []) × Answers [] (insert_5 ∷ [])
unfolding plain plain_insert plain_contains insert_answer inserted member add_tag
left_out = (λ o. (let e = order_length o in omega arith), (tt, tt), (omega arith, refl, omega arith))

-- it stands there twice
pub twice :
    (¬ Order (contains_5 Yes 4 ∷ insert_5 ∷ []) (insert_5 ∷ contains_5 Yes 4 ∷ contains_5 Yes 4 ∷ []))
    × Timely (insert_5 ∷ contains_5 Yes 4 ∷ contains_5 Yes 4 ∷ [])
    × Answers [] (insert_5 ∷ contains_5 Yes 4 ∷ contains_5 Yes 4 ∷ [])
unfolding plain plain_insert plain_contains insert_answer inserted member add_tag
twice = (
  λ o. (let e = order_length o in omega arith),
  ((omega arith, (omega arith, tt)), ((omega arith, tt), (tt, tt))),
  (omega arith, refl, (omega arith, refl, (omega arith, refl, omega arith))),
)

-- ---- no order at all: a contains that says no after the insert has ended

-- an order of two calls is one of two
order_of_two : {e f : Ended} {L : List Ended} → Order (e ∷ f ∷ []) L → (L ≡ e ∷ f ∷ []) ⊎ (L ≡ f ∷ e ∷ [])
order_of_two (more (more none here) here) = inl refl
order_of_two (more (more none here) (there here)) = inr refl

pub no_order : (L : List Ended) → ¬ Orders No 4 L
no_order L d = go (order_of_two d.0)
  where
    go : (L ≡ contains_5 No 4 ∷ insert_5 ∷ []) ⊎ (L ≡ insert_5 ∷ contains_5 No 4 ∷ []) → ⊥
    go (inl e) = untimely.1 (subst Timely e d.1)
    go (inr e) = wrong_answer.2 (subst (Answers []) e d.2)

-- ---- the listing

-- a machine lists exactly the tags of the plain set after an order
abbrev pub Lists : Machine → List Ended → Type 0
Lists y L =
    (w : List ℕ) → length w ≡ 64 → list y w ≡ record { says = Ok (length (after [] L)); words = after [] L ++ drop (length (after [] L)) w }

-- a reading: it is what demand 3 has of the listing
pub lists : {g : Config} {ns bs : List ℕ} {es : List Event} (d : Linearizable g ns bs es) → Lists (schedule g ns bs es).machine d.order
lists d = d.listed

-- the insert alone, in a yard of one node and one bucket
unfoldable pub alone : List Event
alone = starts 0 Insert 5 ∷ steps 0 ∷ steps 0 ∷ steps 0 ∷ []

unfoldable pub left_by : List Event → Machine
left_by es = (schedule (config_of 1) (replicate 34 7) (replicate 66 7) es).machine

-- a list of a sound memory into 64 words
list_writes : (y : Machine) (w : List ℕ) → sound y ≡ true → ltb 64 (length (listed y)) ≡ false → length w ≡ 64
    → list y w ≡ record { says = Ok (length (listed y)); words = listed y ++ drop (length (listed y)) w }
unfolding list
list_writes y w h f e = rw (h, f, e)

pub lists_5 : Lists (left_by alone) (insert_5 ∷ [])
unfolding everything alone left_by
lists_5 w e = list_writes (left_by alone) w refl refl e

pub alone_linearizable : Linearizable (config_of 1) (replicate 34 7) (replicate 66 7) alone
unfolding everything alone left_by history history_from note tell set_call
alone_linearizable =
    record { order = insert_5 ∷ []; once = more none here; timely = (tt, tt); answers = (omega arith, refl, omega arith); listed = lists_5 }

-- a set that stays empty in good order: the insert's order ends with 5, and nothing is listed
one_none : ◌≡◌ {A = Listing} (Ok 0) (Ok 1) → ⊥
one_none e = let z : ◌≡◌ {A = ℕ} 0 1 = cc in omega arith

pub stays_empty : ¬ Lists (left_by []) (insert_5 ∷ [])
unfolding everything left_by
stays_empty d = one_none (ap (λ (x : Written). x.says) (d (replicate 64 7) refl))

-- and a tag that stays listed after its remove
abbrev pub remove_5 : Ended
remove_5 = record { task = 0; call = Remove; tag = 5; answer = Yes; start = 4; end = 7 }

pub stays_listed : ¬ Lists (left_by alone) (insert_5 ∷ remove_5 ∷ [])
unfolding everything alone left_by
stays_listed d = one_none (sym (ap (λ (x : Written). x.says) (d (replicate 64 7) refl)))

-- one tag more than is listed, and another tag in its place
abbrev pub insert_6 : Ended
insert_6 = record { task = 0; call = Insert; tag = 6; answer = Yes; start = 4; end = 7 }

one_two : ◌≡◌ {A = Listing} (Ok 1) (Ok 2) → ⊥
one_two e = let z : ◌≡◌ {A = ℕ} 1 2 = cc in omega arith

pub one_more : ¬ Lists (left_by alone) (insert_5 ∷ insert_6 ∷ [])
unfolding everything alone left_by
one_more d = one_two (ap (λ (x : Written). x.says) (d (replicate 64 7) refl))

pub another_tag : ¬ Lists (left_by alone) (insert_6 ∷ [])
unfolding everything alone left_by
another_tag d = let e = ap (λ (x : Written). get_or x.words 0 0) (d (replicate 64 7) refl) in omega arith

-- 6 goes in after 5 and is listed after it, and so are both if 6 went in first: "it writes the tags ascending"
pub lists_5_and_6 :
    Lists (left_by (calling 0 Insert 5 3 ++ calling 0 Insert 6 3)) (insert_5 ∷ insert_6 ∷ [])
    × Lists (left_by (calling 0 Insert 6 3 ++ calling 0 Insert 5 3)) (insert_6 ∷ insert_5 ∷ [])
unfolding everything stepping calling left_by
lists_5_and_6 = (
  λ w e. list_writes (left_by (calling 0 Insert 5 3 ++ calling 0 Insert 6 3)) w refl refl e,
  λ w e. list_writes (left_by (calling 0 Insert 6 3 ++ calling 0 Insert 5 3)) w refl refl e,
)

-- no other order of the two is listed
pub descending : ¬ ((list (left_by (calling 0 Insert 6 3 ++ calling 0 Insert 5 3)) (replicate 64 7)).words ≡ 6 ∷ 5 ∷ replicate 62 7)
unfolding everything stepping calling left_by
descending e = let d = ap (λ (w : List ℕ). get_or w 0 0) e in omega arith

-- a reading: the other three demands are of the same order: the history's calls, in time, answered by the plain set from empty on
pub orders :
    {g : Config} {ns bs : List ℕ} {es : List Event} (d : Linearizable g ns bs es)
    → Order (history es (schedule g ns bs es).outs) d.order × Timely d.order × Answers [] d.order
orders d = (d.once, d.timely, d.answers)
