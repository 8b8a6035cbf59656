-- Examples for the types of demand 3 (Linearizable) with three and four calls: real time between any two of an order, each call once with
-- every field its own, an answer in the middle, the plain set at 64 and past it, what is listed, and no refusal 8. Assumes nothing.
use Rattle.std.specs.Prelude.{ℕ, ◌+◌, ◌≡◌, refl, List, [], ◌∷◌, Bool, true, false, eqb, if◌then◌else◌, Ok, Err}
use Rattle.std.proofs.Common.{ap, arith}
use Rattle.spec.specs.declared.Refusal.{Refusal}
use Rattle.spec.specs.declared.Refusal.TheVariants.{NoRecord, Spoilt, ShortList}
use Rattle.spec.specs.declared.Answer.{Answer}
use Rattle.spec.specs.declared.Answer.TheVariants.{Yes, No, Full, Done, Lost, Limit}
use Rattle.spec.specs.declared.Call.{Call}
use Rattle.spec.specs.declared.Call.TheVariants.{Insert, Remove, Contains, Grow, Shrink}
use Rattle.spec.specs.Outputs.{Output}
use Rattle.spec.specs.declared.Progress.TheVariants.{At}
use Rattle.spec.specs.Lists.{member, add_tag, remove_tag, range}
use Rattle.spec.specs.Numbers.{answer_number}
use Rattle.spec.specs.Plain.{insert_answer, inserted, plain_insert, plain_remove, plain_contains, plain}
use Rattle.spec.specs.History.{Ended}
use Rattle.spec.specs.Linearizable.{Into, here, there, Order, none, more, Timely, Answers, NoEight}

-- a call by its task, call, tag, answer, and the places of its start and its end
abbrev pub ended_call : ℕ → Call → ℕ → Answer → ℕ → ℕ → Ended
ended_call p c k a r n = record { task = p; call = c; tag = k; answer = a; start = r; end = n }

-- ---- real time: a contains of 9 by task p, which says no, from event r to event n

abbrev pub looks : ℕ → ℕ → ℕ → Ended
looks p r n = ended_call p Contains 9 No r n

-- two that overlap may stand in either order, beside a third that came before both
pub either_order :
    Timely (looks 0 0 3 ∷ looks 1 4 8 ∷ looks 2 6 9 ∷ []) × Timely (looks 0 0 3 ∷ looks 2 6 9 ∷ looks 1 4 8 ∷ [])
either_order = (((omega arith, (omega arith, tt)), ((omega arith, tt), (tt, tt))), ((omega arith, (omega arith, tt)), ((omega arith, tt), (tt, tt))))

-- one that overlaps all may stand anywhere among calls that came one after the other
pub anywhere :
    Timely (looks 2 0 9 ∷ looks 0 1 3 ∷ looks 0 4 6 ∷ []) × Timely (looks 0 1 3 ∷ looks 0 4 6 ∷ looks 2 0 9 ∷ [])
anywhere = (((omega arith, (omega arith, tt)), ((omega arith, tt), (tt, tt))), ((omega arith, (omega arith, tt)), ((omega arith, tt), (tt, tt))))

-- the third ended just before the first started; the second overlaps both, so that neighbours are in time
pub first_and_third :
    (¬ Timely (looks 0 6 20 ∷ looks 1 0 30 ∷ looks 2 1 5 ∷ []))
    × Timely (looks 0 6 20 ∷ looks 1 0 30 ∷ []) × Timely (looks 1 0 30 ∷ looks 2 1 5 ∷ [])
first_and_third = (λ t. (let late = t.0.1.0 in omega arith), ((omega arith, tt), (tt, tt)), ((omega arith, tt), (tt, tt)))

-- the fourth ended just before the first started, all between overlap both
pub first_and_fourth :
    (¬ Timely (looks 0 6 20 ∷ looks 1 0 30 ∷ looks 2 1 31 ∷ looks 3 2 5 ∷ []))
    × Timely (looks 0 6 20 ∷ looks 1 0 30 ∷ looks 2 1 31 ∷ []) × Timely (looks 1 0 30 ∷ looks 2 1 31 ∷ looks 3 2 5 ∷ [])
first_and_fourth = (
  λ t. (let late = t.0.1.1.0 in omega arith),
  ((omega arith, (omega arith, tt)), ((omega arith, tt), (tt, tt))),
  ((omega arith, (omega arith, tt)), ((omega arith, tt), (tt, tt))),
)

-- the second and the third, behind a first that is in time with all
pub second_and_third : (¬ Timely (looks 0 0 40 ∷ looks 1 6 20 ∷ looks 2 1 5 ∷ [])) × Timely (looks 0 0 40 ∷ looks 1 6 20 ∷ [])
second_and_third = (λ t. (let late = t.1.0.0 in omega arith), ((omega arith, tt), (tt, tt)))

-- ---- each call once, with every field its own

-- how many calls of a list a test holds of
unfoldable pub with_test : (Ended → Bool) → List Ended → ℕ
with_test f [] = 0
with_test f (e ∷ L) = (if f e then 1 else 0) + with_test f L

into_counts : (f : Ended → Bool) {e : Ended} {L M : List Ended} → Into e L M → with_test f M ≡ with_test f (e ∷ L)
unfolding with_test
into_counts f here = refl
into_counts f (there i) = let h = into_counts f i in omega arith

-- an order has as many of them as the history
order_counts : (f : Ended → Bool) {L M : List Ended} → Order L M → with_test f L ≡ with_test f M
unfolding with_test
order_counts f none = refl
order_counts f (more o i) =
    let h = order_counts f o in
    let g = into_counts f i in
    omega arith

-- three calls as a history has them, the last ended first: an insert of 5, a contains of 5 and a remove of 5
abbrev pub inserts_5 : Ended
inserts_5 = ended_call 0 Insert 5 Yes 0 3

abbrev pub contains_5 : Ended
contains_5 = ended_call 1 Contains 5 Yes 4 7

abbrev pub removes_5 : Ended
removes_5 = ended_call 2 Remove 5 Yes 8 11

abbrev pub History5 : List Ended → Type 0
History5 L = Order (removes_5 ∷ contains_5 ∷ inserts_5 ∷ []) L

-- all three, once: any order of them, in time or not
pub all_three : History5 (inserts_5 ∷ contains_5 ∷ removes_5 ∷ []) × History5 (contains_5 ∷ removes_5 ∷ inserts_5 ∷ [])
all_three = (more (more (more none here) (there here)) (there (there here)), more (more (more none here) here) (there here))

-- tests of one field each
unfoldable pub looked : Ended → Bool
looked e = go e.call
  where
    go : Call → Bool
    go Contains = true
    go Insert = false
    go Remove = false
    go Grow = false
    go Shrink = false

unfoldable pub said_no : Ended → Bool
said_no e = go e.answer
  where
    go : Answer → Bool
    go No = true
    go Yes = false
    go Full = false
    go Done = false
    go Lost = false
    go Limit = false

abbrev pub by_number : (Ended → ℕ) → ℕ → Ended → Bool
by_number field n e = eqb (field e) n

-- the one in the middle is left out; the first or the last is; all are
pub left_out :
    (¬ History5 (inserts_5 ∷ removes_5 ∷ [])) × (¬ History5 (contains_5 ∷ removes_5 ∷ [])) × (¬ History5 (inserts_5 ∷ contains_5 ∷ []))
    × (¬ History5 [])
unfolding with_test
left_out =
    let f = by_number (λ e. e.task) in (
      λ o. (let e = order_counts (f 1) o in omega arith),
      λ o. (let e = order_counts (f 0) o in omega arith),
      λ o. (let e = order_counts (f 2) o in omega arith),
      λ o. (let e = order_counts (f 2) o in omega arith),
    )

-- one stands there twice: beside all three, and in the place of another
pub twice :
    (¬ History5 (inserts_5 ∷ contains_5 ∷ contains_5 ∷ removes_5 ∷ [])) × (¬ History5 (inserts_5 ∷ contains_5 ∷ contains_5 ∷ []))
unfolding with_test
twice =
    let f = by_number (λ e. e.task) in
    (λ o. (let e = order_counts (f 1) o in omega arith), λ o. (let e = order_counts (f 1) o in omega arith))

-- one is invented: a contains of task 3 that nobody made, beside all three; and a call where none ended
pub invented : (¬ History5 (inserts_5 ∷ contains_5 ∷ looks 3 4 7 ∷ removes_5 ∷ [])) × (¬ Order [] (inserts_5 ∷ []))
unfolding with_test
invented =
    let f = by_number (λ e. e.task) in
    (λ o. (let e = order_counts (f 3) o in omega arith), λ o. (let e = order_counts (f 0) o in omega arith))

-- the contains stands in it with one field another: task, call, tag, answer, start, end
abbrev pub InItsPlace : Ended → Type 0
InItsPlace e = ¬ History5 (inserts_5 ∷ e ∷ removes_5 ∷ [])

pub altered :
    InItsPlace (ended_call 3 Contains 5 Yes 4 7) × InItsPlace (ended_call 1 Insert 5 Yes 4 7) × InItsPlace (ended_call 1 Contains 6 Yes 4 7)
    × InItsPlace (ended_call 1 Contains 5 No 4 7) × InItsPlace (ended_call 1 Contains 5 Yes 5 7) × InItsPlace (ended_call 1 Contains 5 Yes 4 6)
unfolding with_test looked said_no
altered = (
  λ o. (let e = order_counts (by_number (λ e. e.task) 3) o in omega arith),
  λ o. (let e = order_counts looked o in omega arith),
  λ o. (let e = order_counts (by_number (λ e. e.tag) 6) o in omega arith),
  λ o. (let e = order_counts said_no o in omega arith),
  λ o. (let e = order_counts (by_number (λ e. e.start) 5) o in omega arith),
  λ o. (let e = order_counts (by_number (λ e. e.end) 6) o in omega arith),
)

-- ---- answers

-- every answer: a second insert says no, as do a remove and a contains of an absent tag
pub all_answers : Answers []
    (inserts_5 ∷ ended_call 1 Insert 5 No 4 5 ∷ contains_5 ∷ ended_call 1 Remove 6 No 6 7 ∷ removes_5 ∷ ended_call 1 Contains 5 No 12 13 ∷ [])
unfolding plain plain_insert plain_remove plain_contains insert_answer inserted member add_tag remove_tag
all_answers =
    (omega arith, refl, (omega arith, refl, (omega arith, refl, (omega arith, refl, (omega arith, refl, (omega arith, refl, omega arith))))))

-- two answers with other numbers are others
ne_answers : (a b : Answer) → ¬ (answer_number a ≡ answer_number b) → ¬ (a ≡ b)
ne_answers a b f e = f (ap answer_number e)

-- one wrong answer: in the middle, and the last of three
pub wrong_in_the_middle : ¬ Answers [] (inserts_5 ∷ ended_call 1 Contains 5 No 4 7 ∷ removes_5 ∷ [])
unfolding plain plain_insert plain_remove plain_contains insert_answer inserted member add_tag remove_tag
wrong_in_the_middle a = ne_answers Yes No (λ e. omega arith) a.2.1

pub wrong_last : ¬ Answers [] (inserts_5 ∷ contains_5 ∷ ended_call 2 Remove 5 No 8 11 ∷ [])
unfolding plain plain_insert plain_remove plain_contains insert_answer inserted member add_tag remove_tag
wrong_last a = ne_answers Yes No (λ e. omega arith) a.2.2.1

-- a remove takes its tag out: the contains after it cannot find it
pub found_after_its_remove : ¬ Answers [] (inserts_5 ∷ removes_5 ∷ ended_call 1 Contains 5 Yes 12 13 ∷ [])
unfolding plain plain_insert plain_remove plain_contains insert_answer inserted member add_tag remove_tag
found_after_its_remove a = ne_answers No Yes (λ e. omega arith) a.2.2.1

-- a second insert of a tag says neither yes nor full
pub inserted_twice : (¬ Answers [] (inserts_5 ∷ ended_call 1 Insert 5 Yes 4 5 ∷ [])) × (¬ Answers [] (inserts_5 ∷ ended_call 1 Insert 5 Full 4 5 ∷ []))
unfolding plain plain_insert plain_remove plain_contains insert_answer inserted member add_tag remove_tag
inserted_twice = (λ a. ne_answers No Yes (λ e. omega arith) a.2.1, λ a. ne_answers No Full (λ e. omega arith) a.2.1)

-- ---- the plain set at 64 tags and past them

-- with 0 to 62 in it an insert finds room, with 0 to 63 it is full, and a tag that is there is still no
pub at_64 :
    Answers (range 0 63) (ended_call 0 Insert 90 Yes 0 3 ∷ ended_call 0 Insert 91 Full 4 7 ∷ ended_call 0 Insert 5 No 8 9 ∷ [])
unfolding plain plain_insert plain_remove plain_contains insert_answer inserted member add_tag remove_tag range
at_64 = (omega arith, refl, (omega arith, refl, (omega arith, refl, omega arith)))

-- full one tag too early, and room one tag too late
pub full_at_63 : ¬ Answers (range 0 63) (ended_call 0 Insert 90 Full 0 3 ∷ [])
unfolding plain plain_insert plain_remove plain_contains insert_answer inserted member add_tag remove_tag range
full_at_63 a = ne_answers Yes Full (λ e. omega arith) a.1

pub room_at_64 : ¬ Answers (range 0 64) (ended_call 0 Insert 90 Yes 0 3 ∷ [])
unfolding plain plain_insert plain_remove plain_contains insert_answer inserted member add_tag remove_tag range
room_at_64 a = ne_answers Full Yes (λ e. omega arith) a.1

-- a set of 65 answers nothing: not at the end of an order, and not before a remove that would leave 64
pub past_64 : (¬ Answers (range 0 65) []) × (¬ Answers (range 0 65) (ended_call 0 Remove 5 Yes 0 3 ∷ []))
unfolding plain plain_insert plain_remove plain_contains insert_answer inserted member add_tag remove_tag range
past_64 = (λ a. omega (arith, a), λ a. (let b = a.0 in omega arith))

-- ---- "Never from an opening onward": refusal 8, wherever it stands among the outputs

other_refusal : (r : Refusal) → ¬ (r ≡ Spoilt) → ¬ (◌≡◌ {A = Output} (Err r) (Err Spoilt))
other_refusal r f e = f cc

seven_apart : ¬ (NoRecord ≡ Spoilt)
seven_apart e = let z : ◌≡◌ {A = ℕ} 0 1 = cc in omega arith

nine_apart : ¬ (ShortList ≡ Spoilt)
nine_apart e = let z : ◌≡◌ {A = ℕ} 0 1 = cc in omega arith

-- other refusals are allowed, and 8 as a line
pub no_eight : NoEight (Ok (At 8) ∷ Err NoRecord ∷ Err ShortList ∷ [])
no_eight =
    (λ e. (let z : ◌≡◌ {A = ℕ} 0 1 = cc in omega arith), (other_refusal NoRecord seven_apart, (other_refusal ShortList nine_apart, tt)))

-- the first, the second, the third and the last of four
pub eight_first : ¬ NoEight (Err Spoilt ∷ Ok (At 33) ∷ [])
eight_first n = n.0 refl

pub eight_second_and_last : ¬ NoEight (Ok (At 32) ∷ Err Spoilt ∷ [])
eight_second_and_last n = n.1.0 refl

pub eight_in_the_middle : ¬ NoEight (Ok (At 32) ∷ Ok (At 33) ∷ Err Spoilt ∷ Ok (At 36) ∷ [])
eight_in_the_middle n = n.1.1.0 refl

pub eight_last_of_four : ¬ NoEight (Ok (At 32) ∷ Ok (At 33) ∷ Ok (At 36) ∷ Err Spoilt ∷ [])
eight_last_of_four n = n.1.1.1.0 refl
