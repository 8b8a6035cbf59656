-- Examples for the parts of request U10's claim, each by itself: real time over three calls, each call once, what the atomic bucket answers,
-- an operation that takes effect twice, refusals, a version with 65 tags, and operations past 63. The claim of a whole schedule is in
-- OrderExamples. Assumes nothing.
use Rattle.std.specs.Prelude.{ℕ, ◌≤◌, ◌≡◌, refl, List, [], ◌∷◌, ◌++◌, map, Bool, true, false, ◌||◌, eqb, replicate, if◌then◌else◌, Ok, Err}
use Rattle.std.proofs.Common.{arith, ap}
use Rattle.coop_spec.specs.declared.Refusal.{Refusal}
use Rattle.coop_spec.specs.declared.Refusal.TheVariants.{NoVersion, Spoilt}
use Rattle.spec.specs.Lists.{range}
use Rattle.coop_spec.specs.declared.Answer.TheVariants.{Yes}
use Rattle.coop_spec.specs.declared.Call.TheVariants.{InvokeInsert, InvokeRemove}
use Rattle.coop_spec.specs.declared.Progress.TheVariants.{At, End}
use Rattle.coop_spec.specs.Machine.{Machine, set_task, task_of}
use Rattle.coop_spec.specs.Entries.{may_start}
use Rattle.coop_spec.specs.Schedule.{Event}
use Rattle.coop_spec.specs.StepRefusals.{needs_65th_tag}
use Rattle.coop_spec.specs.Words.{install, set_op, apply_all}
use Rattle.coop_spec.specs.Atomic.{Operations, invoke, freeze, has_member, get_response, boolean, tag_set, empty_bucket}
use Rattle.coop_spec.specs.History.{Occurrence, Ended, history}
use Rattle.coop_spec.specs.Linearizable.{In, here, there, Timely, EachOnce, Answers, NoneTwice, AtMostOnce, Never, Suffices, enough_versions, No65thTag}
use Rattle.coop_spec.specs.Everything.{everything}
use Rattle.coop_spec.specs.Rows.{calling, stepping}
use Rattle.coop_spec.specs.LineRows.{task, frz}
use Rattle.coop_spec.specs.ToldRows.{ended_call, called}
use Rattle.coop_spec.specs.Outputs.{Output}
use Rattle.coop_spec.specs.Numbers.{refusal_number}
use Rattle.coop_cases.specs.SpoiltRows.{base}
use Rattle.coop_cases.specs.OrderExamples.{not_both, in_one}

-- ---- real time: two member tests have ended, the second started just after the end of the first; task 1's invoke of operation 0 still runs

unfoldable pub two_ended : List Ended
two_ended = ended_call 2 21 (has_member 9) (boolean false) 40 ∷ ended_call 0 1 (has_member 9) (boolean false) 20 ∷ []

abbrev pub earlier : Occurrence
earlier = called 0 1 (has_member 9) (boolean false)

abbrev pub later : Occurrence
later = called 2 21 (has_member 9) (boolean false)

abbrev pub runs : Occurrence
runs = called 1 0 (invoke 0) (boolean true)

-- the later may not stand before the earlier: not beside it, and not with the running one between, which is in time with both
pub out_of_time : (¬ Timely two_ended (later ∷ earlier ∷ [])) × (¬ Timely two_ended (later ∷ runs ∷ earlier ∷ []))
unfolding two_ended
out_of_time = (
  λ t. (let late = t.0.0 (ended_call 0 1 (has_member 9) (boolean false) 20) (there here) (refl, refl) in omega arith),
  λ t. (let late = t.0.1.0 (ended_call 0 1 (has_member 9) (boolean false) 20) (there here) (refl, refl) in omega arith),
)

-- nor behind a running one that stands first
pub out_of_time_behind : ¬ Timely two_ended (runs ∷ later ∷ earlier ∷ [])
unfolding two_ended
out_of_time_behind t =
    let late = t.1.0.0 (ended_call 0 1 (has_member 9) (boolean false) 20) (there here) (refl, refl) in
    omega arith

-- a running one may stand last, after calls that started when it had not ended
in_two : {A : Type 0} (P : A → Type 0) {d e f : A} → In d (e ∷ f ∷ []) → P e → P f → P d
in_two P here p q = p
in_two P (there here) p q = q
in_two P (there (there x)) p q = elim x [ ]

pub in_time : Timely two_ended (earlier ∷ later ∷ runs ∷ [])
unfolding two_ended
in_time = (
  (
    λ d i s. in_two (λ (x : Ended). 1 ≤ x.end) i (omega arith) (omega arith),
    (λ d i s. in_two (λ (x : Ended). 1 ≤ x.end) i (omega arith) (omega arith), tt),
  ),
  ((λ d i s. in_two (λ (x : Ended). x.occurrence.task ≡ 1 → 21 ≤ x.end) i (λ e. omega arith) (λ e. omega arith) s.0, tt), (tt, tt)),
)

-- ---- each call once: a call is its task and its start

pub each_once : EachOnce (called 0 0 freeze (tag_set []) ∷ called 0 1 freeze (tag_set []) ∷ called 1 0 freeze (tag_set []) ∷ [])
each_once = (
  (λ s. (let e = s.1 in omega arith), (λ s. (let e = s.0 in omega arith), tt)),
  ((λ s. (let e = s.0 in omega arith), tt), (tt, tt)),
)

-- it is there again two places on, and with another call and answer; and behind another
pub again :
    (¬ EachOnce (runs ∷ earlier ∷ runs ∷ [])) × (¬ EachOnce (runs ∷ earlier ∷ called 1 0 freeze (tag_set []) ∷ []))
    × (¬ EachOnce (earlier ∷ runs ∷ runs ∷ []))
again = (λ o. o.0.1.0 (refl, refl), λ o. o.0.1.0 (refl, refl), λ o. o.1.0.0 (refl, refl))

-- ---- answers of the atomic bucket: operation 0 inserts 5, operation 1 removes 5, operation 2 inserts 5 again, operation 3 removes 6

unfoldable pub four : Operations
four = record { inserts = λ n. eqb n 0 || eqb n 2; tag = λ n. if eqb n 3 then 6 else 5 }

-- from the empty bucket on
abbrev pub Answered : List Occurrence → Type 0
Answered L = Answers four empty_bucket L

abbrev pub tells : ℕ → Bool → Occurrence
tells n b = called 0 0 (get_response n) (boolean b)

abbrev pub invokes : ℕ → Bool → Occurrence
invokes n b = called 0 0 (invoke n) (boolean b)

abbrev pub tests : ℕ → Bool → Occurrence
tests k b = called 0 0 (has_member k) (boolean b)

abbrev pub freezes : List ℕ → Occurrence
freezes ks = called 0 0 freeze (tag_set ks)

-- member tests before and after; an insert of a tag that is there and a remove of one that is not respond false, the others true; a freeze
-- gives the set, and an invoke after it does nothing
pub answered :
    Answered (tests 5 false ∷ tells 0 false ∷ invokes 0 true ∷ tells 0 true ∷ tests 5 true ∷ tests 6 false ∷ invokes 2 true ∷ tells 2 false
    ∷ invokes 3 true ∷ tells 3 false ∷ invokes 1 true ∷ tells 1 true ∷ tests 5 false ∷ [])
    × Answered (invokes 0 true ∷ freezes (5 ∷ []) ∷ invokes 1 false ∷ tells 1 false ∷ tests 5 true ∷ freezes (5 ∷ []) ∷ invokes 0 true ∷ [])
unfolding everything four
answered = (
  (refl, (refl, (refl, (refl, (refl, (refl, (refl, (refl, (refl, (refl, (refl, (refl, (refl, tt))))))))))))),
  (refl, (refl, (refl, (refl, (refl, (refl, (refl, tt))))))),
)

said_true : boolean true ≡ boolean false → ⊥
said_true e = let z : ◌≡◌ {A = ℕ} 0 1 = cc in omega arith

said_false : boolean false ≡ boolean true → ⊥
said_false e = let z : ◌≡◌ {A = ℕ} 0 1 = cc in omega arith

-- a member test that misses its tag, and one that finds it before its insert; in the middle of an order
pub wrong_test : (¬ Answered (invokes 0 true ∷ tests 5 false ∷ tells 0 true ∷ [])) × (¬ Answered (tests 5 true ∷ invokes 0 true ∷ []))
unfolding everything four
wrong_test = (λ a. said_true a.1.0, λ a. said_false a.0)

-- a remove of an absent tag that responds true, and of a present one false; an insert of a present tag that responds true
pub wrong_response :
    (¬ Answered (invokes 3 true ∷ tells 3 true ∷ [])) × (¬ Answered (invokes 0 true ∷ invokes 1 true ∷ tells 1 false ∷ []))
    × (¬ Answered (invokes 0 true ∷ invokes 2 true ∷ tells 2 true ∷ []))
unfolding everything four
wrong_response = (λ a. said_false a.1.0, λ a. said_true a.1.1.0, λ a. said_false a.1.1.0)

-- an operation that takes effect twice: the second invoke of 0 puts 5 in again after its remove
pub effect_twice : ¬ Answered (invokes 0 true ∷ invokes 1 true ∷ invokes 0 true ∷ tests 5 true ∷ [])
unfolding everything four
effect_twice a = said_false a.1.1.1.0

-- an invoke that does nothing though the bucket is not frozen, and one that takes effect though it is
pub wrong_invoke : (¬ Answered (invokes 0 false ∷ [])) × (¬ Answered (freezes [] ∷ invokes 0 true ∷ []))
unfolding everything four
wrong_invoke = (λ a. said_true a.0, λ a. said_false a.1.0)

-- a freeze that gives another set: one tag more, one less, another, and no answer of yes or no
pub wrong_set :
    (¬ Answered (invokes 0 true ∷ freezes (5 ∷ 6 ∷ []) ∷ [])) × (¬ Answered (invokes 0 true ∷ freezes [] ∷ []))
    × (¬ Answered (invokes 0 true ∷ freezes (6 ∷ []) ∷ [])) × (¬ Answered (invokes 0 true ∷ called 0 0 freeze (boolean true) ∷ []))
unfolding everything four
wrong_set = (
  λ a. (let e = a.1.0 in let z : ◌≡◌ {A = ℕ} 0 1 = cc in omega arith),
  λ a. (let e = a.1.0 in let z : ◌≡◌ {A = ℕ} 0 1 = cc in omega arith),
  λ a. (let e = a.1.0 in let z : ◌≡◌ {A = ℕ} 5 6 = cc in omega arith),
  λ a. (let e = a.1.0 in let z : ◌≡◌ {A = ℕ} 0 1 = cc in omega arith),
)

-- ---- "Each operation takes effect at most once"

-- a reading: of both lists
pub at_most_once :
    {t : ℕ} {ws : List ℕ} {es : List Event} → AtMostOnce t ws es → NoneTwice (history t ws es).claimed × NoneTwice (history t ws es).installed
at_most_once o = (o.claimed, o.installed)

pub none_twice : NoneTwice (2 ∷ 0 ∷ 1 ∷ [])
none_twice =
    (λ i. in_two (λ (x : ℕ). x ≡ 2 → ⊥) i (λ e. omega arith) (λ e. omega arith) refl, (λ i. (let e = in_one i in omega arith), (elim [ ], tt)))

-- beside itself, two places on, and behind another
pub number_twice : (¬ NoneTwice (1 ∷ 1 ∷ 0 ∷ [])) × (¬ NoneTwice (1 ∷ 0 ∷ 1 ∷ [])) × (¬ NoneTwice (0 ∷ 1 ∷ 1 ∷ []))
number_twice = (λ n. n.0 here, λ n. n.0 (there here), λ n. n.1.0 here)

-- ---- refusals, wherever they stand, and T + 1 versions

other_refusal : (r s : Refusal) → ¬ (refusal_number r ≡ refusal_number s) → ¬ (◌≡◌ {A = Output} (Err r) (Err s))
other_refusal r s f e = let z : r ≡ s = cc in f (ap refusal_number z)

pub never : Never Spoilt (Ok (At 8) ∷ Err NoVersion ∷ []) × Never NoVersion (Ok (End Yes 7) ∷ Err Spoilt ∷ [])
never = (
  (λ e. (let z : ◌≡◌ {A = ℕ} 0 1 = cc in omega arith), (other_refusal NoVersion Spoilt (λ e. omega arith), tt)),
  (λ e. (let z : ◌≡◌ {A = ℕ} 0 1 = cc in omega arith), (other_refusal Spoilt NoVersion (λ e. omega arith), tt)),
)

pub refused_somewhere :
    (¬ Never Spoilt (Err Spoilt ∷ Ok (At 95) ∷ [])) × (¬ Never Spoilt (Ok (At 95) ∷ Err Spoilt ∷ [])) × (¬ Never NoVersion (Ok (At 95) ∷ Err Spoilt ∷ Err NoVersion ∷ Ok (At 96) ∷ []))
refused_somewhere = (λ n. n.0 refl, λ n. n.1.0 refl, λ n. n.1.1.0 refl)

pub versions_for : map enough_versions (1 ∷ 2 ∷ 8 ∷ []) ≡ 2 ∷ 3 ∷ 9 ∷ []
versions_for = refl

-- one version does not suffice for one task: an insert's last step meets 7
pub one_version : ¬ Suffices 1 1
unfolding everything calling stepping
one_version s = (s (replicate 66 7) (calling 0 InvokeInsert 0 5 11) (omega arith)).1.1.1.1.1.1.1.1.1.1.1.0 refl

-- ---- "no version needs a 65th tag": task p of two stands at 140 with operation 0, an insert of 5, and the bucket has n tags from 10 on

unfoldable pub about_to : ℕ → ℕ → Machine
about_to p n = set_task p (frz 140 126 2 1) (apply_all (install 1 (range 10 n) ∷ set_op 1 2 ∷ []) base)

-- with 63 there is room for it, whoever steps; with 64 there is none, for the first task and for the second
pub room_for_64 : map (needs_65th_tag (about_to 1 63)) (map (task_of (about_to 1 63)) (0 ∷ 1 ∷ 2 ∷ [])) ≡ false ∷ false ∷ false ∷ []
unfolding everything task frz calling stepping base about_to
room_for_64 = refl

pub a_65th_tag : (¬ No65thTag (about_to 0 64)) × (¬ No65thTag (about_to 1 64))
unfolding everything task frz calling stepping base about_to
a_65th_tag = (λ n. not_both (n 0), λ n. not_both (n 1))

-- ---- "of a number past 63, gives 5": an invoke of either type

pub past_63 :
    map (λ n. may_start base InvokeInsert n 5) (63 ∷ 64 ∷ []) ++ map (λ n. may_start base InvokeRemove n 5) (63 ∷ 64 ∷ [])
    ≡ true ∷ false ∷ true ∷ false ∷ []
unfolding everything calling stepping base
past_63 = refl
