-- What is left at a call's first line are the planner's figures, and they are never more than 292 own steps: a node has at most 32 places, and
-- a place takes at most nine lines. Assumes nothing.
use Rattle.std.specs.Prelude.{◌≡◌, refl, Bool, true, false, List, [], ◌∷◌, ℕ, ◌+◌, ◌*◌, ◌≤◌, eqb, length, if◌then◌else◌}
use Rattle.std.proofs.Math.Decide.{ℕ_discrete}
use Rattle.std.proofs.Common.{arith, eq-eqb, ne_eqb}
use Rattle.spec.specs.declared.Answer.{Answer}
use Rattle.spec.specs.declared.Answer.TheVariants.{Done, Limit}
use Rattle.spec.specs.declared.Call.{Call}
use Rattle.spec.specs.declared.Call.TheVariants.{Insert, Remove, Contains, Grow, Shrink}
use Rattle.spec.specs.declared.Config.{Config}
use Rattle.spec.specs.Lists.{member}
use Rattle.spec.specs.Listed.{slot}
use Rattle.spec.specs.Numbers.{call_number}
use Rattle.spec.specs.Plain.{plain}
use Rattle.spec.specs.Lines.{at_limit}
use Rattle.laws.specs.Tests.{tf}
use Rattle.laws.specs.Ascending.{Rising}
use Rattle.laws.specs.PlainSet.{plain_rising}
use Rattle.model.specs.Heap.{Heap}
use Rattle.model.specs.PlaceState.{of_changeable}
use Rattle.model.specs.Positions.{Position}
use Rattle.model.specs.Runs.{opened}
use Rattle.linear.specs.FirstPositions.{first_of}
use Rattle.plans.specs.declared.Figures.{Figures}
use Rattle.plans.specs.Plan.{figures, Shape, head_size, fresh, fill_steps, place_steps, places_steps, empty_places, update_figures, contains_figures}
use Rattle.plans.specs.Plan.{resize_figures, call_figures, after_update, after_resize, after_call}
use Rattle.plan_laws.specs.Alone.{filled_at, LaidOut, limited, Solo, steps_left, buckets_left, answer_then, shape_then}
use Rattle.plan_laws.specs.EndsAlone.{TagsAs}

-- the figures of a call at position l, of which `own` steps are made and b buckets taken
abbrev pub figures_at : Config → Shape → ℕ → ℕ → Position → Figures
figures_at g S own b l = figures (answer_then g S l) (own + steps_left g S l) (b + buckets_left g S l)

pub same_figures : {a b : Answer} {m n c d : ℕ} → a ≡ b → m ≡ n → c ≡ d → figures a m c ≡ figures b n d
same_figures e f h = rw (e, f, h)

-- ---- at the first line

-- a choice between figures is one between their numbers
choice : (v : Bool) (a b : Answer) (m n c d : ℕ)
    → figures (if v then a else b) (0 + (if v then m else n)) (0 + (if v then c else d)) ≡ (if v then figures a m c else figures b n d)
choice true a b m n c d = same_figures refl (omega arith) (omega arith)
choice false a b m n c d = same_figures refl (omega arith) (omega arith)

one_answer : (v : Bool) (a : Answer) (m n c d : ℕ)
    → figures a (0 + (if v then m else n)) (0 + (if v then c else d)) ≡ (if v then figures a m c else figures a n d)
one_answer true a m n c d = same_figures refl (omega arith) (omega arith)
one_answer false a m n c d = same_figures refl (omega arith) (omega arith)

pub first_figures : (g : Config) (S : Shape) (call : Call) (k : ℕ) → figures_at g S 0 0 (first_of call k) ≡ call_figures g S call k
unfolding call_figures update_figures contains_figures resize_figures
first_figures g S Insert k = one_answer (filled_at S (slot g k (head_size S))) (plain S.tags Insert k).answer 3 (3 + fill_steps S) 0 1
first_figures g S Remove k = one_answer (filled_at S (slot g k (head_size S))) (plain S.tags Remove k).answer 3 (3 + fill_steps S) 0 1
first_figures g S Contains k = same_figures refl (omega arith) (omega arith)
first_figures g S Grow k = choice (limited true S) Limit Done 1 (4 + places_steps S S.filled) 0 (empty_places S.filled)
first_figures g S Shrink k = choice (limited false S) Limit Done 1 (4 + places_steps S S.filled) 0 (empty_places S.filled)

pub first_shape : (g : Config) (S : Shape) (call : Call) (k : ℕ) → shape_then g S (first_of call k) ≡ after_call g S call k
unfolding after_call
first_shape g S Insert k = refl
first_shape g S Remove k = refl
first_shape g S Contains k = refl
first_shape g S Grow k = refl
first_shape g S Shrink k = refl

pub first_solo : (S : Shape) (h : Heap) (call : Call) (k : ℕ) → LaidOut S h → Solo S h (first_of call k)
first_solo S h Insert k o = o
first_solo S h Remove k o = o
first_solo S h Contains k o = o
first_solo S h Grow k o = o
first_solo S h Shrink k o = o

-- ---- no call takes more than 292 steps

fill_at_most : (S : Shape) → fill_steps S ≤ 9
unfolding fill_steps
fill_at_most S = go (ℕ_discrete (head_size S) (2 * S.pred))
  where
    go : Dec (head_size S ≡ 2 * S.pred) → (if eqb (head_size S) (2 * S.pred) then 7 else 9) ≤ 9
    go (yes e) = rw (eq-eqb (head_size S) (2 * S.pred) e) (omega arith)
    go (no d) = rw (ne_eqb (head_size S) (2 * S.pred) d) (omega arith)

-- the greater of two numbers, whichever is chosen
chosen_at_most : (v : Bool) (m n most : ℕ) → m ≤ most → n ≤ most → (if v then m else n) ≤ most
chosen_at_most true m n most a b = a
chosen_at_most false m n most a b = b

places_at_most : (S : Shape) (fs : List Bool) → places_steps S fs ≤ 9 * length fs
unfolding places_steps place_steps
places_at_most S [] = omega arith
places_at_most S (f ∷ fs) =
    let a = chosen_at_most f 3 (fill_steps S) 9 (omega arith) (fill_at_most S) in
    let b = places_at_most S fs in
    omega arith

pub steps_at_most : (g : Config) (S : Shape) (call : Call) (k : ℕ) → head_size S ≤ 32 → steps_left g S (first_of call k) ≤ 292
steps_at_most g S Insert k le = let f = fill_at_most S in chosen_at_most (filled_at S (slot g k (head_size S))) 3 _ 292 (omega arith) (omega arith)
steps_at_most g S Remove k le = let f = fill_at_most S in chosen_at_most (filled_at S (slot g k (head_size S))) 3 _ 292 (omega arith) (omega arith)
steps_at_most g S Contains k le = chosen_at_most (filled_at S (slot g k (head_size S))) 3 5 292 (omega arith) (omega arith)
steps_at_most g S Grow k le = let a = places_at_most S S.filled in chosen_at_most (limited true S) 1 _ 292 (omega arith) (omega arith)
steps_at_most g S Shrink k le = let a = places_at_most S S.filled in chosen_at_most (limited false S) 1 _ 292 (omega arith) (omega arith)

-- ---- the set stays ascending, and an opening's head is as the planner begins

resized_tags : (S : Shape) (call : Call) → (after_resize S call).tags ≡ S.tags
unfolding after_resize
resized_tags S call = go (at_limit (call_number call) (head_size S)) _
  where
    go : (v : Bool) (fs : List Bool) → (if v then S else record { pred = head_size S; filled = fs; tags = S.tags }).tags ≡ S.tags
    go true fs = refl
    go false fs = refl

pub rising_after : (g : Config) (S : Shape) (call : Call) (k : ℕ) → Rising S.tags → Rising (after_call g S call k).tags
unfolding after_call after_update
rising_after g S Insert k up = plain_rising S.tags Insert k up
rising_after g S Remove k up = plain_rising S.tags Remove k up
rising_after g S Contains k up = up
rising_after g S Grow k up = rw (resized_tags S Grow) up
rising_after g S Shrink k up = rw (resized_tags S Shrink) up

pub fresh_laid_out : (key : ℕ → ℕ) → LaidOut fresh (opened key)
unfolding fresh
fresh_laid_out key = record {
  head_as = record { size≡ = refl; pred≡ = λ s l. absurd (tf l refl) };
  places_as = λ j u lt. let e : j ≡ 0 = omega arith in rw e of_changeable;
}

pub fresh_tags : (key : ℕ → ℕ) → TagsAs fresh.tags (opened key)
unfolding fresh member
fresh_tags key k = refl
