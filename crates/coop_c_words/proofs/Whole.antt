-- A state's words written part by part. Assumes nothing.
use Prim.Native.Nat.{ℕ, ◌+◌, ◌≤◌}
use mathlib.Core.Path.{◌≡◌, refl, sym, ap, ◌∙◌}
use mathlib.Core.List.{List, ◌++◌}
use native.Mathlib.Omega.{arith}
use lib.ListN.{length, length-append}
use Rattle.spec.specs.Lists.{concat_map, range}
use Rattle.spec.specs.Words.{overwrite}
use Rattle.laws.specs.Overwrite.{over_length}
use Rattle.yard_words.proofs.Over.{over_then, over_all}
use Rattle.coop_spec.specs.declared.Operation.{Operation}
use Rattle.coop_spec.specs.declared.Task.{Task}
use Rattle.coop_spec.specs.declared.State.{State}
use Rattle.coop_state_words.specs.StateWords.{first_words, operations_words, tasks_words, state_words}

operations_long : (os : List Operation) → length (operations_words os) ≡ 320
unfolding operations_words concat_map range
operations_long os = refl

tasks_long : (ts : List Task) → length (tasks_words ts) ≡ 72
unfolding tasks_words concat_map range
tasks_long ts = refl

-- the first words, then every operation's, then every task's: a state's
pub whole : (s : State) (w : List ℕ) → length w ≡ 397
    → overwrite (overwrite (overwrite w 0 (first_words s)) 5 (operations_words s.operation)) 325 (tasks_words s.task) ≡ state_words s
unfolding state_words
whole s w e =
    let first = first_words s in
    let ops = operations_words s.operation in
    let tasks = tasks_words s.task in
    let n = operations_long s.operation in
    let m = tasks_long s.task in
    let u = overwrite w 0 first in
    let place : 5 + length ops ≡ 325 = omega arith in
    let long : length u ≡ 397 = over_length w 0 first (omega arith) ∙ e in
    let fits : 5 + length ops ≤ length u = omega (arith, long, n) in
    let both : length (ops ++ tasks) ≡ 392 = length-append ops tasks ∙ omega (arith, n, m) in
    let all : length (first ++ (ops ++ tasks)) ≡ length w = length-append first (ops ++ tasks) ∙ omega (arith, both) in
    ap (λ (k : ℕ). overwrite (overwrite u 5 ops) k tasks) (sym place) ∙ sym (over_then u 5 ops tasks fits)
    ∙ sym (over_then w 0 first (ops ++ tasks) (omega arith)) ∙ over_all w (first ++ (ops ++ tasks)) all
