use Rattle.std.proofs.Common.{◌≡◌, ◌≤◌, ◌-◌, sym, ap, ◌∙◌, arith, List, [], ℕ}
use Rattle.spec.specs.declared.Task.{Task}
use Rattle.spec.specs.declared.State.{State}
use Rattle.spec.specs.Machine.{with_line, with_new_node, with_state, with_nodes, with_last_node, state_last_node, machine_of}
use Rattle.spec.specs.Words.{apply, link}
use Rattle.spec.specs.Held.{free_node}
use Rattle.spec.specs.Listed.{size_of}
use Rattle.spec.specs.Lines.{moves, line_27}
use Rattle.spec.specs.Entries.{Reply, accept}
use Rattle.laws.specs.StepAt.{AllPass, tests_at, step_table, here, next}
use Rattle.pool.proofs.At.{node_here}
use Rattle.held.proofs.Taking.{node_in}
use Rattle.lines.proofs.Settling.{over_last_node}
use Rattle.lines.proofs.Taking.{free_node_in}
use Rattle.lines.proofs.Giving.{refuses_8, refuses_7, goes}
use Rattle.lines_resize.proofs.line27.Goals as goal

-- the task goes on with this node taken, by its number, and these words in the pool
abbrev takes : State → ℕ → Task → ℕ → List ℕ → List ℕ → Reply
takes s k c n v bs = accept (machine_of (state_last_node n s) v bs) k c.own (moves (with_line 28 (with_new_node (link n) c)))

pub returns-then-c-eq0 : goal.returns-then-c-eq0
unfolding step_table
returns-then-c-eq0 c = λ bs.
    let a = c.args in
    refuses_8 (machine_of a.s a.ns.now bs) a.c 27 c.requires.1 (here c.if-c-eq0.true) c.refused.ensures

pub returns-in_default : goal.returns-in_default
unfolding step_table size_of
returns-in_default c = λ bs.
    let a = c.args in
    refuses_8 (machine_of a.s a.ns.now bs) a.c 27 c.requires.1 (next (here (rw (← c.size_of.ensures) c.in_default.ensures))) c.refused-in_default.ensures

pub returns-in_default-free_node_of : goal.returns-in_default-free_node_of
unfolding step_table size_of
returns-in_default-free_node_of c = λ bs.
    let a = c.args in
    let y = machine_of a.s a.ns.now bs in
    let free = c.in_default-free_node_of.ensures bs ∙ node_in y (c.requires.2, c.requires.3, c.requires.4) in
    let passed : AllPass (tests_at 27 y a.c) = (c.if-c-eq0.false, rw (← c.size_of.ensures) c.in-Some.ensures.0) in
    refuses_7 y a.c 27 c.requires.1 passed (here (sym free)) c.refused-in_default-free_node_of.ensures

pub returns : goal.returns
unfolding step_table line_27 accept apply with_last_node with_nodes with_state state_last_node with_new_node size_of
returns c = λ bs.
    let a = c.args in
    let y = machine_of a.s a.ns.now bs in
    let free : ℕ = c.in-Some-free_node_of.f in
    let is : link free ≡ free_node y = c.in-Some-free_node_of.ensures bs ∙ node_in y (c.requires.2, c.requires.3, c.requires.4) in
    let number_is : link free - 1 ≡ free = omega arith in
    let low : link free ≤ a.s.nodes = rw is (free_node_in y (omega arith)) in
    let stored = c.new_node.ensures ∙ node_here a.ns.now free c.in-Some.w a.c.t (omega (arith, low)) in
    let passed : AllPass (tests_at 27 y a.c) = (c.if-c-eq0.false, rw (← c.size_of.ensures) c.in-Some.ensures.0) in
    goes y a.c 27 c.requires.1 passed (λ z. absurd (omega (arith, is, z))) c.go.ensures.1
    (over_last_node free a.s a.k c.go.result _ bs c.go.ensures.1
    (c.go.ensures.0 c.new_node.new.ns bs ∙ ap (λ (v : List ℕ). takes a.s a.k a.c free v bs) stored)
    ∙ rw (← is, number_is, ← c.size_of.ensures, ← c.in-Some.ensures.1))

-- a link is at most the number of nodes
pub overflow_add-new_node : goal.overflow_add-new_node
overflow_add-new_node c =
    let y = machine_of c.args.s c.args.ns.now [] in
    let is = c.in-Some-free_node_of.ensures [] ∙ node_in y (c.requires.2, c.requires.3, c.requires.4) in
    let low = free_node_in y (omega arith) in
    omega (arith, is, low)
