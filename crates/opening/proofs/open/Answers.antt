use Rattle.std.proofs.Common.{◌≡◌, ◌-◌, ◌*◌, ◌/◌, ◌∷◌, sym, ap, ◌∙◌, length, replicate, arith}
use Rattle.laws.specs.RefusalNumbers.{accepts, refuses, not_0}
use Rattle.spec.specs.declared.State.{State}
use Rattle.spec.specs.Numbers.{opening_number}
use Rattle.spec.specs.Machine.{machine_of}
use Rattle.spec.specs.Entries.{Opened, not_opened, fresh_machine}
use Rattle.opening.proofs.Laws.{blank_nodes, blank_buckets, is_refused, is_accepted}
use Rattle.opening.proofs.open.Goals as goal

-- with a refusal it gives that and zeros; else the pools are zeros but for the first node and bucket
pub returns-in-Some : goal.returns-in-Some
unfolding not_opened
returns-in-Some c =
    let a = c.args in
    let ns = a.ns.now in
    let bs = a.bs.now in
    let number = c.refusal.ensures in
    let p = is_refused a.g ns bs (not_0 number c.in-Some.is) in (
      ap opening_number c.not_open.ensures.0 ∙ refuses number c.in-Some.is ∙ sym (ap (λ (o : Opened). o.refusal) p),
      ap (λ (s : State). machine_of s ns bs) c.not_open.ensures.1 ∙ sym (ap (λ (o : Opened). o.machine) p),
    )

pub overflow_cast-h : goal.overflow_cast-h
overflow_cast-h c =
    let a = c.args in
    omega (arith, (is_accepted a.g a.ns.now a.bs.now (accepts c.refusal.ensures c.in_default.is)).nodes_fit.few)

pub overflow_cast-b : goal.overflow_cast-b
overflow_cast-b c =
    let a = c.args in
    omega (arith, (is_accepted a.g a.ns.now a.bs.now (accepts c.refusal.ensures c.in_default.is)).buckets_fit.few)

pub returns : goal.returns
unfolding fresh_machine
returns c =
    let a = c.args in
    let ns = a.ns.now in
    let bs = a.bs.now in
    let p = is_accepted a.g ns bs (accepts c.refusal.ensures c.in_default.is) in
    let nf = p.nodes_fit in
    let bf = p.buckets_fit in
    let en : c.put_first_node.new.ns ≡ 1 ∷ 0 ∷ 1 ∷ replicate (34 * (length ns / 34) - 3) 0 =
    c.put_first_node.ensures ∙ blank_nodes (length ns) (length ns / 34) (omega arith) (omega arith) in
    let eb : c.put_first_bucket.new.bs ≡ 1 ∷ replicate (66 * (length bs / 66) - 1) 0 =
    c.put_first_bucket.ensures ∙ blank_buckets (length bs) (length bs / 66) (omega arith) (omega arith) in
    (sym (ap (λ (o : Opened). o.refusal) p.gives), rw (c.fresh_state.ensures, en, eb) (sym (ap (λ (o : Opened). o.machine) p.gives)))
