use Rattle.std.proofs.Common.{◌*◌, sym, ap, ◌∙◌, drop}
use Rattle.spec.specs.Sound.{sound_node}
use Rattle.pool.proofs.Part.{rest}
use Rattle.sound_records.proofs.Laws.{nodes_on, nodes_no, nodes_end}
use Rattle.sound_records.proofs.nodes_ok.Goals as goal

pub returns-then-not-node_ok : goal.returns-then-not-node_ok
returns-then-not-node_ok c =
    let k = c.loop-k.k in
    let a = c.args in
    let w = a.ns.now in
    λ y e h d.
    let fails = ap (sound_node y) (sym (rest w (34 * k))) ∙ sym (c.node_ok.ensures y e h d) ∙ c.if-not-node_ok.true in
    sym (c.loop-k.invariant y e h d ∙ nodes_no w a.h k c.loop-k-test.true y fails)

pub loop-k-preserved : goal.loop-k-preserved
loop-k-preserved c =
    let k = c.loop-k.k in
    let a = c.args in
    let w = a.ns.now in
    λ y e h d.
    let holds = ap (sound_node y) (sym (rest w (34 * k))) ∙ sym (c.node_ok.ensures y e h d) ∙ c.if-not-node_ok.false in
    c.loop-k.invariant y e h d ∙ nodes_on w a.h k c.loop-k-test.true y holds

pub returns : goal.returns
returns c =
    let k = c.loop-k.k in
    let a = c.args in
    λ y e h d. sym (c.loop-k.invariant y e h d ∙ nodes_end (drop (34 * k) a.ns.now) a.h k c.loop-k-test.false y)
