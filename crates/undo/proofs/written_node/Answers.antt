use Rattle.std.proofs.Common.{ap, sym, ◌∙◌, ℕ, arith}
use Rattle.spec.specs.Machine.{machine_of}
use Rattle.spec.specs.Words.{number}
use Rattle.held.proofs.Taking.{number_or_0}
use Rattle.undo.proofs.Laws.{node_at_27, node_else}
use Rattle.undo.proofs.written_node.Goals as goal

pub returns-in-27 : goal.returns-in-27
returns-in-27 c bs =
    let a = c.args in
    c.unwrap_or.ensures ∙ number_or_0 c.free_node_of.result ∙ ap (λ (l : ℕ). number l) (c.free_node_of.ensures bs) ∙ sym (node_at_27 (machine_of a.s a.ns.now bs) a.c c.in-27.is)

pub returns-in_default : goal.returns-in_default
returns-in_default c bs =
    let a = c.args in
    c.number_of.ensures ∙ sym (node_else (machine_of a.s a.ns.now bs) a.c (λ e. omega (arith, c.in_default)))
