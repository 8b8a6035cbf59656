use Rattle.std.proofs.Common.{ap, sym, ◌∙◌, ℕ, arith}
use Rattle.spec.specs.Machine.{machine_of}
use Rattle.spec.specs.Words.{number}
use Rattle.held.proofs.Taking.{number_or_0}
use Rattle.undo.proofs.Laws.{bucket_at_49, bucket_at_36, bucket_at_52, bucket_else}
use Rattle.undo.proofs.written_bucket.Goals as goal

pub returns-in-49 : goal.returns-in-49
returns-in-49 c bs =
    let a = c.args in
    c.unwrap_or.ensures ∙ number_or_0 c.free_bucket_of.result ∙ ap (λ (l : ℕ). number l) (c.free_bucket_of.ensures bs) ∙ sym (bucket_at_49 (machine_of a.s a.ns.now bs) a.c c.in-49.is)

pub returns-in-36 : goal.returns-in-36
returns-in-36 c bs =
    let a = c.args in
    c.number_of.ensures ∙ sym (bucket_at_36 (machine_of a.s a.ns.now bs) a.c c.in-36.is)

pub returns-in-52 : goal.returns-in-52
returns-in-52 c bs =
    let a = c.args in
    c.number_of-in-52.ensures ∙ sym (bucket_at_52 (machine_of a.s a.ns.now bs) a.c c.in-52.is)

pub returns-in_default : goal.returns-in_default
returns-in_default c bs =
    let a = c.args in
    let y = machine_of a.s a.ns.now bs in
    c.number_of-in_default.ensures
    ∙ sym (bucket_else y a.c (λ e. omega (arith, c.in_default)) (λ e. omega (arith, c.in_default)) (λ e. omega (arith, c.in_default)))
