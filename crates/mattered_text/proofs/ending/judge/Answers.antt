-- `mattered_text::ending::judge` meets its contract: what was done over the session's part of the pools. Assumes nothing.
use Rattle.std.proofs.Common.{ap, ◌∙◌}
use Rattle.mattered.specs.declared.Verdict.TheVariants.{Refused}
use Rattle.session.specs.Transcript.{session_opening}
use Rattle.mattered_text.proofs.Laws.{opened_outside, refused_outside, searched}
use Rattle.mattered_text.proofs.ending.judge.Goals as goal

pub returns-in-None : goal.returns-in-None
returns-in-None c =
    let a = c.args in
    opened_outside (session_opening a.h) a.outside _ c.if-outside.true c.header_refusal.ensures c.in-None.is

pub returns-in-Some : goal.returns-in-Some
returns-in-Some c =
    let a = c.args in
    ap Refused c.number.ensures
    ∙ refused_outside (session_opening a.h) a.outside _ c.if-outside.true c.header_refusal.ensures c.in-Some.why c.in-Some.is

pub returns : goal.returns
returns c =
    let x = c.args in
    let a = c.node_extent-a in
    let b = c.bucket_extent-b in
    searched x.h x.outside _ x.ns.now x.bs.now c.requires.0 c.requires.1 a.result b.result a.ensures.0 b.ensures.0
    c.if-outside.false c.earliest.result _ _ c.earliest.ensures
