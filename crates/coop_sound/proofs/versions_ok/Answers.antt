use Rattle.std.proofs.Common.{arith, ◌∙◌, ◌*◌, ap, sym}
use Rattle.pool.proofs.Part.{rest}
use Rattle.coop_spec.specs.Sound.{sound_version}
use Rattle.coop_sound.proofs.Laws.{versions_on, versions_no, versions_end}
use Rattle.coop_sound.proofs.versions_ok.Goals as goal

pub returns-then-not-version_ok : goal.returns-then-not-version_ok
returns-then-not-version_ok c =
    let w = c.args.vs.now in
    let k = c.loop-k.k in
    λ y ks.
    let fails = ap (sound_version y) (sym (rest w (66 * k))) ∙ sym (c.if-not-version_ok.ensures y ks) in
    sym (c.loop-k.invariant y ks ∙ versions_no y w c.args.n k (omega arith) fails)

pub loop-k-preserved : goal.loop-k-preserved
loop-k-preserved c =
    let w = c.args.vs.now in
    let k = c.loop-k.k in
    λ y ks.
    let holds = ap (sound_version y) (sym (rest w (66 * k))) ∙ sym (c.if-not-version_ok.ensures y ks) in
    c.loop-k.invariant y ks ∙ versions_on y w c.args.n k (omega arith) holds

pub returns : goal.returns
returns c = λ y ks. sym (c.loop-k.invariant y ks ∙ versions_end y c.args.vs.now c.args.n c.loop-k.k (omega arith))
