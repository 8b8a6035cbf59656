use Rattle.std.proofs.Common.{◌*◌, sym, ap, ◌∙◌, drop}
use Rattle.spec.specs.Sound.{sound_bucket}
use Rattle.pool.proofs.Part.{rest}
use Rattle.sound_records.proofs.Laws.{buckets_on, buckets_no, buckets_end}
use Rattle.sound_records.proofs.buckets_ok.Goals as goal

pub returns-then-not-bucket_ok : goal.returns-then-not-bucket_ok
returns-then-not-bucket_ok c =
    let k = c.loop-k.k in
    let a = c.args in
    let w = a.bs.now in
    let fails = ap sound_bucket (sym (rest w (66 * k))) ∙ sym c.bucket_ok.ensures ∙ c.if-not-bucket_ok.true in
    sym (c.loop-k.invariant ∙ buckets_no w a.n k c.loop-k-test.true fails)

pub loop-k-preserved : goal.loop-k-preserved
loop-k-preserved c =
    let k = c.loop-k.k in
    let a = c.args in
    let w = a.bs.now in
    let holds = ap sound_bucket (sym (rest w (66 * k))) ∙ sym c.bucket_ok.ensures ∙ c.if-not-bucket_ok.false in
    c.loop-k.invariant ∙ buckets_on w a.n k c.loop-k-test.true holds

pub returns : goal.returns
returns c =
    let k = c.loop-k.k in
    let a = c.args in
    sym (c.loop-k.invariant ∙ buckets_end (drop (66 * k) a.bs.now) a.n k c.loop-k-test.false)
