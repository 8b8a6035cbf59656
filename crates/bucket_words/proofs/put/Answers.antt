use Rattle.bucket_words.proofs.Pad.{put_bucket}
use Rattle.bucket_words.proofs.put.Goals as goal

-- the tags before the position, the tag, and the tags after it are the list with the tag added, padded with zeros
pub returns : goal.returns
returns c =
    let a = c.args in
    let r = c.requires in
    put_bucket 1 a.n a.p a.w.now r.0 r.1 c.copied-out.result c.copied.result a.tag r.2 r.3 r.4 r.5 c.copied-out.ensures c.copied.ensures
