-- `mattered_text::ending::header_refusal` meets its contract. Assumes nothing.
use Rattle.mattered_text.proofs.Laws.{refused_at_opening}
use Rattle.mattered_text.proofs.ending.header_refusal.Goals as goal

pub returns : goal.returns
returns c =
    let a = c.node_extent-nodes in
    let b = c.bucket_extent-buckets in
    refused_at_opening c.args.h a.result b.result a.ensures.0 b.ensures.0 _ c.refusal.ensures
