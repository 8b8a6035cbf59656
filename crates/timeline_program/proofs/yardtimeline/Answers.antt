-- `timeline_program::yardtimeline` meets its contract: its pools are 64 nodes and 200 buckets of zeros. Assumes nothing.
use Rattle.std.proofs.Common.{true}
use Rattle.stdio.specs.Runs.{prints_as, exits_kept}
use Rattle.timeline_program.specs.Running.{timeline_transcript, over_zeros}
use Rattle.timeline_program.proofs.yardtimeline.Goals as goal

pub returns : goal.returns
returns g c =
    let t = c.text-t in
    let zeros = over_zeros _ _ c.node_words-ns.ensures.1 c.bucket_words-bs.ensures.1 in
    record {
      room = _;
      input = t.result.input;
      text = _;
      prints = prints_as _ timeline_transcript zeros true _ _ _ t.ensures.prints;
      exits = exits_kept _ _ _ c.exit.ensures;
    }
