-- `plan_text::print::sizes` meets its contract. Two lines appended one after the other. Assumes nothing.
use Rattle.std.proofs.Common.{rules}
use Rattle.session.specs.Keys.{nodes_key, buckets_key}
use Rattle.session.specs.Print.{key_line}
use Rattle.session_bytes.proofs.Laws.{append_2}
use Rattle.bounds.specs.EnoughRecords.{enough_nodes, enough_buckets}
use Rattle.plan_text.specs.Text.{size_lines}
use Rattle.plan_text.proofs.print.sizes.Goals as goal

pub returns : goal.returns
unfolding size_lines
returns c =
    let t = c.args.tasks in
    record {
      same = search rules;
      shows = append_2 (key_line nodes_key (enough_nodes t)) (key_line buckets_key (enough_buckets t)) _ _ _
          (rw c.from-tasks.ensures at c.key_line.ensures.shows) (rw c.from-tasks.ensures at c.key_line-2.ensures.shows);
    }
