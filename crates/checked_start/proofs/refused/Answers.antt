use Rattle.lines.specs.Reply.{refusal}
use Rattle.checked_start.proofs.refused.Goals as goal

pub returns : goal.returns
unfolding refusal
returns c = λ s at_head at_node at-bucket. rw (at_head, at_node, at-bucket, c.idle.ensures)
