use Rattle.std.proofs.Common.{sym, ◌∙◌}
use Rattle.spec.specs.Sound.{bucket_link, size_known, none_past_size, sound_node}
use Rattle.sound_records.proofs.Joined.{and_assoc, and_true, and-false}
use Rattle.sound_records.proofs.node_ok.Goals as goal

pub returns-then-link_ok : goal.returns-then-link_ok
unfolding sound_node bucket_link
returns-then-link_ok c =
    let w = c.args.w.now in
    λ y e h d.
    rw (sym (c.link_ok.ensures y e h) ∙ c.if-link_ok.true, and_true (size_known w), d, and_assoc (size_known w) _ (none_past_size w)) c.sized_ok.ensures

pub returns-else-link_ok : goal.returns-else-link_ok
unfolding sound_node
returns-else-link_ok c = λ y e h d. rw (sym (c.link_ok.ensures y e h) ∙ c.if-link_ok.false, and-false (size_known c.args.w.now)) c.if-link_ok.false
