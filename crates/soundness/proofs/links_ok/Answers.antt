use Rattle.std.proofs.Common.{◌≡◌, ◌&&◌, sym, ◌∙◌, Bool, true}
use Rattle.sound_records.proofs.Joined.{and_assoc, and_true, and_then, and_else}
use Rattle.spec.specs.Lists.{every}
use Rattle.spec.specs.Sound.{node_link}
use Rattle.soundness.proofs.links_ok.Goals as goal
use Rattle.soundness.proofs.links_ok.Goals.{then-link_ok, else-link_ok}

-- the three tests as they are joined in `every`
three : (p q r : Bool) → (p && (q && (r && true))) ≡ ((p && q) && r)
three p q r = rw (and_true r, and_assoc p q r)

pub returns-then-link_ok-2 : goal.returns-then-link_ok-2
unfolding every
returns-then-link_ok-2 c = λ y e h.
    let two : c.if-link_ok.value ≡ (node_link y c.args.c.t && node_link y c.args.c.s) = elim c.if-link_ok.branch [
      | then-link_ok w ↦ and_then (sym (c.link_ok.ensures y e h) ∙ w.if-link_ok.true) (w.value-is ∙ w.link_ok-then-link_ok.ensures y e h)
      | else-link_ok w ↦ and_else _ (sym (c.link_ok.ensures y e h) ∙ w.if-link_ok.false) (w.value-is ∙ w.if-link_ok.false)
    ] in
    and_then (sym two ∙ c.if-link_ok-2.true) (c.link_ok-then-link_ok-2.ensures y e h) ∙ sym (three (node_link y c.args.c.t) (node_link y c.args.c.s) (node_link y c.args.c.new_node))

pub returns-else-link_ok-2 : goal.returns-else-link_ok-2
unfolding every
returns-else-link_ok-2 c = λ y e h.
    let two : c.if-link_ok.value ≡ (node_link y c.args.c.t && node_link y c.args.c.s) = elim c.if-link_ok.branch [
      | then-link_ok w ↦ and_then (sym (c.link_ok.ensures y e h) ∙ w.if-link_ok.true) (w.value-is ∙ w.link_ok-then-link_ok.ensures y e h)
      | else-link_ok w ↦ and_else _ (sym (c.link_ok.ensures y e h) ∙ w.if-link_ok.false) (w.value-is ∙ w.if-link_ok.false)
    ] in
    and_else (node_link y c.args.c.new_node) (sym two ∙ c.if-link_ok-2.false) c.if-link_ok-2.false ∙ sym (three (node_link y c.args.c.t) (node_link y c.args.c.s) (node_link y c.args.c.new_node))
