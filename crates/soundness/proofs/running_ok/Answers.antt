use Rattle.std.proofs.Common.{◌≡◌, ◌≤◌, ◌<◌, ◌&&◌, sym, ◌∙◌}
use borrow.Author.Tests.{le-ltb, lt-ltb}
use Rattle.sound_records.proofs.Joined.{and_then, and_else}
use Rattle.spec.specs.Sound.{bucket_link, sound_running, task_below_T, line_of_call, i_in_bounds, resize_without_tag, task_nodes_sound}
use Rattle.soundness.proofs.running_ok.Goals as goal
use Rattle.soundness.proofs.running_ok.Goals.{then-k-t, else-k-t, then-line_ok, else-line_ok, then-c-le-PLACES, else-c-le-PLACES, then-tag_ok, else-tag_ok}

pub returns-then-links_ok : goal.returns-then-links_ok
unfolding sound_running bucket_link
returns-then-links_ok c = λ y e t h b.
    let k = c.args.k in
    let x = c.args.c in
    let v1 : c.if-k-t.value ≡ (task_below_T y k && line_of_call x) = elim c.if-k-t.branch [
      | then-k-t w ↦ let below : k < y.state.config.tasks = rw t w.if-k-t.true in and_then (lt-ltb _ _ below) (w.value-is ∙ w.line_ok.ensures)
      | else-k-t w ↦ let past : y.state.config.tasks ≤ k = rw t w.if-k-t.false in and_else _ (le-ltb _ _ past) (w.value-is ∙ le-ltb _ _ w.if-k-t.false)
    ] in
    let v2 : c.if-line_ok.value ≡ (task_below_T y k && line_of_call x && i_in_bounds x) = elim c.if-line_ok.branch [
      | then-line_ok w ↦ and_then (sym v1 ∙ w.if-line_ok.true) w.value-is
      | else-line_ok w ↦ and_else _ (sym v1 ∙ w.if-line_ok.false) (w.value-is ∙ w.if-line_ok.false)
    ] in
    let v3 : c.if-c-le-PLACES.value ≡ (task_below_T y k && line_of_call x && i_in_bounds x && resize_without_tag x) = elim c.if-c-le-PLACES.branch [
      | then-c-le-PLACES w ↦ and_then (sym v2 ∙ w.if-c-le-PLACES.true) (w.value-is ∙ w.tag_ok.ensures)
      | else-c-le-PLACES w ↦ and_else _ (sym v2 ∙ w.if-c-le-PLACES.false) (w.value-is ∙ w.if-c-le-PLACES.false)
    ] in
    let v4 : c.if-tag_ok.value ≡ (task_below_T y k && line_of_call x && i_in_bounds x && resize_without_tag x && task_nodes_sound y x) = elim c.if-tag_ok.branch [
      | then-tag_ok w ↦ and_then (sym v3 ∙ w.if-tag_ok.true) (w.value-is ∙ w.links_ok.ensures y e h)
      | else-tag_ok w ↦ and_else _ (sym v3 ∙ w.if-tag_ok.false) (w.value-is ∙ w.if-tag_ok.false)
    ] in
    and_then (sym v4 ∙ c.if-links_ok.true) (rw b c.all_within.ensures)

pub returns-else-links_ok : goal.returns-else-links_ok
unfolding sound_running bucket_link
returns-else-links_ok c = λ y e t h b.
    let k = c.args.k in
    let x = c.args.c in
    let v1 : c.if-k-t.value ≡ (task_below_T y k && line_of_call x) = elim c.if-k-t.branch [
      | then-k-t w ↦ let below : k < y.state.config.tasks = rw t w.if-k-t.true in and_then (lt-ltb _ _ below) (w.value-is ∙ w.line_ok.ensures)
      | else-k-t w ↦ let past : y.state.config.tasks ≤ k = rw t w.if-k-t.false in and_else _ (le-ltb _ _ past) (w.value-is ∙ le-ltb _ _ w.if-k-t.false)
    ] in
    let v2 : c.if-line_ok.value ≡ (task_below_T y k && line_of_call x && i_in_bounds x) = elim c.if-line_ok.branch [
      | then-line_ok w ↦ and_then (sym v1 ∙ w.if-line_ok.true) w.value-is
      | else-line_ok w ↦ and_else _ (sym v1 ∙ w.if-line_ok.false) (w.value-is ∙ w.if-line_ok.false)
    ] in
    let v3 : c.if-c-le-PLACES.value ≡ (task_below_T y k && line_of_call x && i_in_bounds x && resize_without_tag x) = elim c.if-c-le-PLACES.branch [
      | then-c-le-PLACES w ↦ and_then (sym v2 ∙ w.if-c-le-PLACES.true) (w.value-is ∙ w.tag_ok.ensures)
      | else-c-le-PLACES w ↦ and_else _ (sym v2 ∙ w.if-c-le-PLACES.false) (w.value-is ∙ w.if-c-le-PLACES.false)
    ] in
    let v4 : c.if-tag_ok.value ≡ (task_below_T y k && line_of_call x && i_in_bounds x && resize_without_tag x && task_nodes_sound y x) = elim c.if-tag_ok.branch [
      | then-tag_ok w ↦ and_then (sym v3 ∙ w.if-tag_ok.true) (w.value-is ∙ w.links_ok.ensures y e h)
      | else-tag_ok w ↦ and_else _ (sym v3 ∙ w.if-tag_ok.false) (w.value-is ∙ w.if-tag_ok.false)
    ] in
    and_else _ (sym v4 ∙ c.if-links_ok.false) c.if-links_ok.false
