-- What a step of sound memory leaves, with what was kept before it put back, is what there was before it: `step_undone`. Where nothing is
-- written, putting back changes nothing: `nothing_undone`. Assumes nothing.
use Rattle.std.specs.Prelude.{ℕ, ◌≡◌, true}
use Rattle.spec.specs.declared.Task.{Task}
use Rattle.spec.specs.Machine.{Machine, task_of}
use Rattle.spec.specs.Sound.{node_count, bucket_count, sound}
use Rattle.spec.specs.Entries.{step}
use Rattle.laws.specs.Soundness.{sound_facts}
use Rattle.undo.specs.Undo.{written_node, written_bucket, kept_of, nodes_back, buckets_back}
use Rattle.undo.specs.SameBut.{same_all, node_back, bucket_back}
use Rattle.undo.specs.StepWrites.{step_beside}

pub step_undone : (y : Machine) (k : ℕ) → sound y ≡ true
    → (nodes_back (kept_of y (task_of y k)) (step y k).machine.nodes ≡ y.nodes)
    × (buckets_back (kept_of y (task_of y k)) (step y k).machine.buckets ≡ y.buckets)
unfolding kept_of nodes_back buckets_back
step_undone y k e =
    let f = sound_facts y e in
    let b = step_beside y k e in (
      node_back (written_node y (task_of y k)) (node_count y) y.nodes _ f.nodes_length b.nodes,
      bucket_back (written_bucket y (task_of y k)) (bucket_count y) y.buckets _ f.buckets_length b.buckets,
    )

pub nothing_undone : (y : Machine) (c : Task) → sound y ≡ true
    → (nodes_back (kept_of y c) y.nodes ≡ y.nodes) × (buckets_back (kept_of y c) y.buckets ≡ y.buckets)
unfolding kept_of nodes_back buckets_back
nothing_undone y c e =
    let f = sound_facts y e in (
      node_back (written_node y c) (node_count y) y.nodes _ f.nodes_length (same_all _ _ _),
      bucket_back (written_bucket y c) (bucket_count y) y.buckets _ f.buckets_length (same_all _ _ _),
    )
