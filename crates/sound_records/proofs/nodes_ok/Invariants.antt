use Rattle.std.proofs.Common.{◌≡◌, ◌-◌, ◌*◌, drop}
use Rattle.spec.specs.Machine.{Machine}
use Rattle.spec.specs.Sound.{sound_nodes}
use Rattle.sound_records.proofs.nodes_ok.Given as goal

-- what is left to test is `sound_nodes` of the words from node k on
abbrev pub invariant-loop-k : goal.invariant-loop-k
invariant-loop-k l =
    (y : Machine) → y.nodes ≡ l.ns → y.state.nodes ≡ l.h → y.state.buckets ≡ l.b
    → sound_nodes y l.h l.ns ≡ sound_nodes y (l.h - l.k) (drop (34 * l.k) l.ns)
