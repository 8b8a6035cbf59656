-- What is left to test is `sound_versions` of the words from version k on.
use Rattle.std.proofs.Common.{◌≡◌, ◌-◌, ◌*◌, drop}
use Rattle.coop_spec.specs.Machine.{Machine}
use Rattle.coop_spec.specs.Sound.{sound_versions}
use Rattle.coop_sound.specs.Kinds.{Kinds}
use Rattle.coop_sound.proofs.versions_ok.Given as goal

abbrev pub invariant-loop-k : goal.invariant-loop-k
invariant-loop-k l = (y : Machine) → Kinds y l.kinds → sound_versions y l.n l.vs ≡ sound_versions y (l.n - l.k) (drop (66 * l.k) l.vs)
