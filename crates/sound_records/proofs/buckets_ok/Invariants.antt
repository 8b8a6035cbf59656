use Rattle.std.proofs.Common.{◌≡◌, ◌-◌, ◌*◌, drop}
use Rattle.spec.specs.Sound.{sound_buckets}
use Rattle.sound_records.proofs.buckets_ok.Given as goal

-- what is left to test is `sound_buckets` of the words from bucket k on
abbrev pub invariant-loop-k : goal.invariant-loop-k
invariant-loop-k l = sound_buckets l.n l.bs ≡ sound_buckets (l.n - l.k) (drop (66 * l.k) l.bs)
