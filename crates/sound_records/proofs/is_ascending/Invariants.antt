use Rattle.std.proofs.Common.{◌≡◌, ◌+◌, ◌-◌, ◌≤◌, drop}
use Rattle.sound_records.proofs.Counts.{falls}
use Rattle.sound_records.proofs.is_ascending.Given as goal

-- the neighbours passed that do not ascend, and those to come, are as many as all
abbrev pub invariant-loop-i : goal.invariant-loop-i
invariant-loop-i l = (l.bad ≤ l.i) × (l.bad + falls (drop (l.i - 1) l.s) ≡ falls l.s)
