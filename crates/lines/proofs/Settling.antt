-- What a line may change of the state, stored in it: nothing after a refusal, and after an accepted line the same over any state that
-- differs only in what the line gives. Assumes nothing.
use Rattle.std.specs.Prelude.{ltb, Ok, Err}
use mathlib.Core.Path.{◌≡◌, refl}
use mathlib.Core.List.{List}
use mathlib.Core.Bool.{true, false}
use Prim.Native.Nat.{ℕ, ◌<◌}
use native.Mathlib.Omega.{arith}
use borrow.Author.Tests.{ltb-true}
use lib.ListN.{set}
use Rattle.spec.specs.Machine.{machine_of, state_head, state_last_node, state_last_bucket, state_task}
use Rattle.spec.specs.Entries.{Reply}
use Rattle.spec.specs.declared.State.{State}
use Rattle.spec.specs.Outputs.{Output}
use Rattle.spec.specs.declared.Progress.TheVariants.{At, End}
use Rattle.spec.specs.declared.Progress.{Progress}
use Rattle.line_moves.specs.declared.Moved.{Moved}
use Rattle.lines.specs.Reply.{changes, settled, moved_reply}

-- ---- which answers change the state

pub changes_below : (o : Output) (k : ℕ) → changes o k ≡ true → k < 8
unfolding changes
changes_below (Ok (At l)) k h = ltb-true _ _ h
changes_below (Ok (End a n full)) k h = ltb-true _ _ h
changes_below (Err w) k h = absurd (let z : ◌≡◌ {A = ℕ} 0 1 = cc in omega arith)

pub changes_ok : (p : Progress) (k : ℕ) → changes (Ok p) k ≡ ltb k 8
unfolding changes
changes_ok (At l) k = refl
changes_ok (End a n full) k = refl

-- ---- the state afterwards

-- a reply of a line, as that of the state written out
module _ (s : State) (k : ℕ) (m : Moved) (ns bs : List ℕ) {r : Reply} (h : moved_reply s k m ns bs ≡ r) where
  abbrev pub changed : State
  changed = state_task (set s.task k m.task) (state_last_bucket m.last_bucket (state_last_node m.last_node (state_head m.head s)))

  pub moved_on : changes m.out k ≡ true → record { out = m.out; machine = machine_of changed ns bs } ≡ r
  unfolding settled
  moved_on e = rw e at h

  pub moved_off : changes m.out k ≡ false → record { out = m.out; machine = machine_of s ns bs } ≡ r
  unfolding settled
  moved_off e = rw e at h

-- A line that takes a record or moves the head makes its answer over the state with that change. The answer over the state before is
-- the same, since what it gives stands in the place of the change.
module _ (v : ℕ) (s : State) (k : ℕ) (m : Moved) (ns bs : List ℕ) {r : Reply} (e : changes m.out k ≡ true) where
  pub over_head : moved_reply (state_head v s) k m ns bs ≡ r → moved_reply s k m ns bs ≡ r
  unfolding settled state_head state_last_node state_last_bucket state_task
  over_head h = rw e (rw e at h)

  pub over_last_node : moved_reply (state_last_node v s) k m ns bs ≡ r → moved_reply s k m ns bs ≡ r
  unfolding settled state_head state_last_node state_last_bucket state_task
  over_last_node h = rw e (rw e at h)

  pub over_last_bucket : moved_reply (state_last_bucket v s) k m ns bs ≡ r → moved_reply s k m ns bs ≡ r
  unfolding settled state_head state_last_node state_last_bucket state_task
  over_last_bucket h = rw e (rw e at h)
