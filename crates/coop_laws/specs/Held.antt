-- "It is held while the bucket or a running task names it": held as computed is held as this sentence says. Assumes nothing.
use Rattle.std.specs.Prelude.{ℕ, false, true, List, [], ◌∷◌, ◌↔◌, ◌≡◌, refl, get_or}
use Rattle.std.proofs.Math.Logic.{inl, inr}
use Rattle.std.proofs.Common.{◌∙◌, ap, sym, arith}
use Rattle.spec.specs.Lists.{member}
use Rattle.spec.specs.Words.{link}
use Rattle.laws.specs.JoinedLists.{at_join, join_at}
use Rattle.laws.specs.Lists.{member_cons, member_here, member_there, no_member}
use Rattle.laws.specs.Tests.{choose, if_true}
use Rattle.coop_spec.specs.Held.{held_versions, task_versions}
use Rattle.coop_spec.specs.Machine.{Machine, idle, task_of}
use Rattle.coop_spec.specs.declared.Task.{Task}

pub data HeldVersion (y : Machine) (k : ℕ) : Type 0 where
  by_bucket : y.state.node ≡ k → HeldVersion y k
  by_task : (p : ℕ) → (task_of y p).running ≡ true → (task_of y p).o ≡ link k → HeldVersion y k

no_idle : (k : ℕ) → member (link k) (task_versions idle) ≡ false
unfolding member task_versions idle
no_idle k = refl

-- a task's version
task_names : (k : ℕ) (c : Task) → c.running ≡ true → c.o ≡ link k → member (link k) (task_versions c) ≡ true
unfolding task_versions
task_names k c r e = ap (member (link k)) (if_true c.running (c.o ∷ []) [] r) ∙ member_here (link k) c.o [] (sym e)

names_task : (k : ℕ) (c : Task) → member (link k) (task_versions c) ≡ true → (c.running ≡ true) × (c.o ≡ link k)
unfolding task_versions
names_task k c =
    choose (λ (l : List ℕ). member (link k) l ≡ true → (c.running ≡ true) × (c.o ≡ link k)) c.running (c.o ∷ []) []
    (λ r e. (r, elim (member_cons (link k) c.o [] e) [ inl q ↦ sym q | inr q ↦ absurd (no_member (link k) q) ])) (λ r e. absurd (no_member (link k) e))

module _ (y : Machine) (k : ℕ) where
  pub held_member : HeldVersion y k → member (link k) (held_versions y) ≡ true
  unfolding held_versions task_of
  held_member (by_bucket e) = member_here (link k) (link y.state.node) _ (ap link (sym e))
  held_member (by_task p r e) =
      member_there (link k) (link y.state.node) _
      (at_join task_versions idle (link k) y.state.task (no_idle k) p (task_names k (get_or y.state.task p idle) r e))

  pub member_held : member (link k) (held_versions y) ≡ true → HeldVersion y k
  unfolding held_versions task_of
  member_held e = elim (member_cons (link k) (link y.state.node) _ e) [
    | inl q ↦ by_bucket (omega arith)
    | inr q ↦ (let j = join_at task_versions idle (link k) y.state.task q in let f = names_task k (get_or y.state.task j.0 idle)
        j.1 in by_task j.0 f.0 f.1)
  ]

  pub held_version_iff : (member (link k) (held_versions y) ≡ true) ↔ HeldVersion y k
  held_version_iff = (member_held, held_member)
