use Rattle.std.proofs.Common.{◌≡◌, List, ℕ, refl, sym, ap, ◌∙◌, arith}
use Rattle.spec.specs.declared.State.{State}
use Rattle.spec.specs.declared.Task.{Task}
use Rattle.spec.specs.declared.Answer.{Answer}
use Rattle.spec.specs.declared.Answer.TheVariants as ans
use Rattle.spec.specs.Machine.{with_buckets, machine_of}
use Rattle.spec.specs.Words.{number, count, nothing, apply}
use Rattle.spec.specs.Lines.{answers_of}
use Rattle.spec.specs.Entries.{Reply, accept, step_running}
use Rattle.bucket.specs.declared.Response.{Response}
use Rattle.bucket.specs.declared.Response.TheVariants.{Yes}
use Rattle.pool.specs.declared.buckets.Answered.{Answered}
use Rattle.pool.proofs.At.{remove_here}
use Rattle.lines.proofs.Giving.{going}
use Rattle.lines_apply.specs.Invokes.{Invokes}
use Rattle.lines_apply.proofs.Apply36.{filled, fits, Removes, loses, lacks, removes, gone_36, absent_36}
use Rattle.lines_apply.proofs.remove36.Goals as goal
use Rattle.lines_apply.proofs.remove36.Goals.{in-Yes, in_default}

-- what the bucket answers decides the call's answer
module _ (s : State) {k : ℕ} {c : Task} (ns : List ℕ) {bs : List ℕ} (v : Invokes k c bs) (other : c.call ≡ 1 → ⊥) where
  abbrev ends : List ℕ → Answer → Reply
  ends w a = accept (machine_of s ns w) k c.own (answers_of c.b nothing a)

  on-yes : {d : Response} {w : List ℕ} → Removes bs (number c.b) c.tag v.may_change d w → d ≡ Yes → ends w ans.Yes ≡ step_running (machine_of s ns bs) k c
  unfolding accept apply with_buckets
  on-yes (loses m) e = sym (gone_36 (machine_of s ns bs) k c v.line (filled v) v.may_change other m)
  on-yes (lacks m) e = let z : ◌≡◌ {A = ℕ} 0 1 = cc in absurd (omega arith)

  on-no : {d : Response} {w : List ℕ} → Removes bs (number c.b) c.tag v.may_change d w → (d ≡ Yes → ⊥) → ends w ans.No ≡ step_running (machine_of s ns bs) k c
  on-no (loses m) n = absurd (n refl)
  on-no (lacks m) n = sym (absent_36 (machine_of s ns bs) k c v.line (filled v) v.may_change other m)

pub returns : goal.returns
returns c = λ ns.
    let a = c.args in
    let v = c.requires.0 in
    let w = a.bs.now in
    let b = number a.c.b in
    let d = remove_here w b v.good (fits v) a.c.tag in
    let said = c.remove_at-d.ensures.0 ∙ d.0 in
    let stored = c.remove_at-d.ensures.1 ∙ d.1 in
    let n = ap (λ (x : Answered). x.count) said ∙ ap (λ (x : List ℕ). count x b) (sym stored) in
    let taken : Removes w b a.c.tag v.may_change c.remove_at-d.result.response c.remove_at-d.new.pool =
    rw (ap (λ (x : Answered). x.response) said, stored) (removes w b a.c.tag v.may_change) in
    going c.end_counted.ensures.1 (c.end_counted.ensures.0 ns _ n ∙ elim c.match-d.branch [
      | in-Yes w ↦ rw w.a-is (on-yes a.s ns v c.requires.1 taken w.in-Yes.is)
      | in_default w ↦ rw w.a-is (on-no a.s ns v c.requires.1 taken w.in_default.not-Yes)
    ])
