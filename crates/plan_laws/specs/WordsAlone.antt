-- A task alone in the words: each of its steps is accepted, since a record is always free, and is the step of the model that StepsAlone
-- counts; whether line 20 ends is said by the head's size. Assumes nothing.
use Rattle.std.specs.Prelude.{◌≡◌, ◌⊎◌, Bool, ℕ, suc, ◌+◌, min, ◌<◌, eqb, if◌then◌else◌, Option, None, Ok}
use Rattle.std.proofs.Math.Path.{refl, ap}
use Rattle.std.proofs.Common.{sym, ◌∙◌, inl, inr, arith}
use Rattle.std.proofs.Math.Bool.{true, false}
use Rattle.spec.specs.declared.Task.{Task}
use Rattle.spec.specs.declared.Answer.{Answer}
use Rattle.spec.specs.declared.Answer.TheVariants.{Limit}
use Rattle.spec.specs.declared.Config.{Config}
use Rattle.spec.specs.Outputs.{Output}
use Rattle.spec.specs.declared.Progress.TheVariants as Outs
use Rattle.spec.specs.Machine.{Machine, with_line, task_of}
use Rattle.spec.specs.Listed.{slot, size_of, head_of}
use Rattle.spec.specs.Lines.{Effect, answers, moves, at_limit, line_20, effect}
use Rattle.spec.specs.StepRefusals.{all_held}
use Rattle.spec.specs.Entries.{Reply, occupancy, finish, accept, step}
use Rattle.spec.specs.Schedule.{steps}
use Rattle.laws.specs.Tests.{tf, bool?}
use Rattle.laws.specs.Ascending.{Rising}
use Rattle.laws.specs.SoundFacts.{SoundFacts}
use Rattle.laws.specs.Soundness.{sound_facts, run_of}
use Rattle.laws.specs.StepAt.{step_table, does_at}
use Rattle.laws.specs.EntriesKeep.{StepOutcome, step_no_task, step_idle, step_unsound, step_all_held, step_accepted, step_outcome}
use Rattle.model.specs.Functions.{upd_same}
use Rattle.model.specs.Heap.{Heap}
use Rattle.model.specs.Positions.{at_20, Position, no_call, resize}
use Rattle.model.specs.Lines.{Step}
use Rattle.model.specs.Runs.{Configuration, after_step}
use Rattle.model.proofs.Steps.{own_step}
use Rattle.model.proofs.Linearization.{invariant, listed_few}
use Rattle.linear.specs.ReadLinks.{size_at, head_at}
use Rattle.linear.specs.Matches.{Matches, resize_call, line_at}
use Rattle.linear.proofs.Accepted.{accepts}
use Rattle.linear.specs.StepSimulated.{went_on, call_ended, resize_ended}
use Rattle.linear.specs.EventOutcomes.{EventOutcome, step_refused, none_free, stepped}
use Rattle.bounds.specs.RecordsSuffice.{EnoughNow}
use Rattle.bounds.proofs.RecordsSuffice.{record_free}
use Rattle.plans.specs.Plan.{Shape, head_size}
use Rattle.plan_laws.specs.Alone.{LaidOut, limited, Solo, steps_left, buckets_left, answer_then, shape_then, took}
use Rattle.plan_laws.specs.StepsAlone.{KeyOf, solo_step}
use Rattle.plan_laws.specs.EndsAlone.{TagsAs, SoloEnd, solo_end, solo_end_resize}

-- ---- a running task alone, in a set opened with g; S is the shape at its call's start, and `own` steps are made
pub record CallUnderway (g : Config) (p : ℕ) (S : Shape) (own : ℕ) (y : Machine) : Type 0 where
  pub enough_now : EnoughNow y
  pub config≡ : y.state.config ≡ g
  pub running : (task_of y p).running ≡ true
  pub own≡ : (task_of y p).own ≡ own
  pub rising : Rising S.tags
  pub tags_as : TagsAs S.tags enough_now.configuration.heap
  pub solo : Solo S enough_now.configuration.heap (enough_now.configuration.position p)

-- what its step leads to
pub data SoloOutcome (g : Config) (p : ℕ) (S : Shape) (own : ℕ) (l : Position) : Output → Configuration → Type 0 where
  on : {v : Configuration} (n : ℕ) → ¬ (v.position p ≡ no_call) → Solo S v.heap (v.position p) → TagsAs S.tags v.heap
      → steps_left g S l ≡ suc (steps_left g S (v.position p))
      → buckets_left g S l ≡ (if eqb n 50 then 1 else 0) + buckets_left g S (v.position p)
      → answer_then g S l ≡ answer_then g S (v.position p) → shape_then g S l ≡ shape_then g S (v.position p)
      → SoloOutcome g p S own l (Ok (Outs.At n)) v
  over : {v : Configuration} (a : Answer) (full : Option ℕ) → SoloEnd g S l v.heap a → SoloOutcome g p S own l (Ok (Outs.End a (suc own) full)) v

module _ (g : Config) (p : ℕ) (S : Shape) (own : ℕ) (y : Machine) (u : CallUnderway g p S own y) where
  abbrev w : Configuration
  w = u.enough_now.configuration

  facts : SoundFacts y
  facts = sound_facts y u.enough_now.sim.sound_now

  keys : KeyOf g w.heap
  keys k n = sym (u.enough_now.sim.rep.slot≡ k n) ∙ ap (λ (x : Config). slot x k n) u.config≡

  free : all_held y (task_of y p) ≡ false
  free = go (bool? (all_held y (task_of y p)))
    where
      go : (all_held y (task_of y p) ≡ true) ⊎ (all_held y (task_of y p) ≡ false) → all_held y (task_of y p) ≡ false
      go (inl e) = absurd (record_free y u.enough_now p u.running e)
      go (inr e) = e

  -- its step is accepted
  pub step_accepts : step y p ≡ accept y p (task_of y p).own (effect y (task_of y p))
  step_accepts = go (step_outcome y p u.enough_now.sim.sound_now)
    where
      go : {m : Reply} → StepOutcome y p m → m ≡ accept y p (task_of y p).own (effect y (task_of y p))
      go (step_no_task a) = let b = (run_of y facts p u.running).below_T in absurd (omega arith)
      go (step_idle a b) = absurd (tf u.running b)
      go (step_unsound a b c) =
          absurd (tf c (accepts u.enough_now.sim facts (invariant u.enough_now.reach).1 p u.running).sound_step)
      go (step_all_held a b c d) = absurd (tf d free)
      go (step_accepted a b c d) = refl

  -- ---- line 20 ends exactly if the head's size is at the limit
  abbrev limit_or_on : Bool → Output
  limit_or_on v = if v then Ok (Outs.End Limit (min ((task_of y p).own + 1) 65535) None) else Ok (Outs.At 39)

  says : (v : Bool) (d : Task)
      → (accept y p (task_of y p).own (if v then answers Limit else moves (with_line 39 d))).out ≡ limit_or_on v
  unfolding accept finish occupancy with_line
  says true d = refl
  says false d = refl

  line_20_says : (b : Bool) → w.position p ≡ resize b at_20 → (step y p).out ≡ limit_or_on (limited b S)
  unfolding step_table line_20
  line_20_says b e =
      let m : Matches w.heap u.enough_now.sim.records (resize b at_20) (task_of y p) = rw e at (u.enough_now.sim.matches p) in
      let o : LaidOut S w.heap = rw e at u.solo in
      let inv = (invariant u.enough_now.reach).1.heap in
      let rep = u.enough_now.sim.rep in
      let z : size_of y (head_of y) ≡ head_size S = size_at inv rep w.heap.head rep.head_known (head_at inv rep) ∙ o.head_as.size≡ in
      let q : at_limit (task_of y p).call (size_of y (head_of y)) ≡ limited b S =
      ap (λ (c : ℕ). at_limit c (size_of y (head_of y))) m.0.call≡ ∙ ap (at_limit (resize_call b)) z in
      ap (λ (r : Reply). r.out) step_accepts
      ∙ ap (λ (x : Effect). (accept y p (task_of y p).own x).out) (does_at y (task_of y p) 20 m.0.line≡)
      ∙ says (at_limit (task_of y p).call (size_of y (head_of y))) _ ∙ ap limit_or_on q

  goes_on : (n : ℕ) → (step y p).out ≡ Ok (Outs.At n) → (b : Bool) → w.position p ≡ resize b at_20 → limited b S ≡ false
  goes_on n q b e = go (bool? (limited b S)) (line_20_says b e)
    where
      go : (limited b S ≡ true) ⊎ (limited b S ≡ false) → (step y p).out ≡ limit_or_on (limited b S) → limited b S ≡ false
      go (inr v) z = v
      go (inl v) z = let x = z ∙ ap limit_or_on v in let c : ◌≡◌ {A = ℕ} 0 1 = cc in absurd (omega arith)

  ends_there : (a : Answer) (n : ℕ) (full : Option ℕ) → (step y p).out ≡ Ok (Outs.End a n full) → (b : Bool) → w.position p ≡ resize b at_20
      → (limited b S ≡ true) × (a ≡ Limit)
  ends_there a n full q b e = go (bool? (limited b S)) (line_20_says b e)
    where
      go : (limited b S ≡ true) ⊎ (limited b S ≡ false) → (step y p).out ≡ limit_or_on (limited b S) → (limited b S ≡ true) × (a ≡ Limit)
      go (inl v) z = let x = sym q ∙ z ∙ ap limit_or_on v in (v, cc)
      go (inr v) z = let x = z ∙ ap limit_or_on v in let c : ◌≡◌ {A = ℕ} 0 1 = cc in absurd (omega arith)

  -- ---- the outcome of its step
  module _ (small : own < 65535) where
    counted : min ((task_of y p).own + 1) 65535 ≡ suc own
    counted = let e = u.own≡ in omega arith

    -- a step that ends no set call keeps the listed tags
    tags_kept : {z : Heap} {l : Position} → Step w.heap (w.position p) z l → TagsAs S.tags z
    tags_kept line k =
        let i = invariant u.enough_now.reach in
        u.tags_as k ∙ sym ((own_step w.heap i.1.heap i.0 i.1.same (listed_few w i.0 i.1) i.1.sources_few (w.start p)
        line (i.1.task p)).0.abs≡ k)

    ended : {l : Position} {a : Answer} {v : Configuration} (full : Option ℕ) → SoloEnd g S l v.heap a
        → SoloOutcome g p S own l (Ok (Outs.End a (min ((task_of y p).own + 1) 65535) full)) v
    ended {a = a} {v = v} full s = rw counted (over {v = v} a full s)

    pub solo_outcome : {o : Output} {v : Configuration} → EventOutcome y w (steps p) o v → (step y p).out ≡ o
        → SoloOutcome g p S own (w.position p) o v
    solo_outcome (step_refused p r a other) q = absurd (tf u.running a)
    solo_outcome (none_free p a h) q = absurd (record_free y u.enough_now p a h)
    solo_outcome (stepped p lt r (went_on {n = n} z l' line) at) q =
        let at_p = upd_same w.position p l' in
        let inv = invariant u.enough_now.reach in
        let s =
        solo_step g w.heap inv.1.heap keys S inv.0 (w.start p) line (inv.1.task p) u.solo
        (λ e. at.0 (at_p ∙ e)) (goes_on n q) in
        let is : n ≡ line_at l' = at.1 ∙ ap line_at at_p in
        let took_is : took l' ≡ (if eqb n 50 then 1 else 0) = ap (λ (x : ℕ). if eqb x 50 then 1 else 0) (sym is) in
        on {v = after_step w p z l'} n at.0 (rw at_p s.solo) (tags_kept line) (rw at_p s.steps)
        (rw at_p (s.buckets ∙ ap (λ (x : ℕ). x + buckets_left g S l') took_is)) (rw at_p s.answer) (rw at_p s.shape)
    solo_outcome (stepped p lt r (call_ended {a = a} z x {full = full}) at) q =
        let i = invariant u.enough_now.reach in
        ended full
        (solo_end g w.heap i.1.heap keys S i.0 i.1.same (w.start p) u.rising u.tags_as x (i.1.task p) u.solo)
    solo_outcome (stepped p lt r (resize_ended a z line moved {full = full}) at) q =
        let i = invariant u.enough_now.reach in
        ended full
        (solo_end_resize g w.heap i.1.heap keys S line u.solo (tags_kept line)
        (ends_there a (min ((task_of y p).own + 1) 65535) full q) moved)
