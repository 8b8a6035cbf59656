-- The refusals of the planner's input as text (paper 02, U11), of any bytes: a table of them, each with its condition, and that one
-- is printed exactly if the table has it (`plan_refused`). Assumes nothing.
use Rattle.std.specs.Prelude.{ℕ, ◌≤◌, ◌<◌, List, [], ◌∷◌, ◌++◌, not, ◌⊎◌, ◌↔◌, leb, length, get_or, Option, Some, None}
use Rattle.std.proofs.Math.Path.{◌≡◌, refl}
use Rattle.std.proofs.Common.{ap, le-leb}
use Rattle.std.proofs.Math.Bool.{true, false}
use Rattle.std.proofs.Math.Logic.{inl, inr}
use native.Mathlib.Omega.{arith}
use Rattle.std.proofs.lemmas.Bool.{not-true, not-false}
use Rattle.spec.specs.Sound.{within}
use Rattle.laws.specs.Tests.{tf, and_i, bool?, choose}
use Rattle.laws.specs.Soundness.{within_facts}
use Rattle.session.specs.Grammar.{InputLine, input_lines}
use Rattle.session.specs.Print.{key_line, refusal_line}
use Rattle.plans.specs.declared.Figures.{Figures}
use Rattle.plans.specs.Plan.{PlanReply, plan}
use Rattle.plan_laws.specs.Refusals.{VersionRight, PlanOf, other_version, longer_list, figured, plan_outcome, refused_11, refused_9}
use Rattle.plan_text.specs.declared.Due.{Due}
use Rattle.plan_text.specs.declared.Due.TheVariants.{Tasks, Version, Call}
use Rattle.plan_text.specs.declared.PlanLine.{PlanLine}
use Rattle.plan_text.specs.declared.PlanLine.TheVariants.{Tasks as SaysTasks, Version as SaysVersion, Call as SaysCall}
use Rattle.plan_text.specs.Text.{line_says, PlanInput, no_input, after_line, after_lines, figures_lines, size_lines, reply_lines, plan_lines, in_grammar}
use Rattle.plan_text.specs.Text.{plan_output, plan_transcript}
use Rattle.refusal_laws.specs.LastLine.{Outcome, refuses, prints, refused_by, begins}

-- ---- a line outside the grammar

-- after what was read until now, some line is outside the grammar where it stands: "a line outside the grammar, too long or not closed" (paper 01)
pub data LineOutside : PlanInput → List InputLine → Type 0 where
  here : {p : PlanInput} {l : InputLine} {ls : List InputLine} → line_says p.due l ≡ None → LineOutside p (l ∷ ls)
  later : {p : PlanInput} {l : InputLine} {ls : List InputLine} → LineOutside (after_line p (line_says p.due l)) ls → LineOutside p (l ∷ ls)

other : {A : Type 0} → ◌≡◌ {A = ℕ} 0 1 → A
other z = absurd (omega arith)

-- what a line leaves due: never the tasks' line, and nothing only if it is outside the grammar
not_tasks : (p : PlanInput) (x : Option PlanLine) → ¬ ((after_line p x).due ≡ Some Tasks)
unfolding after_line
not_tasks p (Some (SaysTasks n)) e = other cc
not_tasks p (Some (SaysVersion n)) e = other cc
not_tasks p (Some (SaysCall c)) e = other cc
not_tasks p None e = other cc

outside_alone : (p : PlanInput) (x : Option PlanLine) → ((after_line p x).due ≡ None) ↔ (x ≡ None)
unfolding after_line
outside_alone p (Some (SaysTasks n)) = (λ e. other cc, λ e. other cc)
outside_alone p (Some (SaysVersion n)) = (λ e. other cc, λ e. other cc)
outside_alone p (Some (SaysCall c)) = (λ e. other cc, λ e. other cc)
outside_alone p None = (λ e. refl, λ e. refl)

tasks_due : (ls : List InputLine) (p : PlanInput) → (after_lines p ls).due ≡ Some Tasks → (ls ≡ []) × (p.due ≡ Some Tasks)
unfolding after_lines
tasks_due [] p e = (refl, e)
tasks_due (l ∷ ls) p e = absurd (not_tasks p (line_says p.due l) (tasks_due ls (after_line p (line_says p.due l)) e).1)

nothing_due : (ls : List InputLine) (p : PlanInput) → (after_lines p ls).due ≡ None → (p.due ≡ None) ⊎ LineOutside p ls
unfolding after_lines
nothing_due [] p e = inl e
nothing_due (l ∷ ls) p e = elim (nothing_due ls (after_line p (line_says p.due l)) e) [
  | inl r ↦ inr (here ((outside_alone p (line_says p.due l)).0 r))
  | inr a ↦ inr (later a)
]

-- with nothing due every line is outside the grammar
stays : (ls : List InputLine) (p : PlanInput) → p.due ≡ None → (after_lines p ls).due ≡ None
unfolding after_lines after_line line_says
stays [] p e = e
stays (l ∷ ls) p e = stays ls (after_line p (line_says p.due l)) (ap (λ (d : Option Due). (after_line p (line_says d l)).due) e)

outside_due : {p : PlanInput} {ls : List InputLine} → LineOutside p ls → (after_lines p ls).due ≡ None
unfolding after_lines
outside_due (here {p = p} {l = l} {ls = ls} e) = stays ls (after_line p (line_says p.due l)) ((outside_alone p (line_says p.due l)).1 e)
outside_due (later a) = outside_due a

-- ---- what is printed

within_means : (t : ℕ) → (1 ≤ t) × (t ≤ 8) → within 1 8 t ≡ true
within_means t h = and_i (leb 1 t) (leb t 8) (le-leb 1 t h.0) (le-leb t 8 h.1)

module _ (input : List ℕ) where
  -- what the lines say
  abbrev pub said : PlanInput
  said = after_lines no_input (input_lines input)

  -- 10: some line is outside the grammar, or there is none: an empty input has no `tasks=`
  abbrev pub NoPlan : Type 0
  NoPlan = (input_lines input ≡ []) ⊎ LineOutside no_input (input_lines input)

  -- "Tasks T: 1 to 8"
  abbrev pub TasksRight : Type 0
  TasksRight = (1 ≤ said.tasks) × (said.tasks ≤ 8)

  -- in the order in which they are tested
  pub data PlanRefused (r : ℕ) : Type 0 where
    is_10 : r ≡ 10 → NoPlan → PlanRefused r
    is_1 : r ≡ 1 → ¬ NoPlan → ¬ TasksRight → PlanRefused r
    is_11 : r ≡ 11 → ¬ NoPlan → TasksRight → ¬ VersionRight said.version → PlanRefused r
    is_9 : r ≡ 9 → ¬ NoPlan → TasksRight → VersionRight said.version → 64 < length said.calls → PlanRefused r

  grammar_iff : (in_grammar said.due ≡ false) ↔ NoPlan
  unfolding in_grammar no_input after_lines
  grammar_iff = (to said.due refl, from)
    where
      to : (d : Option Due) → said.due ≡ d → in_grammar d ≡ false → NoPlan
      to (Some Tasks) q e = inl (tasks_due (input_lines input) no_input q).0
      to (Some Version) q e = absurd (tf refl e)
      to (Some Call) q e = absurd (tf refl e)
      to None q e = elim (nothing_due (input_lines input) no_input q) [ inl z ↦ other cc | inr a ↦ inr a ]

      from : NoPlan → in_grammar said.due ≡ false
      from (inl e) = ap (λ (ls : List InputLine). in_grammar (after_lines no_input ls).due) e
      from (inr a) = ap in_grammar (outside_due a)

  planned_begins : (t : ℕ) (fs : List Figures) → ¬ (get_or (size_lines t ++ figures_lines fs) 0 0 ≡ 114)
  unfolding size_lines key_line
  planned_begins t fs e = let z : ◌≡◌ {A = ℕ} 110 114 = e in omega arith

  outcome : Outcome PlanRefused (plan_transcript input)
  unfolding plan_transcript plan_output plan_lines reply_lines
  outcome = go (bool? (in_grammar said.due))
    where
      reply : ¬ NoPlan → TasksRight → {p : PlanReply} → PlanOf said.version said.calls p → Outcome PlanRefused (reply_lines said.tasks p)
      reply n t (other_version v) = refuses 11 (omega arith) (is_11 refl n t v)
      reply n t (longer_list v l) = refuses 9 (omega arith) (is_9 refl n t v l)
      reply n t figured = prints (begins _ (planned_begins said.tasks _))

      go : (in_grammar said.due ≡ true) ⊎ (in_grammar said.due ≡ false) → Outcome PlanRefused (plan_output said)
      go (inr e) = rw e (refuses 10 (omega arith) (is_10 refl (grammar_iff.0 e)))
      go (inl e) =
          let n : ¬ NoPlan = λ x. tf e (grammar_iff.1 x) in
          rw e (choose (Outcome PlanRefused) (not (within 1 8 said.tasks)) (refusal_line 1)
          (reply_lines said.tasks (plan said.version said.calls))
          (λ w. refuses 1 (omega arith) (is_1 refl n (λ t. tf (within_means said.tasks t) (not-true _ w))))
          (λ w. reply n (within_facts 1 8 said.tasks (not-false _ w)) (plan_outcome said.version said.calls)))

  -- a refusal alone is printed exactly if the table has it: so no other
  pub plan_refused : (r : ℕ) → r < 100 → (plan_transcript input ≡ refusal_line r) ↔ PlanRefused r
  unfolding plan_transcript plan_output plan_lines reply_lines
  plan_refused r b = (refused_by outcome r b, from)
    where
      inside : ¬ NoPlan → in_grammar said.due ≡ true
      inside n = elim (bool? (in_grammar said.due)) [ inl e ↦ e | inr e ↦ absurd (n (grammar_iff.0 e)) ]

      outside : ¬ TasksRight → within 1 8 said.tasks ≡ false
      outside d = elim (bool? (within 1 8 said.tasks)) [ inl e ↦ absurd (d (within_facts 1 8 said.tasks e)) | inr e ↦ e ]

      from : PlanRefused r → plan_transcript input ≡ refusal_line r
      from (is_10 e x) = rw (e, grammar_iff.1 x)
      from (is_1 e n d) = rw (e, inside n, outside d)
      from (is_11 e n t v) = rw (e, inside n, within_means said.tasks t, (refused_11 said.version said.calls).1 v)
      from (is_9 e n t v l) = rw (e, inside n, within_means said.tasks t, (refused_9 said.version said.calls).1 (v, l))
