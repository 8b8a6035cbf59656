-- What is printed for an input has at most 3,448 bytes, 56 of the two sizes and 64 lines of at most 53: `answer_bound`. Assumes nothing.
use Rattle.std.specs.Prelude.{ℕ, ◌*◌, ◌≤◌, ◌≡◌, Bool, ltb, if◌then◌else◌}
use Rattle.std.proofs.Common.{arith, ltb-false, length-append}
use Rattle.std.proofs.Math.Path.{refl}
use mathlib.Core.List.{List, [], ◌∷◌}
use Rattle.std.proofs.Math.Bool.{true, false, not}
use Rattle.std.proofs.Math.ListN.{length}
use Rattle.spec.specs.Sound.{within, version_known}
use Rattle.session.specs.Grammar.{InputLine}
use Rattle.session.specs.Print.{key_line, refusal_line}
use Rattle.session.specs.OutputLengths.{decimal_length, word_length, refusal_length}
use Rattle.bounds.specs.EnoughRecords.{enough_nodes, enough_buckets}
use Rattle.plans.specs.declared.Planned.{Planned}
use Rattle.plans.specs.declared.Figures.{Figures}
use Rattle.plans.specs.Plan.{planned, refused, opened_for, fresh, all_figures, plan, list_of}
use Rattle.planner.proofs.Stored.{figures_length}
use Rattle.plan_text.specs.declared.reading.Reading.{Reading}
use Rattle.plan_text.specs.Text.{line_says, figures_line, figures_lines, size_lines, reply_lines, plan_lines, in_grammar}
use Rattle.plan_text.specs.Reading.{add_line, answer}

line_length : (f : Figures) → length (figures_line f) ≤ 53
unfolding figures_line
line_length f = simp length-append (omega (arith, word_length f.answer, decimal_length f.own, decimal_length f.buckets))

lines_length : (fs : List Figures) → length (figures_lines fs) ≤ 53 * length fs
unfolding figures_lines
lines_length [] = omega arith
lines_length (f ∷ fs) = simp length-append (omega (arith, line_length f, lines_length fs))

sizes_length : (t : ℕ) → length (size_lines t) ≤ 56
unfolding size_lines key_line
sizes_length t = simp length-append (omega (arith, decimal_length (enough_nodes t), decimal_length (enough_buckets t)))

module _ (t version : ℕ) (cs : List Planned) where
  plan_bound : length (reply_lines t (plan version cs)) ≤ 3448
  unfolding plan reply_lines
  plan_bound = go (version_known (opened_for 1 version)) (ltb 64 (length cs)) refl
    where
      fs : List Figures
      fs = all_figures (opened_for 1 version) fresh cs

      go : (v l : Bool) → ltb 64 (length cs) ≡ l
          → length (reply_lines t (if not v then refused 11 else if l then refused 9 else planned fs)) ≤ 3448
      go false l e = omega (arith, refusal_length 11)
      go true true e = omega (arith, refusal_length 9)
      go true false e =
          simp length-append
          (omega (arith, ltb-false 64 (length cs) e, sizes_length t, lines_length fs, figures_length (opened_for 1 version) fresh cs))

  lines_bound : length (plan_lines t version cs) ≤ 3448
  unfolding plan_lines
  lines_bound = go (within 1 8 t)
    where
      go : (b : Bool) → length (if not b then refusal_line 1 else reply_lines t (plan version cs)) ≤ 3448
      go false = omega (arith, refusal_length 1)
      go true = plan_bound

pub answer_bound : (r : Reading) (ls : List InputLine) → length (answer r ls) ≤ 3448
unfolding answer
answer_bound r [] = go (in_grammar r.due)
  where
    go : (b : Bool) → length (if b then plan_lines r.tasks r.version (list_of r.calls) else refusal_line 10) ≤ 3448
    go true = lines_bound r.tasks r.version (list_of r.calls)
    go false = omega (arith, refusal_length 10)
answer_bound r (l ∷ ls) = answer_bound (add_line r (line_says r.due l)) ls
