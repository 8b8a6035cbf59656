-- A game's input as a reader of lines (Readers of stdio) has it, `game_takes` and `game_outside`; after a refusal whatever follows gives the same answer,
-- `game_decides`. The answer is short: `answer_short`. What is printed for an input in memory is its answer: `game_exact`. Assumes nothing.
use Rattle.std.specs.Prelude.{ℕ, ◌≤◌, ◌≡◌, refl, List, [], ◌∷◌, Bool, true, false, not, eqb, length, take, if◌then◌else◌}
use Rattle.std.proofs.Math.Path.{sym}
use Rattle.std.proofs.Common.{ap, subst, ◌∙◌, arith}
use Rattle.std.proofs.lemmas.Bool.{eqb-false, not-true}
use Rattle.session.specs.Buffer.{buffer, append}
use Rattle.session.specs.Grammar.{InputLine, closed_line, open_line, input_lines, admissible}
use Rattle.session.specs.OutputLengths.{refusal_length}
use Rattle.session.specs.Print.{refusal_line}
use Rattle.partial_line.specs.PartialLines.{line_bytes}
use Rattle.stdio.specs.declared.input.Input.{Input}
use Rattle.stdio.specs.Inputs.{cut_off}
use Rattle.stdio.specs.Readers.{TakesLines, OutsideFixes, Countable, Follows, last_lines}
use Rattle.stdio.specs.Runs.{Prints, exact, prints_as, prints_at_end}
use Rattle.game.specs.declared.LanesMove.TheVariants.{StepTask0, StepTask1, LanesPass}
use Rattle.game.specs.declared.Verdict.{Verdict}
use Rattle.game.specs.declared.Verdict.TheVariants.{LanesWin, OfficeHolds, Refused}
use Rattle.game.specs.Text.{move_word, verdict_line, game_answer}
use Rattle.std.specs.declared.option.Option.{Option}
use Rattle.std.specs.declared.option.Option.TheVariants.{Some, None}
use Rattle.game_text.specs.Reading.{new_standing, Place, place, on_line, asked_at_end, end_refusal, end_line, ends_as}
use Rattle.game_text.specs.OutsideLines.{outside_refuses, end_refuses}
use Rattle.game_text.specs.LinesAnswer.{answered, refused_answer, lines_give_answer}

abbrev pub taking : Place → List ℕ → Place
taking p l = on_line p (closed_line l)

pub game_takes : TakesLines answered taking
unfolding answered
game_takes p l ls short = refl

-- after a line outside the grammar or a refused opening. Not after a game's line: any line that follows it is outside the grammar
pub game_decides : (p : Place) → not (eqb p.standing.refused 0) ≡ true → (ls : List InputLine) → answered p ls ≡ answered p []
game_decides p d ls =
    let r = eqb-false p.standing.refused 0 (not-true _ d) in
    refused_answer p r ls ∙ sym (refused_answer p r [])

-- after a line that is too long or not closed, whatever follows
outside_answered : (p : Place) (x : InputLine) (ls : List InputLine) → admissible x ≡ false → answered p (x ∷ ls) ≡ refusal_line (end_refusal p)
unfolding answered
outside_answered p x ls out =
    let same = outside_refuses p x out in
    refused_answer (on_line p x) (λ z. end_refuses p (sym same ∙ z)) ls ∙ ap refusal_line same

pub game_outside : OutsideFixes answered
game_outside p x y ls out out' = outside_answered p x ls out ∙ sym (outside_answered p y [] out')

-- what is printed at the end, after a line that is too long or not closed, or not
pub ended_prints : (q : Input) (p : Place) → (ends_as (asked_at_end (not (cut_off q)) p.standing) p).prints ≡ answered p (last_lines q)
unfolding last_lines ends_as asked_at_end end_line answered admissible
ended_prints q p = go (cut_off q)
  where
    last : InputLine
    last = open_line (line_bytes q.line)

    go : (b : Bool) → end_line (asked_at_end (not b) p.standing) p ≡ answered p (if b then (last ∷ []) else [])
    go true = sym (outside_answered p last [] refl)
    go false = refl

-- ---- the answer is one line of at most 28 bytes

verdict_short : (v : Verdict) → length (verdict_line v) ≤ 28
unfolding verdict_line move_word
verdict_short (LanesWin StepTask0) = omega arith
verdict_short (LanesWin StepTask1) = omega arith
verdict_short (LanesWin LanesPass) = omega arith
verdict_short OfficeHolds = omega arith
verdict_short (Refused r) = refusal_length r

answer_short : (a : Option ℕ) (p : Place) → length (ends_as a p).prints ≤ 28
unfolding ends_as end_line
answer_short (Some n) p = verdict_short _
answer_short None p = refusal_length _

pub answered_short : (p : Place) (q : Input) → length (answered p (last_lines q)) ≤ 28
answered_short p q = subst (λ (w : List ℕ). length w ≤ 28) (ended_prints q p) (answer_short _ p)

-- ---- the whole input, from whatever the lent pools hold

module _ (ns bs : List ℕ) (nodes_fit : 2176 ≤ length ns) (buckets_fit : 13200 ≤ length bs) where
  pub whole_answer : (xs : List ℕ) → game_answer xs ≡ answered (place new_standing ns bs) (input_lines xs)
  unfolding game_answer
  whole_answer xs = sym (lines_give_answer ns bs nodes_fit buckets_fit (input_lines xs))

  pub game_prints : (reads : Bool) (input : List ℕ) (p : Input) (room : List ℕ) (s : Place) → length p.line.bytes ≡ 41 → p.left ≤ 0
      → Follows answered reads input (place new_standing ns bs) p room s → (before after : List ℕ) (n : ℕ)
      → buffer after n ≡ append (ends_as (asked_at_end (not (cut_off p)) s.standing) s).prints (buffer before 0) → 28 ≤ length before
      → Prints game_answer reads input p (take n after)
  game_prints reads input p room s line stopped f before after n e fits =
      let same = ended_prints p s in
      let short = subst (λ (w : List ℕ). length w ≤ 28) same (answer_short _ s) in
      prints_as _ game_answer whole_answer reads input p (take n after)
      (prints_at_end answered reads input _ game_outside p room s line stopped f before after n
      (e ∙ ap (λ (w : List ℕ). append w (buffer before 0)) same) (omega (arith, short, fits)))

pub game_exact : (input : List ℕ) (p : Input) (text : List ℕ) → Countable input → Prints game_answer false input p text → game_answer input ≡ text
game_exact input p text = exact game_answer input p text
