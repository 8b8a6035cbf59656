-- A session as a reader of lines (Readers of stdio) has it, `mattered_takes` and `mattered_outside`. After a line outside the grammar, or a refused opening,
-- whatever follows gives the same answer: `mattered_decides`. What is printed for an input in memory is its answer: `mattered_exact`. Assumes nothing.
use Rattle.std.specs.Prelude.{ℕ, ◌≤◌, ◌≡◌, refl, List, [], ◌∷◌, Bool, true, false, not, ◌||◌, eqb, length, take, if◌then◌else◌}
use Rattle.std.proofs.Math.Path.{sym}
use Rattle.std.proofs.Common.{ap, ◌∙◌, arith, length-append}
use Rattle.session.specs.declared.Header.{Header}
use Rattle.session.specs.Buffer.{buffer, append}
use Rattle.session.specs.Grammar.{InputLine, closed_line, open_line, input_lines, admissible}
use Rattle.session.specs.OutputLengths.{refusal_length}
use Rattle.session.specs.Print.{decimal, key_line, refusal_line}
use Rattle.session.specs.Transcript.{session_opening}
use Rattle.session_state.specs.declared.Phase.{Phase}
use Rattle.session_state.specs.declared.Phase.TheVariants.{Due, Events, Stopped}
use Rattle.partial_line.specs.PartialLines.{line_bytes}
use Rattle.stdio.specs.declared.input.Input.{Input}
use Rattle.stdio.specs.Inputs.{cut_off}
use Rattle.stdio.specs.Readers.{TakesLines, OutsideFixes, Countable, Follows, last_lines}
use Rattle.stdio.specs.Loops.{never}
use Rattle.stdio.specs.Runs.{Prints, exact, prints_as, prints_at_end}
use Rattle.mattered.specs.declared.Verdict.{Verdict}
use Rattle.mattered.specs.declared.Verdict.TheVariants.{Place as AtPlace, NoStep, Refused}
use Rattle.mattered.specs.SessionVerdict.{verdict}
use Rattle.mattered.specs.Text.{verdict_line, mattered_answer}
use Rattle.mattered_standing.specs.declared.Standing.{Standing}
use Rattle.mattered_standing.specs.Standings.{standing, new_standing}
use Rattle.mattered_text.specs.Reading.{Place, place, on_line, said_at_end}
use Rattle.mattered_text.specs.OutsideLines.{line_outside}
use Rattle.mattered_text.specs.LinesVerdict.{after_lines, answered, outside_answered, refused_answered, stopped_answered, lines_give_verdict}

abbrev pub says : Place → List InputLine → List ℕ
says p ls = verdict_line (answered p ls)

abbrev pub taking : Place → List ℕ → Place
taking p l = on_line p (closed_line l)

pub mattered_takes : TakesLines says taking
unfolding after_lines
mattered_takes p l ls short = refl

pub mattered_outside : OutsideFixes says
mattered_outside p x y ls out out' = ap verdict_line (line_outside p x ls out ∙ sym (line_outside p y [] out'))

-- ---- where the answer is fixed

-- a line outside the grammar where the header was due, or after it; or a refused opening. Not 257 events: "15 .., after 10"
unfoldable pub phase_decides : Phase → Standing → Bool
phase_decides (Due due) t = false
phase_decides Events t = t.outside || not (eqb (session_opening t.header).refusal 0)
phase_decides Stopped t = true

abbrev pub decided : Standing → Bool
decided t = phase_decides t.phase t

verdict_decided : (q : Phase) (h : Header) (outside : Bool) (n : ℕ) (w : List ℕ) → phase_decides q (standing q h outside n) ≡ true → (ls : List InputLine)
    → answered (place (standing q h outside n) w) ls ≡ answered (place (standing q h outside n) w) []
unfolding phase_decides
verdict_decided (Due due) h outside n w d ls = never d
verdict_decided Events h true n w d ls = outside_answered h ls n w ∙ sym (outside_answered h [] n w)
verdict_decided Events h false n w d ls = refused_answered h d ls false n w ∙ sym (refused_answered h d [] false n w)
verdict_decided Stopped h outside n w d ls = stopped_answered h ls outside n w ∙ sym (stopped_answered h [] outside n w)

pub mattered_decides : (p : Place) → decided p.standing ≡ true → (ls : List InputLine) → says p ls ≡ says p []
mattered_decides p d ls =
    let t = p.standing in ap verdict_line (verdict_decided t.phase t.header t.outside t.count p.words d ls)

-- what is said at the end, after a line that is too long or not closed, or not
pub ended_says : (q : Input) (p : Place) → said_at_end (not (cut_off q)) p ≡ answered p (last_lines q)
unfolding last_lines admissible after_lines
ended_says q p = go (cut_off q)
  where
    last : InputLine
    last = open_line (line_bytes q.line)

    go : (b : Bool) → said_at_end (not b) p ≡ answered p (if b then (last ∷ []) else [])
    go true = sym (line_outside p last [] refl)
    go false = refl

-- ---- the answer is one line of at most 28 bytes

answer_short : (v : Verdict) → length (verdict_line v) ≤ 28
unfolding verdict_line refusal_line key_line
answer_short (AtPlace n) =
    let digits : length (decimal n) ≤ 20 = omega (arith, simp length-append at (refusal_length n)) in
    simp length-append (omega arith)
answer_short NoStep = omega arith
answer_short (Refused r) = refusal_length r

pub says_short : (p : Place) (q : Input) → length (says p (last_lines q)) ≤ 28
says_short p q = answer_short (answered p (last_lines q))

-- ---- the whole input, from whatever the lent words of events hold

module _ (w : List ℕ) (fit : 1024 ≤ length w) where
  pub whole_answer : (xs : List ℕ) → mattered_answer xs ≡ says (place new_standing w) (input_lines xs)
  unfolding mattered_answer verdict
  whole_answer xs = sym (ap verdict_line (lines_give_verdict w fit (input_lines xs)))

  pub mattered_prints : (reads : Bool) (input : List ℕ) (p : Input) (room : List ℕ) (s : Place) → length p.line.bytes ≡ 41 → p.left ≤ 0
      → Follows says reads input (place new_standing w) p room s → (b : Bool) → b ≡ cut_off p → (v : Verdict) → v ≡ said_at_end (not b) s
      → (before after : List ℕ) (n : ℕ) → buffer after n ≡ append (verdict_line v) (buffer before 0) → 28 ≤ length before
      → Prints mattered_answer reads input p (take n after)
  mattered_prints reads input p room s line stopped f b ends v said before after n e fits =
      let same = said ∙ ap (λ (x : Bool). said_at_end (not x) s) ends ∙ ended_says p s in
      prints_as _ mattered_answer whole_answer reads input p (take n after)
      (prints_at_end says reads input _ mattered_outside p room s line stopped f before after n
      (e ∙ ap (λ (x : Verdict). append (verdict_line x) (buffer before 0)) same) (omega (arith, answer_short (answered s (last_lines p)), fits)))

pub mattered_exact : (input : List ℕ) (p : Input) (text : List ℕ) → Countable input → Prints mattered_answer false input p text → mattered_answer input ≡ text
mattered_exact input p text = exact mattered_answer input p text
