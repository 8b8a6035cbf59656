-- What a run prints, and a whole program: `Prints` of an input, on standard input or in memory; `Ran` of standard input. `f` is the paper's definition of what
-- an input gives. Assumes nothing.
use Rattle.std.specs.Prelude.{ℕ, ◌≤◌, ◌≡◌, refl, List, [], ◌++◌, Bool, true, false, ℤ, pos, length, take}
use Rattle.std.proofs.Common.{sym, ap, subst, ◌∙◌, of_z, to_z}
use Rattle.std.specs.Int.{w32}
use Rattle.session.specs.Grammar.{InputLine, input_lines}
use Rattle.session.specs.Buffer.{buffer, append}
use Rattle.session.specs.BufferLaws.{append_written, written_whole}
use Rattle.stdio.specs.declared.input.Input.{Input}
use Rattle.stdio.specs.declared.output.Outcome.{Outcome}
use Rattle.stdio.specs.declared.output.Outcome.TheVariants.{Yes, No, Refused, Failed}
use Rattle.stdio.specs.Readers.{OutsideFixes, Countable, Follows, Answers, last_lines}
use Rattle.stdio.specs.Loops.{comes_to, exact_answer}
use Rattle.stdio.specs.Outcomes.{status_number, Exits}

-- `shown` was written before the last read and `text` is to be written at the end: together they are what f gives. Over an input in memory nothing is written
-- before the end
pub record Prints (f : List ℕ → List ℕ) (reads : Bool) (input : List ℕ) (p : Input) (text : List ℕ) : Type 0 where
  pub shown : List ℕ
  pub none_shown : reads ≡ false → shown ≡ []
  pub answered : Answers f reads input p (shown ++ text)

-- a whole program over standard input. The status goes by the last line of `text`, and is 3 where a read or a write failed
pub record Ran (f : List ℕ → List ℕ) (status : ℤ) : Type 0 where
  pub room : List ℕ
  pub input : Input
  pub text : List ℕ
  pub prints : Prints f true room input text
  pub exits : Exits input text status

-- what is in memory is answered exactly
pub exact : (f : List ℕ → List ℕ) (input : List ℕ) (p : Input) (text : List ℕ) → Countable input → Prints f false input p text → f input ≡ text
exact f input p text few x =
    exact_answer f input p (x.shown ++ text) few x.answered ∙ ap (λ (w : List ℕ). w ++ text) (x.none_shown refl)

module _ (f g : List ℕ → List ℕ) (same : (xs : List ℕ) → g xs ≡ f xs) where
  pub prints_as : (reads : Bool) (input : List ℕ) (p : Input) (text : List ℕ) → Prints f reads input p text → Prints g reads input p text
  prints_as reads input p text x =
      let a = x.answered in
      record {
        shown = x.shown;
        none_shown = x.none_shown;
        answered =
            record {
              read = a.read;
              in_memory = a.in_memory;
              over = a.over;
              never_fails = a.never_fails;
              whole = λ e. same _ ∙ a.whole e;
              whatever = λ e more. same _ ∙ a.whatever e more;
            };
      }

-- ---- a program that prints nothing before its end, into a lent buffer that has room for it: `before` and `after` are what it held and holds

pub prints_at_end : {S : Type 0} (answer : S → List InputLine → List ℕ) (reads : Bool) (input : List ℕ) (s₀ : S) → OutsideFixes answer
    → (p : Input) (room : List ℕ) (s : S) → length p.line.bytes ≡ 41 → p.left ≤ 0 → Follows answer reads input s₀ p room s
    → (before after : List ℕ) (n : ℕ) → buffer after n ≡ append (answer s (last_lines p)) (buffer before 0)
    → length (answer s (last_lines p)) ≤ length before
    → Prints (λ xs. answer s₀ (input_lines xs)) reads input p (take n after)
prints_at_end answer reads input s₀ outside p room s line stopped f before after n e fits =
    let whole = written_whole _ _ _ _ (append_written _ _ _ _ e) fits in
    record {
      shown = [];
      none_shown = λ z. refl;
      answered =
          subst (λ (w : List ℕ). Answers (λ xs. answer s₀ (input_lines xs)) reads input p w) (sym whole.1)
          (comes_to answer reads input s₀ outside p room s line stopped f);
    }

-- ---- a status that is handed on is read back from its bits

pub status_kept : (o : Outcome) (z : ℤ) → z ≡ pos (status_number o) → to_z w32 (of_z w32 z) ≡ pos (status_number o)
unfolding status_number
status_kept Yes z e = rw e
status_kept No z e = rw e
status_kept Refused z e = rw e
status_kept Failed z e = rw e

pub exits_kept : (p : Input) (text : List ℕ) (status : ℤ) → Exits p text status → Exits p text (to_z w32 (of_z w32 status))
exits_kept p text status x =
    record { outcome = x.outcome; ends = x.ends; gives = status_kept x.outcome status x.gives }
