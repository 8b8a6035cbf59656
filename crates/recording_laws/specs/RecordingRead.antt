-- What a recording holds after its header is read to its end: `events_read`. The reader's machine is the recorder's at each event, since
-- both run the same events, so it waits for just the line that was recorded; and from an opening onward a list call gives a count, by
-- the crate linear. Assumes nothing.
use Rattle.std.specs.Prelude.{◌≡◌, List, ◌∷◌, ◌++◌, false, ℕ, length, replicate, Ok}
use Rattle.std.proofs.Common.{ap, ◌∙◌, arith, eq-eqb}
use Rattle.spec.specs.declared.Config.{Config}
use Rattle.spec.specs.Machine.{Machine}
use Rattle.spec.specs.Listed.{listed}
use Rattle.spec.specs.Entries.{opening, Written, list}
use Rattle.spec.specs.Schedule.{Event, Ran, run, run_opened, schedule}
use Rattle.linear.specs.Schedules.{list_written}
use Rattle.linear.proofs.Schedules.{schedule_simulated}
use Rattle.session.specs.declared.Header.{Header}
use Rattle.session.specs.Grammar.{InputLine, input_lines}
use Rattle.session.specs.Transcript.{session_opening}
use Rattle.recording_laws.specs.HeaderAgain.{Behind}
use Rattle.recording.specs.Recording.{RecordedLine}
use Rattle.recording_laws.specs.ReadToEnd.{only_compared}

-- ---- a list call gives a count, whatever events come before it

pub record AlwaysLists (y : Machine) : Type 0 where
  pub counts : (es : List Event) → (n : ℕ) × ((list (run y es).machine (replicate 64 0)).says ≡ Ok n)

module _ (g : Config) (ns bs : List ℕ) (ok : (opening g ns bs).refusal ≡ 0) where
  opened_runs : (es : List Event) → run (opening g ns bs).machine es ≡ schedule g ns bs es
  unfolding schedule run_opened
  opened_runs es = rw (eq-eqb (opening g ns bs).refusal 0 ok)

  opened_lists : AlwaysLists (opening g ns bs).machine
  opened_lists =
      record {
        counts = λ es.
            let q = list_written _ _ (schedule_simulated g ns bs ok es).0 (replicate 64 0) (omega arith) in (
              length (listed (schedule g ns bs es).machine),
              ap (λ (r : Ran). (list r.machine (replicate 64 0)).says) (opened_runs es) ∙ ap (λ (r : Written). r.says) q,
            );
      }

pub session_lists : (h : Header) → (session_opening h).refusal ≡ 0 → AlwaysLists (session_opening h).machine
unfolding session_opening
session_lists h ok = opened_lists h.config _ _ ok

-- ---- its first line: the input's, or `size=`

pub record Begins (ls : List InputLine) (rs : List RecordedLine) : Type 0 where
  pub first : RecordedLine
  pub later : List RecordedLine
  pub joined : rs ≡ first ∷ later
  pub not_compared : only_compared first.role ≡ false
  pub behind : (rest : List ℕ) → Behind ls (input_lines (first.written ++ rest))
