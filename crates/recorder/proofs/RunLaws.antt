-- Laws of a run: how it begins, and its status. Assumes nothing.
use mathlib.Core.Path.{◌≡◌, refl, sym, ap, subst, ◌∙◌}
use mathlib.Core.List.{List}
use mathlib.Core.Bool.{true}
use Prim.Native.Nat.{ℕ}
use lib.IntN.{ℤ, pos}
use Rattle.session_state.specs.Handling.{new_session}
use Rattle.session_lines.specs.KnownMemory.{Known}
use Rattle.stdio.specs.declared.input.Input.{Input}
use Rattle.stdio.specs.declared.output.Outcome.{Outcome}
use Rattle.stdio.specs.Inputs.{leaves_out}
use Rattle.stdio.specs.Outcomes.{status_number, outcome_with, Ends}
use Rattle.stdio.specs.Runs.{Prints}
use Rattle.recorder_lines.specs.KeptLines.{no_lines}
use Rattle.recorder.specs.declared.Recorder.{Recorder}
use Rattle.recording.specs.Recorder.{recorder_output}
use Rattle.recorder.specs.LentRecorder.{new_recorder, lent}
use Rattle.recorder.specs.Runs.{Knows, RanRecorder}

pub new_known : (r : Recorder) (ns bs : List ℕ) → r ≡ new_recorder → Knows (lent r ns bs)
unfolding new_recorder new_session Known no_lines
new_known r ns bs e = subst (λ (x : Recorder). Knows (lent x ns bs)) (sym e) (refl, refl)

-- the text is written, and the status goes by what it says
pub ran_recorder : (room text : List ℕ) (p : Input) (o o' : Outcome) (status : ℤ) → Prints recorder_output true room p text → Ends p text o
    → o' ≡ outcome_with (leaves_out p) o → status ≡ pos (status_number o') → RanRecorder status
ran_recorder room text p o o' status prints ends e f =
    record {
      said = pos (status_number o);
      ran = record { room = room; input = p; text = text; prints = prints; exits = record { outcome = o; ends = ends; gives = refl } };
      gives = f ∙ ap (λ (x : Outcome). pos (status_number x)) e;
    }
