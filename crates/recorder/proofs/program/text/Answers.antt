-- `recorder::program::text` meets its contract: a recorder is a program that prints as it goes, and what it writes is the recording. Assumes nothing.
use Rattle.std.proofs.Common.{sym, ap, ◌∙◌}
use Rattle.session.specs.Grammar.{input_lines}
use Rattle.stdio.specs.Runs.{prints_as}
use Rattle.recording.specs.Recorder.{recorder_output}
use Rattle.recorder.specs.declared.Recorder.{Recorder}
use Rattle.recorder.specs.LentRecorder.{lent, recorded_from}
use Rattle.recorder.specs.WritesRecording.{writes_recording}
use Rattle.recorder.proofs.RunLaws.{new_known}
use Rattle.recorder.proofs.program.text.Goals as goal

pub text-requires : goal.text-requires
text-requires g c = record { known = new_known _ c.args.ns.now c.args.bs.now c.new_recorder-begin.ensures; room = c.requires.2 }

pub returns : goal.returns
returns g c =
    let a = c.args in
    let begun = sym c.new_recorder-begin.ensures in record {
      prints =
          prints_as _ recorder_output
          (λ xs. writes_recording a.ns.now a.bs.now c.requires.0 c.requires.1 xs
          ∙ ap (λ (r : Recorder). recorded_from (lent r a.ns.now a.bs.now) (input_lines xs)) begun)
          _ _ _ _ c.text.ensures.prints;
      len_in_bounds = c.text.ensures.len_in_bounds;
    }
