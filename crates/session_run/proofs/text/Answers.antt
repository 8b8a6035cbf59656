-- `session_run::text` meets its contract: over 64 nodes and 200 buckets what is printed is the transcript. Assumes nothing.
use Rattle.std.proofs.Common.{sym, ap, ◌∙◌}
use Rattle.session.specs.Grammar.{input_lines}
use Rattle.session.specs.Transcript.{transcript}
use Rattle.session_state.specs.declared.Session.{Session}
use Rattle.stdio.specs.Runs.{prints_as}
use Rattle.session_run.specs.Running.{running, prints_on, prints_transcript}
use Rattle.session_run.proofs.Laws.{new_known}
use Rattle.session_run.proofs.text.Goals as goal

pub text-requires : goal.text-requires
text-requires g c =
    record { known = new_known _ c.args.ns.now c.args.bs.now c.new_session.ensures; room = c.requires.0 }

pub returns : goal.returns
returns g c =
    let a = c.args in
    let begun = sym c.new_session.ensures in record {
      prints =
          prints_as _ transcript
          (λ xs. prints_transcript a.ns.now a.bs.now c.requires.1 c.requires.2 xs
          ∙ ap (λ (s : Session). prints_on (running s a.ns.now a.bs.now) (input_lines xs)) begun)
          _ _ _ _ c.text.ensures.prints;
      len_in_bounds = c.text.ensures.len_in_bounds;
    }
