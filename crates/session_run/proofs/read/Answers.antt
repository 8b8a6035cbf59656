-- `session_run::read` meets its contract: a session is a program that prints as it goes. Assumes nothing.
use Rattle.std.proofs.Common.{◌≡◌, ap, subst}
use Rattle.session_state.specs.declared.Session.{Session}
use Rattle.session_run.specs.Running.{Running, running, begin, Reads}
use Rattle.session_run.proofs.Laws.{new_known}
use Rattle.session_run.proofs.read.Goals as goal

pub read-k-requires : goal.read-k-requires
read-k-requires g c =
    record { known = new_known _ c.args.ns.now c.args.bs.now c.new_session.ensures; room = c.requires }

pub returns : goal.returns
returns g c =
    let a = c.args in
    let k = c.read-k in
    let after = running k.result.state.session k.new.first k.new.second in
    let began : running c.new_session.result a.ns.now a.bs.now ≡ begin a.ns.now a.bs.now =
    ap (λ (s : Session). running s a.ns.now a.bs.now) c.new_session.ensures in record {
      reads =
          subst (λ (x : Running). Reads a.reads a.room.now x k.result.input k.new.room after k.result.due k.new.out) began k.ensures.streamed;
      known_in = (k.ensures.known.0, k.ensures.known.1);
    }
