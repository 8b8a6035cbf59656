-- `dispatch::uses_turn` meets its contract: all but a refusal use up the turn, and of those the lack of a record. Assumes nothing.
use Rattle.std.proofs.Common.{◌≡◌, refl, sym, ◌∙◌, eqb}
use denote.Enum.Bare.{sameb}
use Rattle.spec.specs.declared.Refusal.{Refusal}
use Rattle.spec.specs.declared.Refusal.TheVariants.{BadTasks, BadNodes, BadBuckets, NoTask, Running, Idle, NoRecord, Spoilt, ShortList, BadVersion, Withdrawn}
use Rattle.spec.specs.contracts.Refusal.{the_type}
use Rattle.spec.specs.Numbers.{refusal_number}
use Rattle.dispatch.specs.Turned.{uses_turn}
use Rattle.dispatch.proofs.TurnLaws.{used_if_accepted}
use Rattle.dispatch.proofs.uses_turn.Goals as goal

-- `==` with the lack of a record is the test of the number 7
lacks : (r : Refusal) → sameb the_type r NoRecord ≡ eqb (refusal_number r) 7
lacks BadTasks = refl
lacks BadNodes = refl
lacks BadBuckets = refl
lacks NoTask = refl
lacks Running = refl
lacks Idle = refl
lacks NoRecord = refl
lacks Spoilt = refl
lacks ShortList = refl
lacks BadVersion = refl
lacks Withdrawn = refl

pub returns-in-Ok : goal.returns-in-Ok
returns-in-Ok c = rw c.in-Ok.is (sym (used_if_accepted c.in-Ok.field-0))

pub returns-in-Err : goal.returns-in-Err
unfolding uses_turn
returns-in-Err c = rw c.in-Err.is (c.eq.ensures ∙ lacks c.in-Err.why)
