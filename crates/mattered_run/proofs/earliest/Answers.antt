-- `earliest` gives the opening's refusal, or 15, with no word written, or what the search finds; the last opening leaves the pools as the first
-- would have. Assumes nothing.
use Rattle.std.proofs.Common.{refl, sym, ap, ◌∙◌, ltb-true, ltb-false}
use Rattle.spec.specs.Machine.{Machine}
use Rattle.laws.specs.RefusalNumbers.{accepts, refuses, not_0}
use Rattle.mattered.specs.declared.Verdict.TheVariants.{Refused}
use Rattle.opening.specs.Opening.{opening_refusal}
use Rattle.schedule_events.specs.Events.{events_of}
use Rattle.mattered.specs.SessionVerdict.{words_after}
use Rattle.mattered_run.specs.Judged.{said_of, Judged}
use Rattle.mattered_run.proofs.Verdicts.{again_machine, words_found, verdict_refused, verdict_many, verdict_found}
use Rattle.mattered_run.proofs.earliest.Goals as goal
use Rattle.mattered_run.proofs.earliest.Goals.{After-open_again}

pub returns-in-Some : goal.returns-in-Some
unfolding words_after
returns-in-Some c =
    let a = c.args in
    let e = c.refusal.ensures ∙ sym (opening_refusal a.g a.ns.now a.bs.now) in
    record {
      answer = ap Refused (c.number.ensures ∙ refuses e c.in-Some.is) ∙ verdict_refused _ a.events.now a.n _ refl (not_0 e c.in-Some.is);
      nodes = refl;
      buckets = refl;
    }

pub returns-then-too_many : goal.returns-then-too_many
unfolding words_after
returns-then-too_many c =
    let a = c.args in
    let e = c.refusal.ensures ∙ sym (opening_refusal a.g a.ns.now a.bs.now) in
    let many = ltb-true _ _ (sym c.too_many.ensures ∙ c.if-too_many.true) in
    record { answer = verdict_many _ a.events.now a.n _ refl (accepts e c.in_default.is) many; nodes = refl; buckets = refl }

pub invariant_of-r : goal.invariant_of-r
invariant_of-r c = record { few = ltb-false _ _ (sym c.too_many.ensures ∙ c.if-too_many.false) }

pub first_step-found-requires : goal.first_step-found-requires
first_step-found-requires c =
    let a = c.args in accepts (c.refusal.ensures ∙ sym (opening_refusal a.g a.ns.now a.bs.now)) c.in_default.is

-- what the search found, over the pools as the last opening leaves them
judged : (c : After-open_again) → Judged c.args.g c.args.ns.now c.args.bs.now (events_of c.args.n c.args.events.now) (said_of c.first_step-found.result)
    c.open_again.new.ns c.open_again.new.bs
judged c =
    let a = c.args in
    let f = c.first_step-found in
    let left = c.open_again.ensures in
    let e = c.refusal.ensures ∙ sym (opening_refusal a.g a.ns.now a.bs.now) in
    let z = accepts e c.in_default.is in
    let again = again_machine a.g a.ns.now a.bs.now f.new.ns f.new.bs f.auto.ns f.auto.bs z in
    let few = ltb-false _ _ (sym c.too_many.ensures ∙ c.if-too_many.false) in
    let es = events_of a.n a.events.now in
    let v = said_of f.result in
    record {
      answer = verdict_found _ a.events.now a.n _ refl z few v f.ensures;
      nodes = left.0 ∙ ap (λ (y : Machine). y.nodes) again ∙ words_found _ es v f.ensures a.ns.now _;
      buckets = left.1 ∙ ap (λ (y : Machine). y.buckets) again ∙ words_found _ es v f.ensures a.bs.now _;
    }

pub returns-in-Some-found : goal.returns-in-Some-found
returns-in-Some-found c = let j = judged (goal.at.returns-in-Some-found c).After-open_again in rw c.in-Some-found.is at j

pub returns-in-None : goal.returns-in-None
returns-in-None c = let j = judged (goal.at.returns-in-None c).After-open_again in rw c.in-None.is at j
