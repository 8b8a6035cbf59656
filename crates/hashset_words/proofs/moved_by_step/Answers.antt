-- Spoilt memory is refused with 8, and sound words are those of the state made of them.
use Rattle.std.proofs.Common.{refl, sym, ap, ◌∙◌, not, arith}
use Rattle.spec.specs.declared.Refusal.TheVariants.{Spoilt}
use Rattle.spec.specs.Machine.{machine_of}
use Rattle.lines.proofs.Giving.{refusing}
use Rattle.checked_start.proofs.Laws.{step_spoilt}
use Rattle.soundness.proofs.Laws.{told_is_some}
use Rattle.state_words.specs.StateWords.{state_of_words}
use Rattle.state_words.specs.RoundTrip.{fits_long}
use Rattle.hashset_words.proofs.moved_by_step.Goals as goal

pub bounds-w-5 : goal.bounds-w-5
bounds-w-5 c = let long = fits_long c.args.w.now c.requires in omega arith

pub bounds-w-6 : goal.bounds-w-6
bounds-w-6 c = let long = fits_long c.args.w.now c.requires in omega arith

pub bounds-w-7 : goal.bounds-w-7
bounds-w-7 c = let long = fits_long c.args.w.now c.requires in omega arith

pub returns-then-is_none : goal.returns-then-is_none
unfolding state_of_words
returns-then-is_none c =
    let a = c.args in
    let y = machine_of (state_of_words a.w.now) a.ns.now a.bs.now in
    let no = sym (told_is_some _ _ c.check-d.ensures) ∙ c.is_none.ensures ∙ ap not c.if-is_none.true in
    refusing Spoilt (c.refused.ensures (state_of_words a.w.now) refl refl refl) (step_spoilt y a.k no)

pub state_of_words-s-requires : goal.state_of_words-s-requires
state_of_words-s-requires c =
    let a = c.args in
    let ok = sym (told_is_some _ _ c.check-d.ensures) ∙ c.is_none.ensures ∙ ap not c.if-is_none.false in
    (fits_long a.w.now c.requires, (a.ns.now, a.bs.now, ok))
