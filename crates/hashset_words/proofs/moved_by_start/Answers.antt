-- the opening and the numbers are those of the state that the words are
use Rattle.std.proofs.Common.{refl, arith, sym}
use Rattle.state_words.specs.StateWords.{state_of_words}
use Rattle.state_words.specs.RoundTrip.{fits_long}
use Rattle.hashset_words.proofs.moved_by_start.Goals as goal

pub config_of-g-requires : goal.config_of-g-requires
config_of-g-requires c = fits_long c.args.w.now c.requires

pub bounds-w-5 : goal.bounds-w-5
bounds-w-5 c = let long = fits_long c.args.w.now c.requires in omega arith

pub bounds-w-6 : goal.bounds-w-6
bounds-w-6 c = let long = fits_long c.args.w.now c.requires in omega arith

pub bounds-w-7 : goal.bounds-w-7
bounds-w-7 c = let long = fits_long c.args.w.now c.requires in omega arith

pub returns : goal.returns
unfolding state_of_words
returns c =
    let a = c.args in
    c.start_of.ensures (state_of_words a.w.now) a.ns.now a.bs.now (sym c.config_of-g.ensures) refl refl refl c.check-d.ensures
