use Rattle.std.proofs.Common.{sym}
use Rattle.sound_records.proofs.Joined.{node_places}
use Rattle.sound_records.proofs.places_ok.Goals as goal

pub returns-then-all_within : goal.returns-then-all_within
returns-then-all_within c =
    let a = c.args in
    rw (node_places a.b a.n a.w.now c.requires.1, sym c.all_within.ensures, c.if-all_within.true) c.zero_words.ensures

pub returns-else-all_within : goal.returns-else-all_within
returns-else-all_within c =
    let a = c.args in
    rw (node_places a.b a.n a.w.now c.requires.1, sym c.all_within.ensures, c.if-all_within.false)
