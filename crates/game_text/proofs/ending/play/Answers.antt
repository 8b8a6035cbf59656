-- `game_text::ending::play` meets its contract: the game over the session's part of the pools. Assumes nothing.
use Rattle.std.proofs.Common.{rules}
use Rattle.game_text.proofs.Laws.{part_played}
use Rattle.game_text.proofs.ending.play.Goals as goal

pub returns : goal.returns
returns c =
    let x = c.args in
    let a = c.node_extent-a in
    let b = c.bucket_extent-b in
    part_played x.s x.n x.ns.now x.bs.now a.result b.result a.ensures.0 b.ensures.0 c.game-v.result _ _ c.game-v.ensures _ _ _ (search rules)
