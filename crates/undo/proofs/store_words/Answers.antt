-- `undo::store_words` meets its contract: the 34 words of the node over what stood there. Assumes nothing.
use Rattle.std.proofs.Common.{rules, ◌≡◌, ◌*◌, arith, length}
use borrow.Author.Tests.{lt-ltb}
use Rattle.pool_writes.proofs.Part.{mid_over}
use Rattle.undo.specs.Undo.{store_words}
use Rattle.undo.proofs.store_words.Goals as goal

pub returns-then-k-ns : goal.returns-then-k-ns
unfolding store_words
returns-then-k-ns c =
    let len : length c.args.words ≡ 34 = search rules in
    rw (lt-ltb _ _ c.if-k-ns.true) (mid_over c.args.ns.now c.args.words _ (34 * c.args.k) _ c.copy_from_slice.ensures.after (omega (arith, len)))
