use Rattle.std.proofs.Common.{rules, ◌≡◌, ◌*◌, arith, length}
use borrow.Author.Tests.{lt-ltb, le-ltb}
use Rattle.pool_writes.specs.Writes.{store_record}
use Rattle.pool_writes.proofs.Part.{mid_over}
use Rattle.pool_writes.proofs.put_record.Goals as goal

pub returns-then-k-pool : goal.returns-then-k-pool
unfolding store_record
returns-then-k-pool g c =
    let at = g.row.W * c.args.k in
    let len : length c.args.words.now ≡ g.row.W = search rules in
    rw (lt-ltb _ _ c.if-k-pool.true) (mid_over c.args.pool.now c.args.words.now _ at _ c.copy_from_slice.ensures.after (omega (arith, len)))

pub returns-else-k-pool : goal.returns-else-k-pool
unfolding store_record
returns-else-k-pool g c = rw (le-ltb _ _ c.if-k-pool.false)
