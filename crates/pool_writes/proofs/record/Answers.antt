use Rattle.std.proofs.Common.{◌≡◌, ◌∙◌, ◌+◌, ◌-◌, ◌*◌, arith, ap, take, drop, ℕ}
use borrow.Author.Tests.{lt-ltb, le-ltb}
use Rattle.pool_writes.specs.Writes.{record_at}
use Rattle.pool_writes.proofs.record.Goals as goal

pub returns-then-k-pool : goal.returns-then-k-pool
unfolding record_at
returns-then-k-pool g c =
    let at = g.row.W * c.args.k in
    let e : at + g.row.W - at ≡ g.row.W = omega arith in
    rw (lt-ltb _ _ c.if-k-pool.true) (c.copy_from_slice.ensures.after ∙ ap (λ (n : ℕ). take n (drop at c.args.pool.now)) e)

pub returns-else-k-pool : goal.returns-else-k-pool
unfolding record_at
returns-else-k-pool g c = rw (le-ltb _ _ c.if-k-pool.false)
