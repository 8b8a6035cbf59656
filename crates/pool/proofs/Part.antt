-- Laws of a part of the pool whose first words are written over, as `pool_writes` has them.
-- Assumes nothing.
pub use Rattle.pool_writes.proofs.Part.{rest, back, back_set}
