-- A refusal's number is small enough to add 256.
use Rattle.std.proofs.Common.{arith}
use Rattle.laws.specs.RefusalNumbers.{from_1_to_14}
use Rattle.schedule_events.proofs.listing_number.Goals as goal

pub overflow_add-result : goal.overflow_add-result
overflow_add-result c = omega (arith, c.number.ensures, from_1_to_14 c.in-Err.why)
