-- The machine in the part of the lent pools that a header names, and what a start or a step over that part gives and leaves. Assumes nothing.
use Rattle.std.specs.Prelude.{ℕ, ◌≡◌, List, ◌++◌, drop}
use Rattle.spec.specs.declared.State.{State}
use Rattle.spec.specs.Machine.{Machine, machine_of}
use Rattle.spec.specs.Entries.{Reply}
use Rattle.lines.specs.declared.Stepped.{Stepped}
use Rattle.session.specs.declared.Header.{Header}
use Rattle.session_pools.specs.PoolParts.{node_extent, bucket_extent, node_part, bucket_part}

abbrev pub part_machine : State → Header → List ℕ → List ℕ → Machine
part_machine m h ns bs = machine_of m (node_part h ns) (bucket_part h bs)

-- the reply y over the part of the pools ns and bs: what it leaves stands in the part's place, and words past it are kept
pub record Replied (y : Reply) (r : Stepped) (h : Header) (ns bs ns' bs' : List ℕ) : Type 0 where
  pub out : r.out ≡ y.out
  pub state : r.state ≡ y.machine.state
  pub nodes : ns' ≡ y.machine.nodes ++ drop (node_extent h ns) ns
  pub buckets : bs' ≡ y.machine.buckets ++ drop (bucket_extent h bs) bs
