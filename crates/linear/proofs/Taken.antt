-- What rests on statements of specs/Taken.antt that a must-fail edit makes false: theorems moved from there as they stood. Assumes nothing.
use Rattle.std.specs.Prelude.{ℕ, ◌<◌}
use Rattle.std.proofs.Common.{◌∙◌, arith}
use Rattle.spec.specs.Machine.{Machine, task_of}
use Rattle.laws.specs.SoundFacts.{SoundFacts}
use Rattle.laws.specs.Held.{HeldBucket, placed}
use Rattle.model.specs.PlaceState.{Filled}
use Rattle.model.specs.Heap.{Heap}
use Rattle.model.specs.Positions.{Position}
use Rattle.linear.specs.Represents.{place_word_filled, Represents, size_bound, Records}
use Rattle.linear.specs.KnownNodes.{Known}
use Rattle.linear.specs.Matches.{Matches}
use Rattle.linear.specs.Taken.{known_held}

module _ {y : Machine} {h : Heap} {position : ℕ → Position} {R : Records} (f : SoundFacts y) (rep : Represents y h
    (Known h position) R) (job : (p : ℕ) → Matches h R (position p) (task_of y p)) where
  pub placed_held : (x j : ℕ) → Known h position x → j < h.size x → Filled (h.place x j) → HeldBucket y (R.bucket x j)
  placed_held x j k b p =
      let s = size_bound f rep x k in
      placed (R.node x) j (known_held f rep job x k) (omega arith) (rep.place≡ x j k b ∙ place_word_filled (R.bucket x j) p)
