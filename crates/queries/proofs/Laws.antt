-- Laws of a list, a case each.
-- Assumes nothing.
use mathlib.Core.Path.{◌≡◌}
use mathlib.Core.List.{List, ◌++◌}
use mathlib.Core.Bool.{true, false}
use Prim.Native.Nat.{ℕ, ◌<◌, ◌≤◌}
use borrow.Author.Tests.{le-ltb, lt-ltb, le-leb, lt-leb}
use lib.ListN.{length, drop}
use Rattle.std.specs.Prelude.{Ok, Err}
use Rattle.spec.specs.declared.Refusal.TheVariants.{Spoilt, ShortList}
use Rattle.spec.specs.Machine.{Machine}
use Rattle.spec.specs.Sound.{sound}
use Rattle.spec.specs.Entries.{list}
use Rattle.spec.specs.Listed.{listed}

module _ (y : Machine) (w : List ℕ) where
  pub list_spoilt : sound y ≡ false → list y w ≡ record { says = Err Spoilt; words = w }
  unfolding list
  list_spoilt e = rw e

  module _ (s : sound y ≡ true) where
    pub list_over : 64 < length (listed y) → list y w ≡ record { says = Err Spoilt; words = w }
    unfolding list
    list_over h = rw (s, lt-ltb _ _ h)

    module _ (h : length (listed y) ≤ 64) where
      pub list_short : length w < 64 → list y w ≡ record { says = Err ShortList; words = w }
      unfolding list
      list_short l = rw (s, le-ltb _ _ h, lt-leb _ _ l)

      pub list_goes : 64 ≤ length w → list y w ≡ record { says = Ok (length (listed y)); words = listed y ++ drop (length (listed y)) w }
      unfolding list
      list_goes l = rw (s, le-ltb _ _ h, le-leb _ _ l)
