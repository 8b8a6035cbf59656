-- What line 27 makes a node of: a listed size, if there is one.
-- Assumes nothing.
use Rattle.std.specs.Prelude.{ℕ, ◌≡◌, true, false, Option, MatchOption}
use Rattle.spec.specs.Sound.{listed_size}
use Rattle.spec.specs.Lines.{resized}

abbrev pub Sized : ℕ → ℕ → Option ℕ → Type 0
Sized call z r = MatchOption r (listed_size (resized call z) ≡ false) (λ w. (listed_size (resized call z) ≡ true) × (w ≡ resized call z))
