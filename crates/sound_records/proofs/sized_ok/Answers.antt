use Rattle.std.proofs.Common.{◌≡◌, refl, Bool, true, ◌&&◌, List, ℕ, ◌+◌, ◌-◌, leb, eqb, arith, get_or, take, drop}
use mathlib.Core.Bool.{◌||◌}
use borrow.Author.Tests.{ne_eqb}
use Rattle.spec.specs.Lists.{member, every}
use Rattle.spec.specs.Sound.{listed_size, size_known, none_past_size, zeros}
use Rattle.sound_records.proofs.sized_ok.Goals as goal

-- the places of a node of one of these sizes
of_size : (w : List ℕ) (b n : ℕ) (r : Bool) → get_or w 0 0 ≡ n → (eqb n 0 || listed_size n) ≡ true
    → r ≡ (every (λ l. leb l b) (take 32 (drop 2 w)) && zeros (32 - n) (drop (2 + n) w))
    → r ≡ (size_known w && (every (λ l. leb l b) (take 32 (drop 2 w)) && none_past_size w))
of_size w b n r e known places = rw (e, known) places

pub returns-in-1 : goal.returns-in-1
unfolding listed_size member
returns-in-1 c = of_size c.args.w.now _ 1 _ c.in-1.is refl c.places_ok-in-1.ensures

pub returns-in-2 : goal.returns-in-2
unfolding listed_size member
returns-in-2 c = of_size c.args.w.now _ 2 _ c.in-2.is refl c.places_ok-in-2.ensures

pub returns-in-4 : goal.returns-in-4
unfolding listed_size member
returns-in-4 c = of_size c.args.w.now _ 4 _ c.in-4.is refl c.places_ok-in-4.ensures

pub returns-in-8 : goal.returns-in-8
unfolding listed_size member
returns-in-8 c = of_size c.args.w.now _ 8 _ c.in-8.is refl c.places_ok-in-8.ensures

pub returns-in-16 : goal.returns-in-16
unfolding listed_size member
returns-in-16 c = of_size c.args.w.now _ 16 _ c.in-16.is refl c.places_ok-in-16.ensures

pub returns-in-32 : goal.returns-in-32
unfolding listed_size member
returns-in-32 c = of_size c.args.w.now _ 32 _ c.in-32.is refl c.places_ok-in-32.ensures

pub returns-in_default : goal.returns-in_default
unfolding listed_size member
returns-in_default c =
    let z = get_or c.args.w.now 0 0 in
    rw (
      ne_eqb z 0 (λ e. omega arith),
      ne_eqb z 1 (λ e. omega arith),
      ne_eqb z 2 (λ e. omega arith),
      ne_eqb z 4 (λ e. omega arith),
      ne_eqb z 8 (λ e. omega arith),
      ne_eqb z 16 (λ e. omega arith),
      ne_eqb z 32 (λ e. omega arith),
    )
