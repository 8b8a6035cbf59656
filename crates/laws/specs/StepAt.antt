-- What a step at a line of the figure tests, does and refuses, stated once for every line number n. The tests of a line are computed from
-- the lists of lines in the definitions: `tests_at 47 y c` is `through c.t ∷ through c.s ∷ uses .. ∷ []`. A step whose tests all
-- pass is accepted, and one with a test that fails is refused. Assumes nothing.
use Prim.Native.Nat.{ℕ, zero, suc, ◌+◌, ◌≤◌, ◌<◌}
use Rattle.std.specs.Prelude.{◌≡◌, refl, List, [], ◌∷◌, true, false, ◌&&◌, ◌||◌, ltb, leb, eqb, length, get_or, if◌then◌else◌}
use Rattle.std.proofs.Math.Path.{sym, ap}
use Rattle.std.proofs.Common.{◌∙◌, leb-false, le-leb, ltb-false, lt-ltb, le-ltb}
use Rattle.std.proofs.Math.Bool.{Bool, not}
use Rattle.std.proofs.lemmas.Bool.{lt-leb, not-false}
use Rattle.spec.specs.declared.Refusal.TheVariants.{NoRecord, Spoilt}
use Rattle.spec.specs.declared.Task.{Task}
use Rattle.spec.specs.Lists.{member}
use Rattle.spec.specs.Machine.{Machine}
use Rattle.spec.specs.Words.{filled}
use Rattle.spec.specs.Sound.{listed_size}
use Rattle.spec.specs.Listed.{size_of}
use Rattle.spec.specs.Held.{free_node, free_bucket}
use Rattle.spec.specs.Lines.{Effect, all_lines, find_line, effect, resized, gathered}
use Rattle.spec.specs.StepRefusals.{through_empty, past_size, overfull_36, overfull_49, overfull, unlisted_size, unsound_step, all_held}
use Rattle.spec.specs.Entries.{Reply, refuse, accept, step_running}
use Rattle.laws.specs.Tests.{tf, and_none, and_never, or_l, or_r, or_none, or_none_i}
use Rattle.laws.specs.Links.{filled_true, true_filled, false_filled}

-- ---- a test of a step

pub data Test : Type 0 where
  -- the line goes through this place, which must be filled
  through : ℕ → Test
  -- it uses this place of a node of this size
  uses : ℕ → ℕ → Test
  -- it makes a bucket of so many tags
  holds : ℕ → Test
  -- it needs this to be so, and this not to be so
  needs : Bool → Test
  bars : Bool → Test

abbrev pub fails : Test → Bool
fails (through l) = not (filled l)
fails (uses i z) = leb z i
fails (holds n) = ltb 64 n
fails (needs b) = not b
fails (bars b) = b

abbrev pub Passes : Test → Type 0
Passes (through l) = ¬ (l ≡ 0)
Passes (uses i z) = i < z
Passes (holds n) = n ≤ 64
Passes (needs b) = b ≡ true
Passes (bars b) = b ≡ false

abbrev pub Fails : Test → Type 0
Fails (through l) = l ≡ 0
Fails (uses i z) = z ≤ i
Fails (holds n) = 64 < n
Fails (needs b) = b ≡ false
Fails (bars b) = b ≡ true

failing : (x : Test) → Fails x → fails x ≡ true
failing (through l) e = rw (false_filled l e)
failing (uses i z) e = le-leb z i e
failing (holds n) e = lt-ltb 64 n e
failing (needs b) e = rw e
failing (bars b) e = e

passing : (x : Test) → Passes x → fails x ≡ false
passing (through l) e = rw (true_filled l e)
passing (uses i z) e = lt-leb z i e
passing (holds n) e = le-ltb 64 n e
passing (needs b) e = rw e
passing (bars b) e = e

passed : (x : Test) → fails x ≡ false → Passes x
passed (through l) e = filled_true l (not-false (filled l) e)
passed (uses i z) e = leb-false z i e
passed (holds n) e = ltb-false 64 n e
passed (needs b) e = not-false b e
passed (bars b) e = e

-- ---- the tests of a step

unfoldable pub some_fails : List Test → Bool
some_fails [] = false
some_fails (x ∷ xs) = fails x || some_fails xs

unfoldable pub AllPass : List Test → Type 0
AllPass [] = Unit {0}
AllPass (x ∷ []) = Passes x
AllPass (x ∷ (z ∷ zs)) = Passes x × AllPass (z ∷ zs)

pub data SomeFails : List Test → Type 0 where
  here : {x : Test} {xs : List Test} → Fails x → SomeFails (x ∷ xs)
  next : {x : Test} {xs : List Test} → SomeFails xs → SomeFails (x ∷ xs)

pub one_fails : {xs : List Test} → SomeFails xs → some_fails xs ≡ true
unfolding some_fails
one_fails (here {x} {xs} e) = or_l (fails x) (some_fails xs) (failing x e)
one_fails (next {x} {xs} e) = or_r (fails x) (some_fails xs) (one_fails e)

pub none_fails : (xs : List Test) → AllPass xs → some_fails xs ≡ false
unfolding some_fails AllPass
none_fails [] p = refl
none_fails (x ∷ []) p = or_none_i (fails x) false (passing x p) refl
none_fails (x ∷ (z ∷ zs)) p = or_none_i (fails x) _ (passing x p.0) (none_fails (z ∷ zs) p.1)

pub all_passed : (xs : List Test) → some_fails xs ≡ false → AllPass xs
unfolding some_fails AllPass
all_passed [] e = tt
all_passed (x ∷ []) e = passed x (or_none (fails x) false e).0
all_passed (x ∷ (z ∷ zs)) e = let p = or_none (fails x) (some_fails (z ∷ zs)) e in (passed x p.0, all_passed (z ∷ zs) p.1)

-- ---- a table of tests, each for some lines

pub record Row : Type 0 where
  pub on : Bool
  pub test : Test

abbrev row : Bool → Test → Row
row b x = record { on = b; test = x }

unfoldable pub chosen : List Row → List Test
chosen [] = []
chosen (r ∷ rs) = if r.on then (r.test ∷ chosen rs) else chosen rs

unfoldable pub row_fails : List Row → Bool
row_fails [] = false
row_fails (r ∷ rs) = (r.on && fails r.test) || row_fails rs

abbrev pub RowPasses : Row → Type 0
RowPasses r = r.on ≡ true → Passes r.test

-- a row's fact, and those of the rows after it
infixr 4 ◌also◌
pub data RowsPass : List Row → Type 0 where
  no_more : RowsPass []
  ◌also◌ : {r : Row} {rs : List Row} → RowPasses r → RowsPass rs → RowsPass (r ∷ rs)

-- row i of them; past the end one that asks nothing
unfoldable pub row_of : List Row → ℕ → Row
row_of rs i = get_or rs i (row false (bars false))

chosen_fails : (rs : List Row) → some_fails (chosen rs) ≡ row_fails rs
unfolding some_fails chosen row_fails
chosen_fails [] = refl
chosen_fails (r ∷ rs) = go r.on (chosen_fails rs)
  where
    go : (b : Bool) → some_fails (chosen rs) ≡ row_fails rs
        → some_fails (if b then (r.test ∷ chosen rs) else chosen rs) ≡ ((b && fails r.test) || row_fails rs)
    go true e = rw e
    go false e = e

row_passes : (rs : List Row) → row_fails rs ≡ false → (i : ℕ) → RowPasses (row_of rs i)
unfolding row_fails row_of
row_passes [] e i = λ h. absurd (tf h refl)
row_passes (r ∷ rs) e zero = λ h. passed r.test (and_none r.on (fails r.test) (or_none _ (row_fails rs) e).0 h)
row_passes (r ∷ rs) e (suc i) = row_passes rs (or_none (r.on && fails r.test) (row_fails rs) e).1 i

pass_rows : {rs : List Row} → RowsPass rs → row_fails rs ≡ false
unfolding row_fails
pass_rows no_more = refl
pass_rows (◌also◌ {r} {rs} p ps) = or_none_i _ _ (and_never r.on (fails r.test) (λ h. passing r.test (p h))) (pass_rows ps)

-- ---- the table of the figure

-- the lines that go through t, and through s
abbrev pub through_t : List ℕ
through_t = 13 ∷ 15 ∷ 17 ∷ 24 ∷ 27 ∷ 28 ∷ 33 ∷ 39 ∷ 40 ∷ 47 ∷ 49 ∷ 50 ∷ 51 ∷ []

abbrev pub through_s : List ℕ
through_s = 16 ∷ 43 ∷ 46 ∷ 47 ∷ []

-- what refuses line n with 8, in the order of the definitions
unfoldable pub refusals : ℕ → Machine → Task → List Row
refusals n y c =
    row (member n through_t) (through c.t)
    ∷ row (member n through_s) (through c.s)
    ∷ row (member n (18 ∷ 36 ∷ [])) (through c.b)
    ∷ row (member n (44 ∷ 48 ∷ 49 ∷ [])) (through c.m)
    ∷ row (member n (52 ∷ [])) (through c.n)
    ∷ row (member n (28 ∷ [])) (through c.new_node)
    ∷ row (member n (50 ∷ [])) (through c.new_bucket)
    ∷ row (member n (39 ∷ 50 ∷ 51 ∷ [])) (uses c.i (size_of y c.t))
    ∷ row (member n (46 ∷ [])) (uses c.i (size_of y c.s))
    ∷ row (member n (47 ∷ [])) (uses (c.i + size_of y c.t) (size_of y c.s))
    ∷ row (eqb n 36) (bars (overfull_36 y c))
    ∷ row (eqb n 49) (holds (length (gathered y c)))
    ∷ row (eqb n 27) (needs (listed_size (resized c.call (size_of y c.t))))
    ∷ []

-- what refuses it with 7: no record is free for it to take
unfoldable pub takings : ℕ → Machine → List Row
takings n y = row (eqb n 27) (through (free_node y)) ∷ row (eqb n 49) (through (free_bucket y)) ∷ []

unfoldable pub tests_at : ℕ → Machine → Task → List Test
tests_at n y c = chosen (refusals n y c)

unfoldable pub takes_at : ℕ → Machine → List Test
takes_at n y = chosen (takings n y)

abbrev pub effect_at : ℕ → Machine → Task → Effect
effect_at n y c = find_line n all_lines y c

-- a step of task c that makes these tests and does this, where no record is to be taken
unfoldable pub tested : List Test → Machine → ℕ → Task → Effect → Reply
tested xs y k c e = if some_fails xs then refuse Spoilt y else accept y k c.own e

-- past a test that passes the others are left
pub tested_past : (x : Test) (xs : List Test) (y : Machine) (k : ℕ) (c : Task) (e : Effect) → Passes x → tested (x ∷ xs) y k c e ≡ tested xs y k c e
unfolding tested some_fails
tested_past x xs y k c e p = let z = passing x p in rw z

-- one name for what a line's tests and its effect are computed with
unfoldable pub step_table : ℕ
unfolding AllPass chosen refusals takings tests_at takes_at find_line all_lines member
step_table = 0

-- ---- the definitions' tests are those of the table

or_assoc : (a b c : Bool) → (a || b || c) ≡ (a || (b || c))
or_assoc true b c = refl
or_assoc false b c = refl

or_false : (a : Bool) → (a || false) ≡ a
or_false true = refl
or_false false = refl

through_rows : (a b c d e f g : Bool) {q r : Bool} → q ≡ r → ((a || b || c || d || e || f || g) || q) ≡ (a || (b || (c || (d || (e || (f || (g || r)))))))
through_rows a b c d e f g {q} {r} same =
    ap (λ (s : Bool). (a || b || c || d || e || f || g) || s) same
    ∙ or_assoc (a || b || c || d || e || f) g r ∙ or_assoc (a || b || c || d || e) f _ ∙ or_assoc (a || b || c || d) e _ ∙ or_assoc (a || b || c) d _
    ∙ or_assoc (a || b) c _ ∙ or_assoc a b _

other_rows : (a b c d e f : Bool) → ((a || b || c) || ((d || e) || f)) ≡ (a || (b || (c || (d || (e || (f || false))))))
other_rows a b c d e f = rw (or_assoc d e f, or_false f) (or_assoc (a || b) c _ ∙ or_assoc a b _)

module _ (y : Machine) (c : Task) where
  unsound_rows : unsound_step y c ≡ row_fails (refusals c.line y c)
  unfolding unsound_step through_empty past_size overfull overfull_49 unlisted_size row_fails row_of refusals
  unsound_rows = through_rows (at 0) (at 1) (at 2) (at 3) (at 4) (at 5) (at 6) (other_rows (at 7) (at 8) (at 9) (at 10) (at 11) (at 12))
    where
      at : ℕ → Bool
      at i = let r = row_of (refusals c.line y c) i in r.on && fails r.test

  held_rows : all_held y c ≡ row_fails (takings c.line y)
  unfolding all_held row_fails takings
  held_rows = ap (λ (b : Bool). (eqb c.line 27 && not (filled (free_node y))) || b) (sym (or_false _))

  pub step_sound_row : unsound_step y c ≡ false → (i : ℕ) → RowPasses (row_of (refusals c.line y c) i)
  step_sound_row e = row_passes (refusals c.line y c) (sym unsound_rows ∙ e)

  pub rows_step_sound : RowsPass (refusals c.line y c) → unsound_step y c ≡ false
  rows_step_sound p = unsound_rows ∙ pass_rows p

  -- ---- a task at line n

  module _ (n : ℕ) (at : c.line ≡ n) where
    unsound_at : unsound_step y c ≡ some_fails (tests_at n y c)
    unfolding tests_at
    unsound_at = unsound_rows ∙ sym (chosen_fails (refusals c.line y c)) ∙ ap (λ (l : ℕ). some_fails (chosen (refusals l y c))) at

    held_at : all_held y c ≡ some_fails (takes_at n y)
    unfolding takes_at
    held_at = held_rows ∙ sym (chosen_fails (takings c.line y)) ∙ ap (λ (l : ℕ). some_fails (chosen (takings l y))) at

    pub does_at : effect y c ≡ effect_at n y c
    unfolding effect
    does_at = ap (λ (l : ℕ). find_line l all_lines y c) at

    -- its step is not refused with 8 exactly if its tests pass, and not with 7 exactly if there is a record for it to take
    pub sound_at : AllPass (tests_at n y c) → unsound_step y c ≡ false
    sound_at p = unsound_at ∙ none_fails (tests_at n y c) p

    pub passed_at : unsound_step y c ≡ false → AllPass (tests_at n y c)
    passed_at e = all_passed (tests_at n y c) (sym unsound_at ∙ e)

    pub taken_at : all_held y c ≡ false → AllPass (takes_at n y)
    taken_at e = all_passed (takes_at n y) (sym held_at ∙ e)

    -- what a step gives
    module _ (k : ℕ) where
      -- a line that takes no record
      pub tested_at : takes_at n y ≡ [] → step_running y k c ≡ tested (tests_at n y c) y k c (effect_at n y c)
      unfolding step_running some_fails tested
      tested_at none = let e = unsound_at in let g = held_at ∙ ap some_fails none in rw (e, g, does_at)

      pub refused_8 : SomeFails (tests_at n y c) → step_running y k c ≡ refuse Spoilt y
      unfolding step_running
      refused_8 p = let e = unsound_at ∙ one_fails p in rw e

      module _ (p : AllPass (tests_at n y c)) where
        pub refused_7 : SomeFails (takes_at n y) → step_running y k c ≡ refuse NoRecord y
        unfolding step_running
        refused_7 q = let e = sound_at p in let g = held_at ∙ one_fails q in rw (e, g)

        pub accepted : AllPass (takes_at n y) → step_running y k c ≡ accept y k c.own (effect_at n y c)
        unfolding step_running
        accepted q = let e = sound_at p in let g = held_at ∙ none_fails (takes_at n y) q in rw (e, g, does_at)
