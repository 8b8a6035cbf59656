-- Laws of the grammar that the proofs of the functions cite. Assumes nothing.
use Rattle.std.specs.Prelude.{None}
use mathlib.Core.Path.{◌≡◌, refl, sym, ap, ◌∙◌}
use mathlib.Core.Bool.{cond}
use mathlib.Core.List.{List, []}
use Prim.Native.Nat.{ℕ, ◌<◌, ◌≤◌}
use native.Mathlib.Omega.{arith}
use borrow.Author.Tests.{eq-eqb, ne_eqb}
use lib.Dec.{eqb}
use lib.ListN.{length, get_or, take}
use lib.Pointwise.{pointwise}
use Rattle.std.proofs.lemmas.List.Recursion.{is_position_or_len}
use Rattle.std.proofs.lemmas.List.Sums.{position_or_len_is}
use Rattle.session.specs.Keys.{step_key, start_key}
use Rattle.session_keys.proofs.Laws.{starts_stripped}
use Rattle.session.specs.Grammar.{starts_with, equals, comma_position, parse_call}

-- what the library's `strip_prefix` says of the two keys
pub step_stripped : (s : List ℕ) → pointwise eqb (take 5 s) step_key ≡ starts_with step_key s
step_stripped s = starts_stripped step_key s

pub start_stripped : (s : List ℕ) → pointwise eqb (take 6 s) start_key ≡ starts_with start_key s
start_stripped s = starts_stripped start_key s

pub ruleset event_keys = (step_stripped, start_stripped)

-- what the library's `position` says, in the grammar's word
pub comma_library : (s : List ℕ) (r : ℕ) → r ≤ length s → ((k : ℕ) → k < r → (get_or s k 0 ≡ 44 → ⊥)) → (r < length s → get_or s r 0 ≡ 44)
    → r ≡ comma_position s
unfolding comma_position
comma_library s r h before here =
    let p = λ (x : ℕ). eqb x 44 in
    sym
    (is_position_or_len comma_position p refl (λ x xs. ap (cond (eqb x 44) 0) (omega arith)) s
    ∙ position_or_len_is p s r 0 h (λ k l. ne_eqb _ _ (before k l)) (λ l. eq-eqb _ _ (here l)))

pub call_none : (k : ℕ) → parse_call k [] ≡ None
unfolding parse_call equals starts_with
call_none k = refl
