-- "how many bucket records it takes": an accepted step takes a bucket record exactly if it answers `At 50`, in any machine. So the planner's
-- figure can be read from the outputs of a run. Line by line, from spec's Lines alone. Assumes nothing.
use Rattle.std.specs.Prelude.{ℕ, ◌+◌, ◌*◌, min, ◌≡◌, ◌⊎◌, List, [], ◌∷◌, map, Bool, ◌||◌, ltb, if◌then◌else◌, Ok, Err}
use Rattle.std.proofs.Math.Path.{refl}
use Rattle.std.proofs.Common.{sym, ◌∙◌, inl, inr, eq-eqb, ne_eqb}
use Rattle.std.proofs.Math.Bool.{true, false, not}
use Rattle.std.proofs.Math.Decide.{ℕ_discrete}
use Rattle.std.proofs.Math.Dec.{eqb}
use Rattle.spec.specs.declared.Task.{Task}
use Rattle.spec.specs.declared.Answer.{Answer}
use Rattle.spec.specs.declared.Answer.TheVariants.{Yes, No, Full, Done, Lost, Limit}
use Rattle.spec.specs.Outputs.{Output}
use Rattle.spec.specs.declared.Progress.TheVariants.{At, End}
use Rattle.spec.specs.Lists.{member}
use Rattle.spec.specs.Machine.{Machine, with_line, with_i, with_t, with_s, with_b, with_m, with_n, with_new_node, with_new_bucket, without_places}
use Rattle.spec.specs.Words.{filled, Write, nothing, set_head, set_place, clear_pred, freeze, put_tags, new_node, new_bucket, apply}
use Rattle.spec.specs.Sound.{resizes}
use Rattle.spec.specs.Listed.{size_of, pred_of, place_of, place_for, tags_of, head_of}
use Rattle.spec.specs.Lines.{Next, on, ends, Effect, Line, at_limit, frozen, insert_write, answer_36, insert_36, remove_36, after_40, line_12}
use Rattle.spec.specs.Lines.{line_13, line_15, line_16}
use Rattle.spec.specs.Lines.{line_17, line_18, line_20, line_24, line_27, line_28, line_32, line_33, line_36, line_39, line_40, line_43, line_44}
use Rattle.spec.specs.Lines.{line_46, line_47, line_48, line_52, line_49, line_50, line_51, all_lines, find_line, effect}
use Rattle.spec.specs.Entries.{finish, accept}
use Rattle.laws.specs.Tests.{tf}
use Rattle.laws.specs.Lists.{member_cons}

-- ---- what is taken, what is said

abbrev pub takes_bucket : Write → Bool
takes_bucket nothing = false
takes_bucket (set_head k) = false
takes_bucket (set_place k i l) = false
takes_bucket (clear_pred k) = false
takes_bucket (freeze k) = false
takes_bucket (put_tags k ks) = false
takes_bucket (new_node k n p) = false
takes_bucket (new_bucket k ks) = true

abbrev pub says_50 : Output → Bool
says_50 (Ok (At l)) = eqb l 50
says_50 (Ok (End a own full)) = false
says_50 (Err r) = false

-- ---- line by line

abbrev goes_to_50 : Next → Bool
goes_to_50 (on c) = eqb c.line 50
goes_to_50 (ends a l) = false

abbrev Tells : Effect → Type 0
Tells e = takes_bucket e.write ≡ goes_to_50 e.next

tells_if : (b : Bool) (e g : Effect) → Tells e → Tells g → Tells (if b then e else g)
tells_if true e g p q = p
tells_if false e g p q = q

-- a line that goes to m or to n, neither of them 50
tells_either : (b : Bool) (m n : ℕ) → eqb m 50 ≡ false → eqb n 50 ≡ false → false ≡ eqb (if b then m else n) 50
tells_either true m n p q = sym p
tells_either false m n p q = sym q

insert_takes_none : (y : Machine) (c : Task) (a : Answer) → takes_bucket (insert_write y c a) ≡ false
unfolding insert_write
insert_takes_none y c Yes = refl
insert_takes_none y c No = refl
insert_takes_none y c Full = refl
insert_takes_none y c Done = refl
insert_takes_none y c Lost = refl
insert_takes_none y c Limit = refl

-- the lines with a choice
module _ (y : Machine) (c : Task) where
  tells_13 : Tells (line_13 y c)
  unfolding line_13 with_line with_b
  tells_13 = tells_either (filled (place_for y c.t c.tag)) 18 15 refl refl

  tells_15 : Tells (line_15 y c)
  unfolding line_15 with_line with_s
  tells_15 = tells_either (filled (pred_of y c.t)) 16 17 refl refl

  tells_20 : Tells (line_20 y c)
  unfolding line_20 with_line with_i with_t
  tells_20 = tells_if (at_limit c.call (size_of y (head_of y))) _ _ refl refl

  tells_28 : Tells (line_28 y c)
  unfolding line_28
  tells_28 = tells_if (eqb (head_of y) c.t) _ _ refl refl

  tells_33 : Tells (line_33 y c)
  unfolding line_33 with_line with_i with_b
  tells_33 = tells_if (filled (place_for y c.t c.tag)) _ _ refl refl

  tells_36 : Tells (line_36 y c)
  unfolding line_36 insert_36 remove_36 with_line with_i without_places
  tells_36 =
      tells_if (frozen y c.b) _ _ refl
      (tells_if (eqb c.call 1) _ _ (insert_takes_none y c (answer_36 y c)) (tells_if (member c.tag (tags_of y c.b)) _ _ refl refl))

  tells_40 : Tells (line_40 y c)
  unfolding line_40 after_40 with_line with_s
  tells_40 = go (filled c.b || not (filled (pred_of y c.t))) (eqb (size_of y c.t) (2 * size_of y (pred_of y c.t)))
    where
      go : (a b : Bool) → false ≡ eqb (if a then 51 else if b then 43 else 46) 50
      go true b = refl
      go false b = tells_either b 43 46 refl refl

  tells_50 : Tells (line_50 y c)
  unfolding line_50 with_line
  tells_50 = tells_if (filled (place_of y c.t c.i)) _ _ refl refl

  tells_51 : Tells (line_51 y c)
  unfolding line_51 with_line with_i with_b with_s with_m with_n with_new_bucket
  tells_51 = tells_if (resizes c.call) _ _ (tells_either (ltb (c.i + 1) (size_of y c.t)) 39 24 refl refl) refl

infixr 5 ◌also◌
data AllTell : List Line → Type 0 where
  none : AllTell []
  ◌also◌ : {l : Line} {ls : List Line} → ((y : Machine) (c : Task) → Tells (l.does y c)) → AllTell ls → AllTell (l ∷ ls)

all_tell : AllTell all_lines
unfolding all_lines line_12 line_16 line_17 line_18 line_24 line_27 line_32 line_39 line_43 line_44 line_46 line_47 line_48 line_52 line_49
    with_line with_t with_b with_m with_n with_new_node with_new_bucket
all_tell =
    (λ y c. refl) also tells_13 also tells_15 also (λ y c. refl) also (λ y c. refl) also (λ y c. refl)
    also tells_20 also (λ y c. refl) also (λ y c. refl) also tells_28
    also (λ y c. refl) also tells_33 also tells_36
    also (λ y c. refl) also tells_40 also (λ y c. refl) also (λ y c. refl) also (λ y c. refl) also (λ y c. refl) also (λ y c. refl)
    also (λ y c. refl) also (λ y c. refl) also tells_50 also tells_51 also none

-- line 50 is among these, or the task is not there
abbrev KnowsIf50 : ℕ → List Line → Type 0
KnowsIf50 n ls = (eqb n 50 ≡ false) ⊎ (member 50 (map (λ l. l.at) ls) ≡ true)

find_tells : (y : Machine) (c : Task) (ls : List Line) → AllTell ls → KnowsIf50 c.line ls → Tells (find_line c.line ls y c)
unfolding find_line member
find_tells y c [] none (inl m) = sym m
find_tells y c [] none (inr m) = absurd (tf m refl)
find_tells y c (l ∷ ls) (t also ts) m = go (ℕ_discrete c.line l.at) m (find_tells y c ls ts)
  where
    rest : ¬ (c.line ≡ l.at) → KnowsIf50 c.line (l ∷ ls) → KnowsIf50 c.line ls
    rest d (inl m) = inl m
    rest d (inr m) = elim (member_cons 50 l.at (map (λ l. l.at) ls) m) [
      | inl e ↦ inl (ne_eqb c.line 50 (λ q. d (q ∙ e)))
      | inr m ↦ inr m
    ]

    go : Dec (c.line ≡ l.at) → KnowsIf50 c.line (l ∷ ls) → (KnowsIf50 c.line ls → Tells (find_line c.line ls y c))
        → Tells (if eqb c.line l.at then l.does y c else find_line c.line ls y c)
    go (yes e) m ih = rw (eq-eqb c.line l.at e) (t y c)
    go (no d) m ih = rw (ne_eqb c.line l.at d) (ih (rest d m))

effect_tells : (y : Machine) (c : Task) → Tells (effect y c)
unfolding effect all_lines member
effect_tells y c = find_tells y c all_lines all_tell (inr refl)

-- ---- of an accepted step: what it takes and what it says
pub at_50_tells : (y : Machine) (p own : ℕ) (c : Task) → takes_bucket (effect y c).write ≡ says_50 (accept y p own (effect y c)).out
unfolding accept finish
at_50_tells y p own c = effect_tells y c ∙ says (effect y c).next
  where
    says : (n : Next) → goes_to_50 n ≡ says_50 (finish (apply (effect y c).write y) p (min (own + 1) 65535) n).out
    says (on c) = refl
    says (ends a l) = refl
