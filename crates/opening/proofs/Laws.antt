-- Laws of an opening: its refusal decides what it gives, and an accepted one has pools that fit.
-- Assumes nothing.
use Rattle.std.specs.Prelude.{if◌then◌else◌}
use mathlib.Core.Path.{◌≡◌, refl}
use mathlib.Core.List.{List, ◌∷◌}
use mathlib.Core.Bool.{Bool, true, false, not, ◌&&◌}
use Prim.Native.Nat.{ℕ, suc, ◌-◌, ◌*◌, ◌%◌, ◌/◌, ◌<◌, ◌≤◌}
use native.Mathlib.Omega.{arith}
use borrow.Author.Tests.{eqb-true, leb-true}
use lib.Dec.{leb, eqb}
use lib.ListN.{length, replicate}
use Rattle.laws.specs.Tests.{and_left, and_right}
use Rattle.spec.specs.declared.Config.{Config}
use Rattle.spec.specs.Sound.{within, version_known}
use Rattle.spec.specs.Entries.{Opened, opening, not_opened, fresh_machine, pool_fits}
use Rattle.opening.specs.Opening.{refusal_of, first_node, first_bucket}

pub blank_nodes : (n h : ℕ) → n ≡ 34 * h → 0 < h → first_node n ≡ 1 ∷ 0 ∷ 1 ∷ replicate (34 * h - 3) 0
blank_nodes n h e z = let q : n ≡ suc (suc (suc (34 * h - 3))) = omega arith in rw q

pub blank_buckets : (n b : ℕ) → n ≡ 66 * b → 0 < b → first_bucket n ≡ 1 ∷ replicate (66 * b - 1) 0
blank_buckets n b e z = let q : n ≡ suc (66 * b - 1) = omega arith in rw q

pub record Pool (width most words : ℕ) : Type 0 where
  pub even : words % width ≡ 0
  pub some : 1 ≤ words / width
  pub few : words / width ≤ most

pub pool_of : (width most words : ℕ) → pool_fits width most words ≡ true → Pool width most words
unfolding pool_fits
pool_of width most words e =
    let a : Bool = eqb (words % width) 0 in
    let b : Bool = leb 1 (words / width) in
    let c : Bool = leb (words / width) most in
    let r : (b && c) ≡ true = and_right a (b && c) e in
    record { even = eqb-true _ _ (and_left a (b && c) e); some = leb-true _ _ (and_left b c r); few = leb-true _ _ (and_right b c r) }

-- ---- the conditions in their order: the first that fails gives the refusal

abbrev chosen : {A : Type 0} → (ℕ → A) → A → Bool → Bool → Bool → Bool → A
chosen refused opened tasks nodes buckets version =
    if not tasks then refused 1 else if not nodes then refused 2 else if not buckets then refused 3 else if not version then refused 11 else opened

first_fails : {A : Type 0} (refused : ℕ → A) (opened : A) (t n b v : Bool)
    → (chosen (λ k. k) 0 t n b v ≡ 0 → ⊥) → chosen refused opened t n b v ≡ refused (chosen (λ k. k) 0 t n b v)
first_fails refused opened false n b v d = refl
first_fails refused opened true false b v d = refl
first_fails refused opened true true false v d = refl
first_fails refused opened true true true false d = refl
first_fails refused opened true true true true d = absurd (d refl)

all_hold : (t n b v : Bool) → chosen (λ k. k) 0 t n b v ≡ 0 → (t ≡ true) × (n ≡ true) × (b ≡ true) × (v ≡ true)
all_hold false n b v e = let z : ◌≡◌ {A = ℕ} 1 0 = e in absurd (omega arith)
all_hold true false b v e = let z : ◌≡◌ {A = ℕ} 2 0 = e in absurd (omega arith)
all_hold true true false v e = let z : ◌≡◌ {A = ℕ} 3 0 = e in absurd (omega arith)
all_hold true true true false e = let z : ◌≡◌ {A = ℕ} 11 0 = e in absurd (omega arith)
all_hold true true true true e = (refl, refl, refl, refl)

whichever : {A : Type 0} (P : A → Type 0) (refused : ℕ → A) (opened : A) → ((k : ℕ) → k ≤ 11 → P (refused k)) → P opened
    → (t n b v : Bool) → P (chosen refused opened t n b v)
whichever P refused opened r o false n b v = r 1 (omega arith)
whichever P refused opened r o true false b v = r 2 (omega arith)
whichever P refused opened r o true true false v = r 3 (omega arith)
whichever P refused opened r o true true true false = r 11 (omega arith)
whichever P refused opened r o true true true true = o

module _ (g : Config) (ns bs : List ℕ) where
  abbrev T_fits : Bool
  T_fits = within 1 8 g.tasks

  abbrev H_fits : Bool
  H_fits = pool_fits 34 64 (length ns)

  abbrev B_fits : Bool
  B_fits = pool_fits 66 1024 (length bs)

  abbrev version_fits : Bool
  version_fits = version_known g

  abbrev why : ℕ
  why = refusal_of g (length ns) (length bs)

  abbrev opened : Opened
  opened = record { refusal = 0; machine = fresh_machine g (length ns / 34) (length bs / 66) }

  pub is_refused : (why ≡ 0 → ⊥) → opening g ns bs ≡ not_opened why ns bs
  unfolding opening refusal_of
  is_refused d = first_fails (λ r. not_opened r ns bs) opened T_fits H_fits B_fits version_fits d

  pub record Accepted : Type 0 where
    pub nodes_fit : Pool 34 64 (length ns)
    pub buckets_fit : Pool 66 1024 (length bs)
    pub gives : opening g ns bs ≡ opened

  pub is_accepted : why ≡ 0 → Accepted
  unfolding opening refusal_of
  is_accepted e =
      let p = all_hold T_fits H_fits B_fits version_fits e in
      record { nodes_fit = pool_of 34 64 (length ns) p.1; buckets_fit = pool_of 66 1024 (length bs) p.2; gives = rw (p.0, p.1, p.2, p.3) }

  pub refusal_small : (opening g ns bs).refusal ≤ 11
  unfolding opening not_opened
  refusal_small =
      whichever (λ (o : Opened). o.refusal ≤ 11) (λ r. not_opened r ns bs) opened (λ k h. omega arith) (omega arith) T_fits H_fits B_fits version_fits
