-- A function changed at one argument, or at one pair of arguments, and one view in the place of all laws about it: where the
-- argument is the one changed the new value stands, elsewhere the old one. Assumes nothing.
use Rattle.std.specs.Prelude.{◌≡◌, refl, ℕ}
use Rattle.std.proofs.Math.Decide.{ℕ_discrete}
use Rattle.laws.specs.Tests.{At, hit, miss}

unfoldable pub pick {ℓ} : {P : Type 0} {A : Type ℓ} → Dec P → A → A → A
pick (yes p) a b = a
pick (no n) a b = b

pub both? : {P Q : Type 0} → Dec P → Dec Q → Dec (P × Q)
both? (yes p) (yes q) = yes (p, q)
both? (yes p) (no m) = no (λ pq. m pq.1)
both? (no m) q = no (λ pq. m pq.0)

pub pick_at : {P : Type 0} {A : Type 0} (d : Dec P) (v w : A) → At P v w (pick d v w)
unfolding pick
pick_at (yes p) v w = hit p refl
pick_at (no n) v w = miss n refl

abbrev pub at? : (x i y j : ℕ) → Dec ((y ≡ x) × (j ≡ i))
at? x i y j = both? (ℕ_discrete y x) (ℕ_discrete j i)

unfoldable pub upd : {A : Type 0} → (ℕ → A) → ℕ → A → ℕ → A
upd f x v y = pick (ℕ_discrete y x) v (f y)

pub upd_at : {A : Type 0} (f : ℕ → A) (x : ℕ) (v : A) (y : ℕ) → At (y ≡ x) v (f y) (upd f x v y)
unfolding upd
upd_at f x v y = pick_at (ℕ_discrete y x) v (f y)

unfoldable pub upd₂ : {A : Type 0} → (ℕ → ℕ → A) → ℕ → ℕ → A → ℕ → ℕ → A
upd₂ f x i v y j = pick (at? x i y j) v (f y j)

pub upd₂_at : {A : Type 0} (f : ℕ → ℕ → A) (x i : ℕ) (v : A) (y j : ℕ) → At ((y ≡ x) × (j ≡ i)) v (f y j) (upd₂ f x i v y j)
unfolding upd₂
upd₂_at f x i v y j = pick_at (at? x i y j) v (f y j)

pub upd_same : {A : Type 0} (f : ℕ → A) (x : ℕ) (v : A) → upd f x v x ≡ v
upd_same f x v = elim (upd_at f x v x) [ hit p e ↦ e | miss n e ↦ absurd (n refl) ]

pub upd_other : {A : Type 0} (f : ℕ → A) (x : ℕ) (v : A) (y : ℕ) → ¬ (y ≡ x) → upd f x v y ≡ f y
upd_other f x v y d = elim (upd_at f x v y) [ hit p e ↦ absurd (d p) | miss n e ↦ e ]

pub upd₂_same : {A : Type 0} (f : ℕ → ℕ → A) (x i : ℕ) (v : A) → upd₂ f x i v x i ≡ v
upd₂_same f x i v = elim (upd₂_at f x i v x i) [ hit p e ↦ e | miss n e ↦ absurd (n (refl, refl)) ]

pub upd₂_other : {A : Type 0} (f : ℕ → ℕ → A) (x i : ℕ) (v : A) (y j : ℕ) → ¬ ((y ≡ x) × (j ≡ i)) → upd₂ f x i v y j ≡ f y j
upd₂_other f x i v y j d = elim (upd₂_at f x i v y j) [ hit p e ↦ absurd (d p) | miss n e ↦ e ]
