-- Which operation takes effect in an event, told from the machine before and after it, and what that means in the heap. Assumes nothing.
use Rattle.std.specs.Prelude.{◌+◌, ◌-◌, ◌<◌, ◌≤◌, ℕ, ◌&&◌, ◌≡◌, refl, eqb, leb}
use Rattle.std.proofs.Math.Bool.{not}
use mathlib.Core.List.{List, ◌∷◌}
use Rattle.std.proofs.Common.{◌∙◌, sym}
use Rattle.std.proofs.Math.Path.{ap}
use native.Mathlib.Omega.{arith}
use borrow.Author.Tests.{eq-eqb, eqb-false, le-leb, leb-true, ne_eqb, not-true}
use Rattle.laws.specs.Tests.{and_i, and_left, and_right, choose, if_false, if_true}
use Rattle.coop_spec.specs.History.{claims, installs}
use Rattle.coop_spec.specs.Linearizable.{In, NoneTwice}
use Rattle.coop_spec.specs.Machine.{Machine}
use Rattle.coop_spec.specs.Words.{current, op_word}
use Rattle.coop_model.specs.Heap.{Heap, nil, op}
use Rattle.coop_model.specs.HeapInvariant.{nil_not_op}

-- ---- from the words

module _ (y z : Machine) where
  -- the first word of the bucket's version before the event, and after it
  abbrev before : ℕ
  before = op_word y (current y)

  abbrev after : ℕ
  after = op_word z (current y)

  pub claims_none : ¬ ((2 ≤ after) × (¬ (after ≡ before))) → (l : List ℕ) → claims y z l ≡ l
  unfolding claims
  claims_none d l =
      choose (λ (r : List ℕ). r ≡ l) (leb 2 after && not (eqb after before)) ((after - 2) ∷ l) l
      (λ t. absurd (d (leb-true 2 after (and_left (leb 2 after) _ t), eqb-false after before (not-true (eqb after before) (and_right (leb 2 after) _ t)))))
      (λ t. refl)

  pub claims_one : (n : ℕ) → before ≡ 0 → after ≡ n + 2 → (l : List ℕ) → claims y z l ≡ n ∷ l
  unfolding claims
  claims_one n a b l =
      let q : after - 2 ≡ n = omega arith in
      if_true (leb 2 after && not (eqb after before)) ((after - 2) ∷ l) l
      (and_i _ _ (le-leb 2 after (omega arith)) (rw (ne_eqb after before (omega arith))))
      ∙ ap (λ (x : ℕ). x ∷ l) q

  pub installs_none : current y ≡ current z → (l : List ℕ) → installs y z l ≡ l
  unfolding installs
  installs_none e l = if_true (eqb (current y) (current z)) l _ (eq-eqb (current y) (current z) e)

  pub installs_one : (m : ℕ) → ¬ (current y ≡ current z) → op_word y (current y) ≡ m + 2 → (l : List ℕ) → installs y z l ≡ m ∷ l
  unfolding installs
  installs_one m d e l =
      let q : op_word y (current y) - 2 ≡ m = omega arith in
      if_false (eqb (current y) (current z)) l ((op_word y (current y) - 2) ∷ l) (ne_eqb (current y) (current z) d) ∙ ap (λ (x : ℕ). x ∷ l) q

-- ---- and in the heap

pub data Claims (y z : Machine) (h g : Heap) : Type 0 where
  no_claim : ((l : List ℕ) → claims y z l ≡ l) → Claims y z h g
  a_claim : (n : ℕ) → ((l : List ℕ) → claims y z l ≡ n ∷ l) → h.op_at h.current ≡ nil → g.op_at h.current ≡ op n → Claims y z h g

pub data Installs (y z : Machine) (h g : Heap) : Type 0 where
  no_install : ((l : List ℕ) → installs y z l ≡ l) → Installs y z h g
  an_install : (m : ℕ) → ((l : List ℕ) → installs y z l ≡ m ∷ l) → h.op_at h.current ≡ op m → h.current < g.current → Installs y z h g

pub record Effects (y z : Machine) (h g : Heap) : Type 0 where
  pub op_stays : (v m : ℕ) → h.op_at v ≡ op m → g.op_at v ≡ op m
  pub grows : h.current ≤ g.current
  pub claimed : Claims y z h g
  pub installed : Installs y z h g

-- an event after which the bucket has the same version and this one the same first word
pub no_effects : {y z : Machine} {h g : Heap} → ((v m : ℕ) → h.op_at v ≡ op m → g.op_at v ≡ op m) → h.current ≤ g.current → current y ≡ current z
    → op_word z (current y) ≡ op_word y (current y) → Effects y z h g
no_effects {y = y} {z = z} s b e f = record {
  op_stays = s;
  grows = b;
  claimed = no_claim (claims_none y z (λ q. q.1 f));
  installed = no_install (installs_none y z e);
}

-- ---- over a whole schedule: what took effect did so once

pub record Claimed (h : Heap) (l : List ℕ) : Type 0 where
  pub claimed_in : (m : ℕ) → In m l → (v : ℕ) × (h.op_at v ≡ op m)
  pub twice_none : NoneTwice l

pub record Installed (h : Heap) (l : List ℕ) : Type 0 where
  pub installed_in : (m : ℕ) → In m l → (v : ℕ) × (v < h.current) × (h.op_at v ≡ op m)
  pub twice_none : NoneTwice l

module _ {y z : Machine} {h g : Heap} (e : Effects y z h g) where
  pub claimed_next : ((v u m : ℕ) → g.op_at v ≡ op m → g.op_at u ≡ op m → v ≡ u) → (l : List ℕ) → Claimed h l → Claimed g (claims y z l)
  claimed_next one_version l c = go e.claimed
    where
      kept : Claimed g l
      kept = record { claimed_in = λ m x. let r = c.claimed_in m x in (r.0, e.op_stays r.0 m r.1); twice_none = c.twice_none }

      go : Claims y z h g → Claimed g (claims y z l)
      go (no_claim s) = rw (s l) kept
      go (a_claim n s before after) =
          rw (s l) (record {
            claimed_in = λ m x. found m x;
            twice_none = (
              λ x.
                  let r = c.claimed_in n x in
                  let q = one_version r.0 h.current n (e.op_stays r.0 n r.1) after in
                  nil_not_op before (ap h.op_at (sym q) ∙ r.1),
              c.twice_none,
            );
          })
        where
          found : (m : ℕ) → In m (n ∷ l) → (v : ℕ) × (g.op_at v ≡ op m)
          found m In.here = (h.current, after)
          found m (In.there x) = kept.claimed_in m x

  pub installed_next : ((v u m : ℕ) → h.op_at v ≡ op m → h.op_at u ≡ op m → v ≡ u) → (l : List ℕ) → Installed h l → Installed g (installs y z l)
  installed_next one_version l c = go e.installed
    where
      kept : Installed g l
      kept = record {
        installed_in = λ m x. let r = c.installed_in m x in let a = r.1 in let b = e.grows in (r.0, omega arith, e.op_stays r.0 m r.2);
        twice_none = c.twice_none;
      }

      go : Installs y z h g → Installed g (installs y z l)
      go (no_install s) = rw (s l) kept
      go (an_install m s there more) =
          rw (s l) (record {
            installed_in = λ n x. found n x;
            twice_none = (
              λ x. let r = c.installed_in m x in let a = r.1 in let q = one_version r.0 h.current m r.2 there in absurd
                  (omega arith),
              c.twice_none,
            );
          })
        where
          found : (n : ℕ) → In n (m ∷ l) → (v : ℕ) × (v < g.current) × (g.op_at v ≡ op n)
          found n In.here = (h.current, more, e.op_stays h.current m there)
          found n (In.there x) = kept.installed_in n x
