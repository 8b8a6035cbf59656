-- Line 140 takes a version: what it holds, and that HELPFINISH returns after it has been put in. Assumes nothing.
use Rattle.std.specs.Prelude.{not, if◌then◌else◌}
use mathlib.Core.Path.{◌≡◌, refl}
use mathlib.Core.List.{List, [], ◌∷◌}
use mathlib.Core.Bool.{Bool, true, false}
use Prim.Native.Nat.{ℕ}
use lib.Dec.{ltb, eqb}
use lib.ListN.{length}
use Rattle.spec.specs.Words.{bucket_of}
use Rattle.bucket.specs.declared.Bucket.{Bucket}
use Rattle.coop_spec.specs.declared.Operation.{Operation}
use Rattle.coop_spec.specs.declared.Task.{Task}
use Rattle.coop_spec.specs.Machine.{Machine, to_line}
use Rattle.coop_spec.specs.Words.{applied, Write, install, apply, apply_all}
use Rattle.coop_spec.specs.Lines.{Effect, on, returns_true, returns}
use Rattle.coop_spec.specs.Entries.{accept}
use Rattle.coop_pool.specs.Versions.{has_room, made}

-- ---- what it holds

module _ (q : Operation) (ts : List ℕ) where
  pub no_room : false ≡ has_room q ts → ltb 64 (length (applied q ts)) ≡ true
  unfolding has_room
  no_room e = go (ltb 64 (length (applied q ts))) e
    where
      go : (b : Bool) → false ≡ not b → b ≡ true
      go true f = refl
      go false f = cc

  pub room : true ≡ has_room q ts → ltb 64 (length (applied q ts)) ≡ false
  unfolding has_room
  room e = go (ltb 64 (length (applied q ts))) e
    where
      go : (b : Bool) → true ≡ not b → b ≡ false
      go true f = cc
      go false f = refl

  pub made_words : ltb 64 (length (applied q ts)) ≡ false → (v : Bucket) → v ≡ made q ts → v.words ≡ bucket_of 0 (applied q ts)
  unfolding made
  made_words e v f = rw f (rw e refl)

-- ---- a version is put in, and HELPFINISH returns

module _ (y : Machine) (k : ℕ) (c : Task) (j : ℕ) (ks : List ℕ) where
  abbrev returning : Bool → List Write → Effect
  returning b ws =
      if b then returns_true c ws else record { next = on (to_line (if eqb c.back 106 then 95 else 120) c); writes = ws }

  pub installed_first : accept (apply (install j ks) y) k c.own (returns c []) ≡ accept y k c.own (returns c (install j ks ∷ []))
  unfolding accept apply_all returns
  installed_first = go (eqb c.back 103)
    where
      go : (b : Bool) → accept (apply (install j ks) y) k c.own (returning b []) ≡ accept y k c.own (returning b (install j ks ∷ []))
      go true = refl
      go false = refl
