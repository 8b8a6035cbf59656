-- Laws that the proofs of the functions cite, over plain lists and numbers: what was printed, the machine in the session's part of the lent pools.
-- Assumes nothing.
use mathlib.Core.Path.{◌≡◌, refl, sym, subst}
use mathlib.Core.List.{List, []}
use Prim.Native.Nat.{ℕ}
use lib.ListN.{take}
use Rattle.spec.specs.declared.State.{State}
use Rattle.spec.specs.Machine.{machine_of}
use Rattle.session.specs.declared.Header.{Header}
use Rattle.session.specs.Buffer.{Buffer, append}
use Rattle.session_pools.specs.PoolParts.{node_extent, bucket_extent}
use Rattle.session_state.specs.declared.Phase.TheVariants.{Stopped}
use Rattle.session_state.specs.declared.Handled.{Handled}
use Rattle.session_state.specs.Handling.{session, SessionEffect, SessionHandled, LineEffect, LineHandled, pools_kept}
use Rattle.session_state.specs.Handling.{session_machine}

-- ---- nothing is printed; no word is changed

pub nothing_appended : (t : Buffer) → t ≡ append [] t
unfolding append
nothing_appended t = refl

pub keeps : (d : SessionEffect) (r : Handled) (ns bs before after : List ℕ) → SessionHandled d r before after
    → LineHandled (pools_kept d ns bs) r ns bs before after
unfolding pools_kept
keeps d r ns bs before after h = record { next = h.next; nodes = refl; buckets = refl; wrote = h.wrote }

-- ---- what was built by a call

pub session_as : (d : SessionEffect) (r r' : Handled) (before after : List ℕ) → r ≡ r' → SessionHandled d r' before after → SessionHandled d r before after
session_as d r r' before after e h = subst (λ (x : Handled). SessionHandled d x before after) (sym e) h

pub line_as : (d : LineEffect) (r r' : Handled) (ns bs before after : List ℕ) → r ≡ r' → LineHandled d r' ns bs before after
    → LineHandled d r ns bs before after
line_as d r r' ns bs before after e h = subst (λ (x : Handled). LineHandled d x ns bs before after) (sym e) h

-- ---- an entry over the session's part of the pools

module _ (h : Header) (ns bs : List ℕ) (a b : ℕ) (ea : a ≡ node_extent h ns) (eb : b ≡ bucket_extent h bs) where
  pub same_machine : (m : State) → machine_of m (take a ns) (take b bs) ≡ session_machine (session Stopped h m) ns bs
  same_machine m = λ i. machine_of m (take (ea i) ns) (take (eb i) bs)
