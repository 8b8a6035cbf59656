-- What a line does where a header line is due, with the opening that it brings about: where the session stands then, and what the lent pools hold.
-- Assumes nothing.
use Rattle.std.specs.Prelude.{ℕ, ◌≡◌, refl, List, ◌++◌, Bool, true, false, eqb, drop, if◌then◌else◌}
use Rattle.std.proofs.Common.{sym, subst}
use Rattle.spec.specs.declared.State.{State}
use Rattle.spec.specs.Machine.{machine_of}
use Rattle.spec.specs.Numbers.{opening_number}
use Rattle.spec.specs.Entries.{Opened, opening}
use Rattle.opening.specs.declared.Opened.{Opened as OpenedState}
use Rattle.session.specs.declared.Header.{Header}
use Rattle.session.specs.declared.HeaderStep.{HeaderStep}
use Rattle.session.specs.declared.HeaderStep.TheVariants.{Next, Complete, Absent, Missing}
use Rattle.session_pools.specs.PoolParts.{node_extent, bucket_extent, node_part, bucket_part}
use Rattle.session_machine.specs.declared.Stage.{Stage}
use Rattle.session_machine.specs.declared.Stage.TheVariants.{NextDue, OpenedBy, OpenedBefore, OpeningRefused, Incomplete}
use Rattle.session_machine.specs.declared.Staged.{Staged}

-- the opening over the part of the pools that the header names; words past it are kept
unfoldable pub part_opening : Header → List ℕ → List ℕ → Opened
part_opening h ns bs =
    let o = opening h.config (node_part h ns) (bucket_part h bs) in
    let y = o.machine in
    record {
      refusal = o.refusal;
      machine = machine_of y.state (y.nodes ++ drop (node_extent h ns) ns) (y.buckets ++ drop (bucket_extent h bs) bs);
    }

abbrev pub opened_of : OpenedState → List ℕ → List ℕ → Opened
opened_of r ns bs = record { refusal = opening_number r.refusal; machine = machine_of r.state ns bs }

-- ---- where the session stands after a line

pub record Reached : Type 0 where
  pub stage : Stage
  pub header : Header
  pub state : State
  pub nodes : List ℕ
  pub buckets : List ℕ

abbrev pub reached : Staged → List ℕ → List ℕ → Reached
reached r ns bs = record { stage = r.stage; header = r.header; state = r.state; nodes = ns; buckets = bs }

-- this stage where the opening is accepted
unfoldable pub opened_stage : Stage → Header → Opened → Reached
opened_stage g h o =
    let y = o.machine in
    record {
      stage = if eqb o.refusal 0 then g else OpeningRefused o.refusal;
      header = h;
      state = y.state;
      nodes = y.nodes;
      buckets = y.buckets;
    }

-- by what the line says
unfoldable pub header_stage : HeaderStep → Header → State → List ℕ → List ℕ → Reached
header_stage (Next due next) h m ns bs = record { stage = NextDue due; header = next; state = m; nodes = ns; buckets = bs }
header_stage (Complete next) h m ns bs = opened_stage OpenedBy next (part_opening next ns bs)
header_stage (Absent next) h m ns bs = opened_stage OpenedBefore next (part_opening next ns bs)
header_stage Missing h m ns bs = record { stage = Incomplete; header = h; state = m; nodes = ns; buckets = bs }

-- ---- what is done then, by the stage

-- after an opening
pub stage_opened : {X : Type 0} (F : Stage → Reached → X) (g : Stage) (h : Header) (o : Opened) → let t = opened_stage g h o in
    F t.stage t ≡ (if eqb o.refusal 0 then F g t else F (OpeningRefused o.refusal) t)
unfolding opened_stage
stage_opened {X} F g h o = go (eqb o.refusal 0)
  where
    t : Reached
    t = opened_stage g h o

    go : (a : Bool) → F (if a then g else OpeningRefused o.refusal) t ≡ (if a then F g t else F (OpeningRefused o.refusal) t)
    go true = refl
    go false = refl

-- where the stage is known
pub at_stage : {X : Type 0} (P : X → Type 0) (F : Stage → Reached → X) {t o : Reached} {g : Stage} → t ≡ o → t.stage ≡ g → P (F g t)
    → P (F o.stage o)
at_stage P F {t} e f p = subst (λ (r : Reached). P (F r.stage r)) e (subst (λ (k : Stage). P (F k t)) (sym f) p)
