-- What the planner keeps between two calls, and what of the definitions it stands for. Assumes nothing.
use Rattle.std.specs.Prelude.{ℕ, ◌+◌, ◌*◌, ◌≤◌, ◌<◌, ◌≡◌, List, true, eqb, length, get_or, set, take, if◌then◌else◌, Option, Some, None}
use Rattle.spec.specs.declared.Answer.{Answer}
use Rattle.spec.specs.declared.Answer.TheVariants.{Yes, No, Full, Done, Limit}
use Rattle.spec.specs.declared.Call.{Call}
use Rattle.spec.specs.declared.Config.{Config}
use Rattle.spec.specs.Sound.{listed_size}
use Rattle.spec.specs.Listed.{slot}
use Rattle.laws.specs.Ascending.{Rising}
use Rattle.bucket.specs.declared.Bucket.{Bucket}
use Rattle.bucket.specs.declared.Changed.{Changed}
use Rattle.bucket.specs.declared.Response.{Response}
use Rattle.bucket.specs.declared.Response.TheVariants.{Yes as Taken, No as Not, Frozen, Full as NoRoom}
use Rattle.bucket.specs.Bucket.{tags_in}
use Rattle.plans.specs.Plan.{Shape, figures, places_steps, empty_places, update_figures, call_figures, after_call}
use Rattle.plan_heads.specs.declared.Head.{Head}
use Rattle.plan_heads.specs.Heads.{resized}
use Rattle.planner.specs.declared.Standing.{Standing}
use Rattle.planner.specs.declared.Outcome.{Outcome}

-- ---- what is kept, as the definition has it

-- the size of the predecessor, 0 for none
abbrev pub pred_of : Option ℕ → ℕ
pred_of None = 0
pred_of (Some p) = p

abbrev pub shape_of : Head → List ℕ → Shape
shape_of h ts = record { pred = pred_of h.pred; filled = take h.size h.filled; tags = ts }

abbrev pub standing : Head → Bucket → Standing
standing h b = record { head = h; set = b }

abbrev pub shape : Standing → Shape
shape s = shape_of s.head (tags_in s.set.words)

-- what holds of it between two calls: the head's size is a listed one, and the bucket may change and has the tags of a plain set
pub record Ready (s : Standing) : Type 0 where
  pub listed : listed_size s.head.size ≡ true
  pub room : length s.head.filled ≡ 32
  pub changeable : get_or s.set.words 0 0 ≡ 1
  pub rising : Rising (tags_in s.set.words)
  pub few : length (tags_in s.set.words) ≤ 64

-- i is one of the head's places
pub record Fits (h : Head) (i : ℕ) : Type 0 where
  pub within : i < h.size
  pub most : h.size ≤ 32

-- ---- parts of a call

-- the steps of filling an empty place
abbrev pub filling_after : Option ℕ → ℕ → ℕ
filling_after None n = 9
filling_after (Some p) n = if eqb n (2 * p) then 7 else 9

abbrev pub filling : Head → ℕ
filling h = filling_after h.pred h.size

abbrev pub filled_at : Head → ℕ → Head
filled_at h i = record { pred = h.pred; size = h.size; filled = set h.filled i true }

-- what a bucket answers, as a call's answer; one that may change answers nothing else
abbrev pub answer_of : Response → Answer
answer_of Taken = Yes
answer_of Not = No
answer_of Frozen = No
answer_of NoRoom = Full

-- an insert or a remove, to which the plain set answered so
pub record Updated (g : Config) (h : Head) (tag : ℕ) (c : Changed) (r : Outcome) : Type 0 where
  pub figures : (ts : List ℕ) → r.figures ≡ update_figures (shape_of h ts) (slot g tag h.size) (answer_of c.answer)
  pub next : r.next ≡ standing (filled_at h (slot g tag h.size)) c.bucket

-- a resize that ends limit, and one that ends done
pub record Limited (s : Standing) (r : Outcome) : Type 0 where
  pub figures : r.figures ≡ figures Limit 1 0
  pub next : r.next ≡ s

pub record Resized (s : Standing) (size : ℕ) (r : Outcome) : Type 0 where
  pub figures : r.figures ≡ figures Done (4 + places_steps (shape s) (shape s).filled) (empty_places (shape s).filled)
  pub next : r.next ≡ standing (resized s.head size) s.set

-- ---- a call

pub record Plans (g : Config) (s : Standing) (call : Call) (tag : ℕ) (r : Outcome) : Type 0 where
  pub figures : r.figures ≡ call_figures g (shape s) call tag
  pub next : shape r.next ≡ after_call g (shape s) call tag
  pub ready : Ready r.next
