-- A task's record as the image of its position; `slot` says in which record of the pool a version is. Assumes nothing.
use Rattle.std.specs.Prelude.{ℕ, false, true, if◌then◌else◌}
use Rattle.std.proofs.Math.Path.{◌≡◌, refl}
use Rattle.std.proofs.Common.{ap, arith}
use Rattle.spec.specs.Words.{link}
use Rattle.laws.specs.Tests.{tf}
use Rattle.coop_spec.specs.Atomic.{AtomicCall, Operations, freeze, get_response, has_member, invoke}
use Rattle.coop_spec.specs.Machine.{with_own}
use Rattle.coop_spec.specs.declared.Task.{Task}
use Rattle.coop_linear.specs.Named.{Names}
use Rattle.coop_model.specs.Positions.{Has, Place, Position, ReturnTo, Role, call_at, empty, freezer, holds, invoker, member_112}
use Rattle.coop_model.specs.Positions.{member_113, no_call, parts, response_117, running, runs, to103, to106, to126}

-- ---- a task's record from its position

abbrev pub return_line : ReturnTo → ℕ
return_line (to103 n) = 103
return_line to106 = 106
return_line to126 = 126

abbrev pub back_line : Place ReturnTo → ℕ
back_line empty = 0
back_line (holds b) = return_line b

abbrev pub link_in : (ℕ → ℕ) → Place ℕ → ℕ
link_in slot empty = 0
link_in slot (holds v) = link (slot v)

abbrev pub call_number : Operations → Role → ℕ
call_number T (invoker n) = if T.inserts n then 1 else 2
call_number T freezer = 3

abbrev pub op_number : Role → ℕ
op_number (invoker n) = n
op_number freezer = 0

module _ (T : Operations) (slot : ℕ → ℕ) (own : ℕ) where
  abbrev pub task_image : Position → Task
  task_image no_call = record { running = false; call = 0; op = 0; tag = 0; line = 0; back = 0; own = 0; o = 0; helped = 0 }
  task_image (running j l) = record {
    running = true;
    call = call_number T j;
    op = op_number j;
    tag = 0;
    line = (parts l).line;
    back = back_line (parts l).back;
    own = own;
    o = link_in slot (parts l).o;
    helped = link_in (λ m. m) (parts l).helped;
  }
  task_image (member_112 k) = record { running = true; call = 4; op = 0; tag = k; line = 112; back = 0; own = own; o = 0; helped = 0 }
  task_image (member_113 k v) = record { running = true; call = 4; op = 0; tag = k; line = 113; back = 0; own = own; o = link (slot v); helped = 0 }
  task_image (response_117 n) = record { running = true; call = 5; op = n; tag = 0; line = 117; back = 0; own = own; o = 0; helped = 0 }

-- ---- what a record says of its position, and back

module _ (T : Operations) (slot : ℕ → ℕ) (own : ℕ) where
  pub image_runs : (l : Position) {c : AtomicCall} → call_at l ≡ runs c → (task_image T slot own l).running ≡ true
  image_runs no_call e = let z : ◌≡◌ {A = ℕ} 0 1 = cc in absurd (omega arith)
  image_runs (running j l) e = refl
  image_runs (member_112 k) e = refl
  image_runs (member_113 k o) e = refl
  image_runs (response_117 n) e = refl

  pub runs_image : (l : Position) → (task_image T slot own l).running ≡ true → (c : AtomicCall) × (call_at l ≡ runs c)
  runs_image no_call e = absurd (tf e refl)
  runs_image (running (invoker n) l) e = (invoke n, refl)
  runs_image (running freezer l) e = (freeze, refl)
  runs_image (member_112 k) e = (has_member k, refl)
  runs_image (member_113 k o) e = (has_member k, refl)
  runs_image (response_117 n) e = (get_response n, refl)

  pub idle_image : (l : Position) → (task_image T slot own l).running ≡ false → l ≡ no_call
  idle_image no_call e = refl
  idle_image (running j l) e = absurd (tf refl e)
  idle_image (member_112 k) e = absurd (tf refl e)
  idle_image (member_113 k o) e = absurd (tf refl e)
  idle_image (response_117 n) e = absurd (tf refl e)

  -- with its own steps counted
  pub image_own : (v : ℕ) (l : Position) {c : AtomicCall} → call_at l ≡ runs c → with_own v (task_image T slot own l) ≡ task_image T slot v l
  unfolding with_own
  image_own v no_call e = let z : ◌≡◌ {A = ℕ} 0 1 = cc in absurd (omega arith)
  image_own v (running j l) e = refl
  image_own v (member_112 k) e = refl
  image_own v (member_113 k o) e = refl
  image_own v (response_117 n) e = refl

-- a version that a position names is its record's o
o_named : (slot : ℕ → ℕ) (o : Place ℕ) (v : ℕ) → Has o v → link_in slot o ≡ link (slot v)
o_named slot empty v n = absurd n
o_named slot (holds o) v n = rw n

pub named_image : (T : Operations) (slot : ℕ → ℕ) (own : ℕ) (l : Position) (v : ℕ) → Names l v
    → ((task_image T slot own l).running ≡ true) × ((task_image T slot own l).o ≡ link (slot v))
named_image T slot own no_call v n = absurd n
named_image T slot own (running j l) v n = (refl, o_named slot (parts l).o v n)
named_image T slot own (member_112 k) v n = absurd n
named_image T slot own (member_113 k o) v n = (refl, rw n)
named_image T slot own (response_117 m) v n = absurd n

-- only the records of versions that it names matter
o_same : (slot slot' : ℕ → ℕ) (o : Place ℕ) → ((v : ℕ) → Has o v → slot' v ≡ slot v) → link_in slot' o ≡ link_in slot o
o_same slot slot' empty s = refl
o_same slot slot' (holds o) s = ap link (s o refl)

pub image_same : (T : Operations) (slot slot' : ℕ → ℕ) (own : ℕ) (l : Position) → ((v : ℕ) → Names l v → slot' v ≡ slot v)
    → task_image T slot' own l ≡ task_image T slot own l
image_same T slot slot' own no_call s = refl
image_same T slot slot' own (running j l) s = rw (o_same slot slot' (parts l).o s)
image_same T slot slot' own (member_112 k) s = refl
image_same T slot slot' own (member_113 k o) s = rw (s o refl)
image_same T slot slot' own (response_117 n) s = refl
