-- Where a task stands in its call, with the values that its line uses. Assumes nothing.
use Rattle.std.specs.Prelude.{ℕ, ◌≡◌}
use Rattle.coop_spec.specs.Atomic.{AtomicCall, freeze, get_response, has_member, invoke}

-- where HELPFINISH returns to: to 103 it returns with the invoke's own operation done
pub data ReturnTo : Type 0 where
  to103 : ℕ → ReturnTo
  to106 to126 : ReturnTo

-- a point of INVOKE, FREEZE, DOFREEZE or HELPFINISH: the line at which the task stands, with its o and the operation that it helps
pub data Point : Type 0 where
  at95 at96 at99 : Point
  at100 at101 : (o : ℕ) → Point
  -- with the invoke's operation
  at102 : (n o : ℕ) → Point
  at107 : (n : ℕ) → Point
  at109 at120 at121 : Point
  at122 at123 : (o : ℕ) → Point
  at127 : Point
  at129 : ReturnTo → Point
  at130 : ReturnTo → (o : ℕ) → Point
  at138 at139 at140 : ReturnTo → (o m : ℕ) → Point

-- what a task's record has of it: the line, where HELPFINISH returns to while it runs, o, and the operation that is helped
pub data Place (A : Type 0) : Type 0 where
  empty : Place A
  holds : A → Place A

pub record Parts : Type 0 where
  pub line : ℕ
  pub back : Place ReturnTo
  pub o : Place ℕ
  pub helped : Place ℕ

abbrev plain : ℕ → Place ℕ → Parts
plain n o = record { line = n; back = empty; o = o; helped = empty }

abbrev helping : ℕ → ReturnTo → Place ℕ → Place ℕ → Parts
helping n b o m = record { line = n; back = holds b; o = o; helped = m }

abbrev pub parts : Point → Parts
parts at95 = plain 95 empty
parts at96 = plain 96 empty
parts at99 = plain 99 empty
parts (at100 o) = plain 100 (holds o)
parts (at101 o) = plain 101 (holds o)
parts (at102 n o) = plain 102 (holds o)
parts (at107 n) = plain 107 empty
parts at109 = plain 109 empty
parts at120 = plain 120 empty
parts at121 = plain 121 empty
parts (at122 o) = plain 122 (holds o)
parts (at123 o) = plain 123 (holds o)
parts at127 = plain 127 empty
parts (at129 b) = helping 129 b empty empty
parts (at130 b o) = helping 130 b (holds o) empty
parts (at138 b o m) = helping 138 b (holds o) (holds m)
parts (at139 b o m) = helping 139 b (holds o) (holds m)
parts (at140 b o m) = helping 140 b (holds o) (holds m)

-- it holds v
abbrev pub Has : Place ℕ → ℕ → Type 0
Has empty v = ⊥
Has (holds o) v = v ≡ o

-- who runs it: an invoke of that operation, or a freeze
pub data Role : Type 0 where
  invoker : ℕ → Role
  freezer : Role

pub data Position : Type 0 where
  no_call : Position
  running : Role → Point → Position
  -- a member test of tag k, with its o at 113; a get response of operation n
  member_112 : (k : ℕ) → Position
  member_113 : (k o : ℕ) → Position
  response_117 : (n : ℕ) → Position

-- what call a task runs
pub data Runs : Type 0 where
  none_runs : Runs
  runs : AtomicCall → Runs

abbrev pub call_at : Position → Runs
call_at no_call = none_runs
call_at (running (invoker n) l) = runs (invoke n)
call_at (running freezer l) = runs freeze
call_at (member_112 k) = runs (has_member k)
call_at (member_113 k o) = runs (has_member k)
call_at (response_117 n) = runs (get_response n)
