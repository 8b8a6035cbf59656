-- What each line does, both ways where it has two: the whole record of the task before and after, or the answer, and the writes.
-- The machine has two versions and operation 0, an insert of tag 5; the bucket has version 0. Assumes nothing.
use Rattle.std.specs.Prelude.{ℕ, ◌≡◌, refl, List, [], ◌∷◌, map, true}
use Rattle.spec.specs.Words.{link}
use Rattle.coop_spec.specs.declared.Answer.{Answer}
use Rattle.coop_spec.specs.declared.Answer.TheVariants.{Yes, No, Version}
use Rattle.coop_spec.specs.declared.Task.{Task}
use Rattle.coop_spec.specs.Machine.{Machine, never_invoked, with_type, set_operation, state_of, with_state}
use Rattle.coop_spec.specs.Words.{Write, raise_flag, set_op, set_resp, set_done, set_returned, install, apply_all}
use Rattle.coop_spec.specs.Held.{free_version}
use Rattle.coop_spec.specs.Lines.{Effect, on, ends, effect}
use Rattle.coop_spec.specs.Entries.{fresh_machine}
use Rattle.coop_spec.specs.Everything.{everything}

-- after these writes
unfoldable pub after : List Write → Machine
after ws = apply_all ws (set_operation 0 (with_type 1 5 never_invoked) (fresh_machine 2 2))

-- a running task: its call, operation, tag, line, where HELPFINISH returns to, o and the operation helped, both as links
unfoldable pub task : ℕ → ℕ → ℕ → ℕ → ℕ → ℕ → ℕ → Task
task call op tag line back o helped =
    record { running = true; call = call; op = op; tag = tag; line = line; back = back; own = 3; o = o; helped = helped }

-- an invoke of operation 0, a freeze, a member test
unfoldable pub inv : ℕ → ℕ → ℕ → ℕ → Task
inv = task 1 0 0

unfoldable pub frz : ℕ → ℕ → ℕ → ℕ → Task
frz = task 3 0 0

unfoldable pub has : ℕ → ℕ → ℕ → Task
has tag line o = task 4 0 tag line 0 o 0

pub record Row : Type 0 where
  pub before : List Write
  pub stands : Task
  pub does : Effect

-- goes on, with or without a write; ends
unfoldable pub goes : List Write → Task → List Write → Task → Row
goes before c writes d = record { before = before; stands = c; does = record { next = on d; writes = writes } }

unfoldable pub ended : List Write → Task → List Write → Answer → Row
ended before c writes a = record { before = before; stands = c; does = record { next = ends a; writes = writes } }

-- version 0 has operation 0; is frozen; operation 0 is done; the flag is raised; the bucket has version 1, with tag 5
unfoldable pub op_in : List Write
op_in = set_op 0 2 ∷ []

unfoldable pub shut : List Write
shut = set_op 0 1 ∷ []

unfoldable pub done : List Write
done = set_done 0 ∷ []

unfoldable pub flagged : List Write
flagged = raise_flag ∷ []

unfoldable pub second : List Write
second = set_op 0 2 ∷ set_resp 0 true ∷ install 1 (5 ∷ []) ∷ []

unfoldable pub invoke_rows : List Row
invoke_rows =
    goes [] (inv 95 0 0 0) [] (inv 96 0 0 0)
    ∷ goes done (inv 95 0 0 0) [] (inv 107 0 0 0)
    ∷ goes shut (inv 95 0 0 0) [] (inv 107 0 0 0)
    ∷ goes op_in (inv 95 0 0 0) [] (inv 96 0 0 0)
    ∷ goes [] (inv 96 0 0 0) [] (inv 99 0 0 0)
    ∷ goes flagged (inv 96 0 0 0) [] (inv 120 0 0 0)
    ∷ goes second (inv 99 0 0 0) [] (inv 100 0 2 0)
    ∷ goes [] (inv 100 0 1 0) [] (inv 101 0 1 0)
    ∷ goes op_in (inv 100 0 1 0) [] (inv 129 106 0 0)
    ∷ goes shut (inv 100 0 1 0) [] (inv 129 106 0 0)
    ∷ goes second (inv 100 0 2 0) [] (inv 101 0 2 0)
    ∷ goes [] (inv 101 0 1 0) [] (inv 102 0 1 0)
    ∷ goes done (inv 101 0 1 0) [] (inv 95 0 0 0)
    ∷ goes second (inv 102 0 2 0) (set_op 1 2 ∷ []) (inv 129 103 0 0)
    ∷ goes op_in (inv 102 0 1 0) [] (inv 95 0 0 0)
    ∷ goes shut (inv 102 0 1 0) [] (inv 95 0 0 0)
    ∷ ended [] (inv 107 0 0 0) [] No
    ∷ ended done (inv 107 0 0 0) (set_returned 0 ∷ []) Yes
    ∷ []

unfoldable pub other_rows : List Row
other_rows =
    goes [] (frz 109 0 0 0) (raise_flag ∷ []) (frz 120 0 0 0)
    ∷ goes second (has 5 112 0) [] (has 5 113 2)
    ∷ ended second (has 5 113 2) [] Yes
    ∷ ended second (has 6 113 2) [] No
    ∷ ended second (has 5 113 1) [] Yes
    ∷ ended op_in (has 6 113 1) [] No
    ∷ ended shut (has 5 113 1) [] No
    ∷ ended second (task 5 0 0 117 0 0 0) [] Yes
    ∷ ended [] (task 5 0 0 117 0 0 0) [] No
    ∷ []

unfoldable pub freeze_rows : List Row
freeze_rows =
    goes op_in (frz 120 0 0 0) [] (frz 121 0 0 0)
    ∷ goes shut (frz 120 0 0 0) [] (frz 127 0 0 0)
    ∷ goes second (frz 121 0 0 0) [] (frz 122 0 2 0)
    ∷ goes second (frz 122 0 2 0) [] (frz 123 0 2 0)
    ∷ goes second (frz 122 0 1 0) [] (frz 129 126 0 0)
    ∷ goes second (frz 123 0 2 0) (set_op 1 1 ∷ []) (frz 127 0 0 0)
    ∷ goes op_in (frz 123 0 1 0) [] (frz 120 0 0 0)
    ∷ ended second (frz 127 0 0 0) [] (Version 1)
    ∷ goes shut (inv 127 0 0 0) [] (inv 107 0 0 0)
    ∷ goes shut (task 2 0 0 127 0 0 0) [] (task 2 0 0 107 0 0 0)
    ∷ []

unfoldable pub help_rows : List Row
help_rows =
    goes second (inv 129 106 0 0) [] (inv 130 106 2 0)
    ∷ goes op_in (inv 130 106 1 0) [] (inv 138 106 1 1)
    ∷ goes second (inv 130 106 2 0) [] (inv 95 0 0 0)
    ∷ goes shut (frz 130 126 1 0) [] (frz 120 0 0 0)
    ∷ ended second (inv 130 103 2 0) (set_returned 0 ∷ []) Yes
    ∷ goes op_in (inv 138 106 1 1) (set_resp 0 true ∷ []) (inv 139 106 1 1)
    -- a slow helper answers from its own o
    ∷ goes second (frz 138 126 1 1) (set_resp 0 true ∷ []) (frz 139 126 1 1)
    ∷ goes op_in (inv 139 106 1 1) (set_done 0 ∷ []) (inv 140 106 1 1)
    ∷ goes op_in (inv 140 106 1 1) (install 1 (5 ∷ []) ∷ []) (inv 95 0 0 0)
    ∷ goes op_in (frz 140 126 1 1) (install 1 (5 ∷ []) ∷ []) (frz 120 0 0 0)
    ∷ ended op_in (inv 140 103 1 1) (install 1 (5 ∷ []) ∷ set_returned 0 ∷ []) Yes
    ∷ goes second (frz 140 126 1 1) [] (frz 120 0 0 0)
    ∷ ended second (inv 140 103 1 1) (set_returned 0 ∷ []) Yes
    ∷ []

unfoldable pub seen : Row → Effect
seen r = effect (after r.before) r.stands

pub invoke_rows_hold : map seen invoke_rows ≡ map (λ r. r.does) invoke_rows
unfolding everything after task inv goes ended op_in shut done flagged second invoke_rows seen
invoke_rows_hold = refl

pub other_rows_hold : map seen other_rows ≡ map (λ r. r.does) other_rows
unfolding everything after task inv frz has goes ended op_in shut done flagged second other_rows seen
other_rows_hold = refl

pub freeze_rows_hold : map seen freeze_rows ≡ map (λ r. r.does) freeze_rows
unfolding everything after task inv frz goes ended op_in shut done flagged second freeze_rows seen
freeze_rows_hold = refl

pub help_rows_hold : map seen help_rows ≡ map (λ r. r.does) help_rows
unfolding everything after task inv frz goes ended op_in shut done flagged second help_rows seen
help_rows_hold = refl

-- ---- the version that is taken: the first one not held after the last taken, of three, where the bucket has version 0

unfoldable pub last_taken : ℕ → Machine
last_taken l =
    let s = state_of 2 3 in
    with_state
    (record { tasks = s.tasks; versions = s.versions; node = 0; last = l; flag = s.flag; operation = s.operation; task = s.task })
    (fresh_machine 2 3)

pub taken_rows : map (λ l. free_version (last_taken l)) (0 ∷ 1 ∷ 2 ∷ []) ≡ link 1 ∷ link 2 ∷ link 1 ∷ []
unfolding everything last_taken
taken_rows = refl
