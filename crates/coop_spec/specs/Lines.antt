-- What each line of Figure 6 does, a definition for each number in the figure's order: "The steps are lines 95, 96, 99 to 102, 107, 109,
-- 112, 113, 117, 120 to 123, 127, 129, 130 and 138 to 140; the rest belongs to the line before." y is the machine, c the record of the
-- task that steps. Where source 000 garbles the figure, the indentation in source 001 decides: the else of 105 belongs to 100, that of 125
-- to 122, and 107 stands after the loop. A task's o is filled only at lines that use it. Assumes nothing.
use Rattle.std.specs.Prelude.{ℕ, ◌+◌, ◌-◌, List, [], ◌∷◌, ◌++◌, Bool, not, ◌&&◌, leb, eqb, if◌then◌else◌}
use Rattle.spec.specs.Lists.{member}
use Rattle.spec.specs.Words.{link, number}
use Rattle.coop_spec.specs.declared.Operation.{Operation}
use Rattle.coop_spec.specs.declared.Task.{Task}
use Rattle.coop_spec.specs.declared.Answer.{Answer}
use Rattle.coop_spec.specs.declared.Answer.TheVariants.{Yes, No, Version}
use Rattle.coop_spec.specs.Machine.{Machine, operation_of, to_line, to_line_with, to_help, to_finish}
use Rattle.coop_spec.specs.Words.{current, op_word, tags_of, response, applied}
use Rattle.coop_spec.specs.Words.{Write, raise_flag, set_op, set_resp, set_done, set_returned, install}
use Rattle.coop_spec.specs.Sound.{invokes}
use Rattle.coop_spec.specs.Held.{free_version}

-- ---- what a line does: the task goes on with a record, or its call ends; and the writes, the first one first

pub data Next : Type 0 where
  on : Task → Next
  ends : Answer → Next

pub record Effect : Type 0 where
  pub next : Next
  pub writes : List Write

abbrev pub moves : Task → Effect
moves c = record { next = on c; writes = [] }

abbrev pub writing : Write → Task → Effect
writing w c = record { next = on c; writes = w ∷ [] }

abbrev pub answers : Answer → Effect
answers a = record { next = ends a; writes = [] }

abbrev pub yes_no : Bool → Answer
yes_no b = if b then Yes else No

-- b.node.op = ⊥
abbrev pub frozen : Machine → Bool
frozen y = eqb (op_word y (current y)) 1

-- o.op = nil
abbrev pub no_op : Machine → Task → Bool
no_op y c = eqb (op_word y (number c.o)) 0

-- the prio of the task's own operation is infinite
abbrev pub own_done : Machine → Task → Bool
own_done y c = (operation_of y c.op).done

-- ---- INVOKE

-- "95 while b.node.op ≠ ⊥ ∧ op.prio ≠ ∞ do"; else on to 107
unfoldable pub line_95 : Machine → Task → Effect
line_95 y c = moves (to_line (if not (frozen y) && not (own_done y c) then 96 else 107) c)

-- "96 if b.flag then 97 DOFREEZE(b) 98 break"
unfoldable pub line_96 : Machine → Task → Effect
line_96 y c = moves (to_line (if y.state.flag then 120 else 99) c)

-- "99 o ← b.node"
unfoldable pub line_99 : Machine → Task → Effect
line_99 y c = moves (to_line_with 100 (link (current y)) c)

-- "100 if o.op = nil then .. 105 else 106 HELPFINISH(b)"
unfoldable pub line_100 : Machine → Task → Effect
line_100 y c = if no_op y c then moves (to_line_with 101 c.o c) else moves (to_help 106 c)

-- "Line 101 tests the operation's priority; the node named in the figure has none."
unfoldable pub line_101 : Machine → Task → Effect
line_101 y c = if own_done y c then moves (to_line 95 c) else moves (to_line_with 102 c.o c)

-- "102 if CAS(&o.op, nil, op) then 103 HELPFINISH(b) 104 return true"; a failed CAS goes round the loop
unfoldable pub line_102 : Machine → Task → Effect
line_102 y c =
    if no_op y c then writing (set_op (number c.o) (c.op + 2)) (to_help 103 c) else moves (to_line 95 c)

-- an invoke ends with yes after these writes: "A get response is started only after an invoke of that operation has ended true"
abbrev pub returns_true : Task → List Write → Effect
returns_true c ws = record { next = ends Yes; writes = ws ++ set_returned c.op ∷ [] }

-- "107 return op.prio = ∞"
unfoldable pub line_107 : Machine → Task → Effect
line_107 y c = if own_done y c then returns_true c [] else answers No

-- ---- FREEZE, HASMEMBER, GETRESPONSE

-- "109 b.flag ← true 110 return DOFREEZE(b)"
unfoldable pub line_109 : Machine → Task → Effect
line_109 y c = writing raise_flag (to_line 120 c)

-- "112 o ← b.node"
unfoldable pub line_112 : Machine → Task → Effect
line_112 y c = moves (to_line_with 113 (link (current y)) c)

-- "113 op ← o.op 114 if op ≠ nil ∧ op ≠ ⊥ ∧ op.key = k then 115 return op.type = INS 116 return k ∈ o.set"
unfoldable pub line_113 : Machine → Task → Effect
line_113 y c =
    let k = number c.o in
    let op = operation_of y (op_word y k - 2) in
    if leb 2 (op_word y k) && eqb op.tag c.tag then answers (yes_no (eqb op.kind 1))
    else answers (yes_no (member c.tag (tags_of y k)))

-- "117 GETRESPONSE 118 return op.resp"
unfoldable pub line_117 : Machine → Task → Effect
line_117 y c = answers (yes_no (operation_of y c.op).resp)

-- ---- DOFREEZE

-- "120 while b.node.op ≠ ⊥ do"
unfoldable pub line_120 : Machine → Task → Effect
line_120 y c = moves (to_line (if frozen y then 127 else 121) c)

-- "121 o ← b.node"
unfoldable pub line_121 : Machine → Task → Effect
line_121 y c = moves (to_line_with 122 (link (current y)) c)

-- "122 if o.op = nil then .. 125 else 126 HELPFINISH(b)"
unfoldable pub line_122 : Machine → Task → Effect
line_122 y c = if no_op y c then moves (to_line_with 123 c.o c) else moves (to_help 126 c)

-- "123 if CAS(&o.op, nil, ⊥) then 124 break"; a failed CAS goes round the loop
unfoldable pub line_123 : Machine → Task → Effect
line_123 y c = if no_op y c then writing (set_op (number c.o) 1) (to_line 127 c) else moves (to_line 120 c)

-- "127 return b.node.set": a freeze ends with the version that has the set; an invoke came from 97 and breaks to 107
unfoldable pub line_127 : Machine → Task → Effect
line_127 y c = if invokes c.call then moves (to_line 107 c) else answers (Version (current y))

-- ---- HELPFINISH

-- it returns after these writes: to 104, which ends the invoke with yes, to the loop of 95 or to that of 120
unfoldable pub returns : Task → List Write → Effect
returns c ws =
    if eqb c.back 103 then returns_true c ws
    else record { next = on (to_line (if eqb c.back 106 then 95 else 120) c); writes = ws }

-- "129 o ← b.node"
unfoldable pub line_129 : Machine → Task → Effect
line_129 y c = moves (to_line_with 130 (link (current y)) c)

-- "130 op ← o.op 131 if op ≠ nil ∧ op ≠ ⊥ then"
unfoldable pub line_130 : Machine → Task → Effect
line_130 y c =
    let m = op_word y (number c.o) in
    if leb 2 m then moves (to_finish (m - 1) c) else returns c []

-- the operation that is helped, and the set of its o
abbrev pub helped_op : Machine → Task → Operation
helped_op y c = operation_of y (number c.helped)

abbrev pub old_set : Machine → Task → List ℕ
old_set y c = tags_of y (number c.o)

-- "138 op.resp ← resp", computed by lines 132 to 137
unfoldable pub line_138 : Machine → Task → Effect
line_138 y c =
    writing (set_resp (number c.helped) (response (helped_op y c) (old_set y c))) (to_line_with 139 c.o c)

-- "139 op.prio ← ∞"
unfoldable pub line_139 : Machine → Task → Effect
line_139 y c = writing (set_done (number c.helped)) (to_line_with 140 c.o c)

-- "Line 140 takes a version only if the bucket still has o."
abbrev pub still_current : Machine → Task → Bool
still_current y c = eqb (current y) (number c.o)

-- "140 CAS(&b.node, o, new FSETNODE(set, nil))"
unfoldable pub line_140 : Machine → Task → Effect
line_140 y c =
    if still_current y c then returns c (install (number (free_version y)) (applied (helped_op y c) (old_set y c)) ∷ [])
    else returns c []

-- ---- all lines

pub record Line : Type 0 where
  pub at : ℕ
  pub does : Machine → Task → Effect

abbrev pub line : ℕ → (Machine → Task → Effect) → Line
line n f = record { at = n; does = f }

unfoldable pub all_lines : List Line
all_lines =
    line 95 line_95 ∷ line 96 line_96 ∷ line 99 line_99 ∷ line 100 line_100 ∷ line 101 line_101 ∷ line 102 line_102 ∷ line 107 line_107
    ∷ line 109 line_109 ∷ line 112 line_112 ∷ line 113 line_113 ∷ line 117 line_117
    ∷ line 120 line_120 ∷ line 121 line_121 ∷ line 122 line_122 ∷ line 123 line_123 ∷ line 127 line_127
    ∷ line 129 line_129 ∷ line 130 line_130 ∷ line 138 line_138 ∷ line 139 line_139 ∷ line 140 line_140 ∷ []

-- the line of that number among these; a sound task's line is one of them
unfoldable pub find_line : ℕ → List Line → Machine → Task → Effect
find_line n [] y c = moves c
find_line n (l ∷ ls) y c = let rest = find_line n ls y c in if eqb n l.at then l.does y c else rest

unfoldable pub effect : Machine → Task → Effect
effect y c = find_line c.line all_lines y c
