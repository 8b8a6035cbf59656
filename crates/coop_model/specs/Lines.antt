-- The lines of Figure 6 over the heap, one constructor for each outcome. Assumes nothing.
use Rattle.std.specs.Prelude.{ℕ, false, true, ◌≡◌}
use Rattle.spec.specs.Lists.{member}
use Rattle.coop_spec.specs.Atomic.{AtomicCall, Operations, Result, boolean, change, freeze, get_response, has_member, invoke, reply, tag_set}
use Rattle.coop_model.specs.Heap.{Heap, advance, bottom, mark_done, mark_returned, nil, op, raise, respond}
use Rattle.coop_model.specs.Positions.{Position, ReturnTo, Role, at100, at101, at102, at107, at109, at120, at121, at122, at123, at127, at129}
use Rattle.coop_model.specs.Positions.{at130, at138, at139, at140, at95, at96, at99, freezer, invoker, member_112, member_113, response_117}
use Rattle.coop_model.specs.Positions.{running, to103, to106, to126}

module _ (T : Operations) where
  -- lines that end no call and put none into the order: of the heap and position before, the heap and position after. Line 102 and 123 where
  -- their CAS succeeds are transitions of their own (Runs).
  pub data Line (h : Heap) : Position → Heap → Position → Type 0 where
    l95_on : {n : ℕ} → ¬ (h.op_at h.current ≡ bottom) → h.done n ≡ false → Line h (running (invoker n) at95) h (running (invoker n) at96)
    l95_done : {n : ℕ} → h.done n ≡ true → Line h (running (invoker n) at95) h (running (invoker n) (at107 n))
    l95_frozen : {n : ℕ} → h.op_at h.current ≡ bottom → Line h (running (invoker n) at95) h (running (invoker n) (at107 n))
    l96_up : {n : ℕ} → h.flag ≡ true → Line h (running (invoker n) at96) h (running (invoker n) at120)
    l96_down : {n : ℕ} → h.flag ≡ false → Line h (running (invoker n) at96) h (running (invoker n) at99)
    l99 : {n : ℕ} → Line h (running (invoker n) at99) h (running (invoker n) (at100 h.current))
    l100_nil : {n o : ℕ} → h.op_at o ≡ nil → Line h (running (invoker n) (at100 o)) h (running (invoker n) (at101 o))
    l100_op : {n o : ℕ} → ¬ (h.op_at o ≡ nil) → Line h (running (invoker n) (at100 o)) h (running (invoker n) (at129 to106))
    l101_on : {n o : ℕ} → h.done n ≡ false → Line h (running (invoker n) (at101 o)) h (running (invoker n) (at102 n o))
    l101_done : {n o : ℕ} → h.done n ≡ true → Line h (running (invoker n) (at101 o)) h (running (invoker n) at95)
    l102_lost : {n m o : ℕ} → ¬ (h.op_at o ≡ nil) → Line h (running (invoker n) (at102 m o)) h (running (invoker n) at95)
    l109 : Line h (running freezer at109) (raise h) (running freezer at120)
    l112 : {k : ℕ} → Line h (member_112 k) h (member_113 k h.current)
    l120_frozen : {j : Role} → h.op_at h.current ≡ bottom → Line h (running j at120) h (running j at127)
    l120_on : {j : Role} → ¬ (h.op_at h.current ≡ bottom) → Line h (running j at120) h (running j at121)
    l121 : {j : Role} → Line h (running j at121) h (running j (at122 h.current))
    l122_nil : {j : Role} {o : ℕ} → h.op_at o ≡ nil → Line h (running j (at122 o)) h (running j (at123 o))
    l122_op : {j : Role} {o : ℕ} → ¬ (h.op_at o ≡ nil) → Line h (running j (at122 o)) h (running j (at129 to126))
    l123_lost : {j : Role} {o : ℕ} → ¬ (h.op_at o ≡ nil) → Line h (running j (at123 o)) h (running j at120)
    l127 : {n : ℕ} → Line h (running (invoker n) at127) h (running (invoker n) (at107 n))
    l129 : {j : Role} {b : ReturnTo} → Line h (running j (at129 b)) h (running j (at130 b h.current))
    l130_op : {j : Role} {b : ReturnTo} {o m : ℕ} → h.op_at o ≡ op m → Line h (running j (at130 b o)) h (running j (at138 b o m))
    l130_106 : {n o : ℕ} → ((m : ℕ) → ¬ (h.op_at o ≡ op m)) → Line h (running (invoker n) (at130 to106 o)) h (running (invoker n) at95)
    l130_126 : {j : Role} {o : ℕ} → ((m : ℕ) → ¬ (h.op_at o ≡ op m)) → Line h (running j (at130 to126 o)) h (running j at120)
    l138 : {j : Role} {b : ReturnTo} {o m : ℕ} → Line h (running j (at138 b o m)) (respond m (reply T m (h.set o)) h) (running j (at139 b o m))
    l139 : {j : Role} {b : ReturnTo} {o m : ℕ} → Line h (running j (at139 b o m)) (mark_done m h) (running j (at140 b o m))
    l140_106 : {n o m : ℕ} → o ≡ h.current → Line h (running (invoker n) (at140 to106 o m)) (advance (change T m (h.set o)) h) (running (invoker n) at95)
    l140_126 : {j : Role} {o m : ℕ} → o ≡ h.current → Line h (running j (at140 to126 o m)) (advance (change T m (h.set o)) h) (running j at120)
    l140_106_lost : {n o m : ℕ} → ¬ (o ≡ h.current) → Line h (running (invoker n) (at140 to106 o m)) h (running (invoker n) at95)
    l140_126_lost : {j : Role} {o m : ℕ} → ¬ (o ≡ h.current) → Line h (running j (at140 to126 o m)) h (running j at120)

  -- lines that end a call: the call, its answer, the heap after
  pub data End (h : Heap) : Position → Heap → AtomicCall → Result → Type 0 where
    e107_yes : {n : ℕ} → h.done n ≡ true → End h (running (invoker n) (at107 n)) (mark_returned n h) (invoke n) (boolean true)
    e107_no : {n : ℕ} → h.done n ≡ false → End h (running (invoker n) (at107 n)) h (invoke n) (boolean false)
    e113_op : {k o m : ℕ} → h.op_at o ≡ op m → T.tag m ≡ k → End h (member_113 k o) h (has_member k) (boolean (T.inserts m))
    e113_set : {k o : ℕ} → ((m : ℕ) → h.op_at o ≡ op m → ¬ (T.tag m ≡ k)) → End h (member_113 k o) h (has_member k) (boolean (member k (h.set o)))
    e117 : {n : ℕ} → End h (response_117 n) h (get_response n) (boolean (h.resp n))
    e127 : End h (running freezer at127) h freeze (tag_set (h.set h.current))
    e130 : {n o : ℕ} → ((i : ℕ) → ¬ (h.op_at o ≡ op i)) → End h (running (invoker n) (at130 (to103 n) o)) (mark_returned n h) (invoke n) (boolean true)
    e140 : {n o m : ℕ} → o ≡ h.current
        → End h (running (invoker n) (at140 (to103 n) o m)) (mark_returned n (advance (change T m (h.set o)) h)) (invoke n) (boolean true)
    e140_lost : {n o m : ℕ} → ¬ (o ≡ h.current) → End h (running (invoker n) (at140 (to103 n) o m)) (mark_returned n h) (invoke n) (boolean true)
