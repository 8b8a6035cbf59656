-- The heap of the model: versions are numbered in the order in which the bucket had them and are never used again, so that there are no
-- records and no reuse; and the writes of Figure 6 to it. Assumes nothing.
use Rattle.std.specs.Prelude.{suc, ℕ, Bool, true, List}
use Rattle.coop_spec.specs.Atomic.{changed}

-- a version's op: "nil", "⊥" or an operation
pub data OpField : Type 0 where
  nil : OpField
  bottom : OpField
  op : ℕ → OpField

pub record Heap : Type 0 where
  -- b.node and b.flag
  pub current : ℕ
  pub flag : Bool
  -- of each version
  pub set : ℕ → List ℕ
  pub op_at : ℕ → OpField
  -- of each operation: its response, whether its prio is infinite, whether an invoke of it has ended with yes
  pub resp : ℕ → Bool
  pub done : ℕ → Bool
  pub returned : ℕ → Bool

-- ---- writes

-- line 109
abbrev pub raise : Heap → Heap
raise h = record { current = h.current; flag = true; set = h.set; op_at = h.op_at; resp = h.resp; done = h.done; returned = h.returned }

-- lines 102 and 123
abbrev pub put_op : ℕ → OpField → Heap → Heap
put_op v m h =
    record { current = h.current; flag = h.flag; set = h.set; op_at = changed h.op_at v m; resp = h.resp; done = h.done; returned = h.returned }

-- line 138
abbrev pub respond : ℕ → Bool → Heap → Heap
respond n b h =
    record { current = h.current; flag = h.flag; set = h.set; op_at = h.op_at; resp = changed h.resp n b; done = h.done; returned = h.returned }

-- line 139
abbrev pub mark_done : ℕ → Heap → Heap
mark_done n h =
    record { current = h.current; flag = h.flag; set = h.set; op_at = h.op_at; resp = h.resp; done = changed h.done n true; returned = h.returned }

-- an invoke ends with yes
abbrev pub mark_returned : ℕ → Heap → Heap
mark_returned n h =
    record { current = h.current; flag = h.flag; set = h.set; op_at = h.op_at; resp = h.resp; done = h.done; returned = changed h.returned n true }

-- line 140: the next version, with no operation
abbrev pub advance : List ℕ → Heap → Heap
advance S h = record {
  current = suc h.current;
  flag = h.flag;
  set = changed h.set (suc h.current) S;
  op_at = h.op_at;
  resp = h.resp;
  done = h.done;
  returned = h.returned;
}
