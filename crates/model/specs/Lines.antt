-- The lines of the five calls over the heap, one constructor for each outcome of a line. A step leads from a heap and a position to
-- a heap and a position; a step that ends an insert, remove or contains also gives its answer. Assumes nothing.
use Rattle.std.specs.Prelude.{◌≡◌, Bool, true, false, List, ℕ, suc, ◌+◌, ◌*◌, ◌%◌, ◌<◌, length}
use Rattle.model.specs.PlaceState.{empty, changeable, frozen, Filled}
use Rattle.model.specs.Heap.{Heap, abs, fill, freeze, put, unlink, advance, state_for, slot_in}
use Rattle.spec.specs.declared.Answer.{Answer}
use Rattle.spec.specs.declared.Answer.TheVariants.{Yes, No}
use Rattle.spec.specs.declared.Call.{Call}
use Rattle.spec.specs.declared.Call.TheVariants.{Insert, Remove, Contains}
use Rattle.spec.specs.Lists.{member}
use Rattle.spec.specs.Plain.{insert_answer, found_answer}
use Rattle.spec.specs.StepRefusals.{gains}
use Rattle.laws.specs.Ascending.{Rising}
use Rattle.model.specs.Positions.{Update, Resize, Fill, Position, at_39, lookup, at_40, at_12, at_18, at_51, at_13, update, at_43, at_15, at_36}
use Rattle.model.specs.Positions.{at_46, at_16, at_44, at_17, at_49, at_32, at_47, at_33, at_48, at_52, at_50, resize, at_20, at_24, at_27, at_28}
use Rattle.model.specs.Positions.{no_call}

-- t has the predecessor s; t has none
abbrev pub HasPred : Heap → ℕ → ℕ → Type 0
HasPred h t s = (t ≡ h.head) × (h.linked ≡ true) × (t ≡ suc s)

abbrev pub NoPred : Heap → ℕ → Type 0
NoPred h t = t ≡ h.head → h.linked ≡ false

pub data FillStep (h : Heap) (t i : ℕ) : Fill → Heap → Fill → Type 0 where
  step_39_empty : h.place t i ≡ empty → FillStep h t i at_39 h (at_40 false)
  step_39_filled : Filled (h.place t i) → FillStep h t i at_39 h (at_40 true)
  step_40_filled : FillStep h t i (at_40 true) h at_51
  step_40_none : (b : Bool) → NoPred h t → FillStep h t i (at_40 b) h at_51
  step_40_grown : {s : ℕ} → HasPred h t s → h.size t ≡ 2 * h.size s → FillStep h t i (at_40 false) h (at_43 s)
  step_40_shrunk : {s : ℕ} → HasPred h t s → ¬ (h.size t ≡ 2 * h.size s) → FillStep h t i (at_40 false) h (at_46 s)
  step_43 : {s : ℕ} → FillStep h t i (at_43 s) h (at_44 s)
  step_44 : {s : ℕ} → FillStep h t i (at_44 s) (freeze s (i % h.size s) h) (at_49 s)
  step_46 : {s : ℕ} → FillStep h t i (at_46 s) h (at_47 s)
  step_47 : {s : ℕ} → FillStep h t i (at_47 s) h (at_48 s)
  step_48 : {s : ℕ} → FillStep h t i (at_48 s) (freeze s i h) (at_52 s)
  step_52 : {s : ℕ} → FillStep h t i (at_52 s) (freeze s (i + h.size t) h) (at_49 s)
  step_49 : {s : ℕ} → FillStep h t i (at_49 s) h (at_50 s)
  step_50_empty : {s : ℕ} → h.place t i ≡ empty → FillStep h t i (at_50 s) (fill s t i h) at_51
  step_50_filled : {s : ℕ} → Filled (h.place t i) → FillStep h t i (at_50 s) h at_51

pub data Step (h : Heap) : Position → Heap → Position → Type 0 where
  step_12 : {k : ℕ} → Step h (lookup k at_12) h (lookup k (at_13 h.head))
  step_13_filled : {k t : ℕ} → Filled (state_for h t k) → Step h (lookup k (at_13 t)) h (lookup k (at_18 t))
  step_13_empty : {k t : ℕ} → state_for h t k ≡ empty → Step h (lookup k (at_13 t)) h (lookup k (at_15 t))
  step_15_some : {k t s : ℕ} → HasPred h t s → Step h (lookup k (at_15 t)) h (lookup k (at_16 s))
  step_15_none : {k t : ℕ} → NoPred h t → Step h (lookup k (at_15 t)) h (lookup k (at_17 t))
  step_16 : {k s : ℕ} → Step h (lookup k (at_16 s)) h (lookup k (at_18 s))
  step_17 : {k t : ℕ} → Step h (lookup k (at_17 t)) h (lookup k (at_18 t))
  step_32 : {b : Bool} {k : ℕ} → Step h (update b k at_32) h (update b k (at_33 h.head))
  step_33_filled : {b : Bool} {k t : ℕ} → Filled (state_for h t k) → Step h (update b k (at_33 t)) h (update b k (at_36 t))
  step_33_empty : {b : Bool} {k t : ℕ} → state_for h t k ≡ empty → Step h (update b k (at_33 t)) h (update b k (Update.filling t (slot_in h t k) at_39))
  step_36_frozen : {b : Bool} {k x : ℕ} → state_for h x k ≡ frozen → Step h (update b k (at_36 x)) h (update b k at_32)
  update_fills : {b : Bool} {k t i : ℕ} {l l' : Fill} {g : Heap} → FillStep h t i l g l'
      → Step h (update b k (Update.filling t i l)) g (update b k (Update.filling t i l'))
  step_51_update : {b : Bool} {k t i : ℕ} → Step h (update b k (Update.filling t i at_51)) h (update b k (at_36 t))
  step_20 : {b : Bool} → Step h (resize b at_20) h (resize b (Resize.filling h.head 0 at_39))
  resize_fills : {b : Bool} {t i : ℕ} {l l' : Fill} {g : Heap} → FillStep h t i l g l'
      → Step h (resize b (Resize.filling t i l)) g (resize b (Resize.filling t i l'))
  step_51_next : {b : Bool} {t i : ℕ} → suc i < h.size t → Step h (resize b (Resize.filling t i at_51)) h (resize b (Resize.filling t (suc i) at_39))
  step_51_last : {b : Bool} {t i : ℕ} → suc i ≡ h.size t → Step h (resize b (Resize.filling t i at_51)) h (resize b (at_24 t))
  step_24_head : {b : Bool} {t : ℕ} → t ≡ h.head → Step h (resize b (at_24 t)) (unlink h) (resize b (at_27 t))
  step_24_past : {b : Bool} {t : ℕ} → ¬ (t ≡ h.head) → Step h (resize b (at_24 t)) h (resize b (at_27 t))
  step_27_grow : {t : ℕ} → Step h (resize true (at_27 t)) h (resize true (at_28 t (2 * h.size t)))
  step_27_shrink : {t n : ℕ} → h.size t ≡ 2 * n → Step h (resize false (at_27 t)) h (resize false (at_28 t n))
  -- a resize ends
  step_20_limit : {b : Bool} → Step h (resize b at_20) h no_call
  step_28_done : {b : Bool} {t n : ℕ} → t ≡ h.head → Step h (resize b (at_28 t n)) (advance n h) no_call
  step_28_lost : {b : Bool} {t n : ℕ} → ¬ (t ≡ h.head) → Step h (resize b (at_28 t n)) h no_call

-- a list of the listed tags
abbrev pub Listed : Heap → List ℕ → Type 0
Listed h l = Rising l × ((k : ℕ) → member k l ≡ abs h k)

-- a set call ends: the call, its tag, the heap after, and the answer
pub data EndStep (h : Heap) : Position → Call → ℕ → Heap → Answer → Type 0 where
  end_18 : {k x : ℕ} → EndStep h (lookup k (at_18 x)) Contains k h (found_answer (h.has x k))
  -- line 36, an insert: what is answered for so many listed tags, and whether the bucket has the tag
  end_36_kept : {k x : ℕ} (l : List ℕ) → state_for h x k ≡ changeable → Listed h l → gains (insert_answer (length l) (h.has x k)) ≡ false
      → EndStep h (update true k (at_36 x)) Insert k h (insert_answer (length l) (h.has x k))
  end_36_added : {k x : ℕ} (l : List ℕ) → state_for h x k ≡ changeable → Listed h l → insert_answer (length l) (h.has x k) ≡ Yes
      → EndStep h (update true k (at_36 x)) Insert k (put x k true h) Yes
  -- a remove
  end_36_removed : {k x : ℕ} → state_for h x k ≡ changeable → h.has x k ≡ true → EndStep h (update false k (at_36 x)) Remove k (put x k false h) Yes
  end_36_absent : {k x : ℕ} → state_for h x k ≡ changeable → h.has x k ≡ false → EndStep h (update false k (at_36 x)) Remove k h No
