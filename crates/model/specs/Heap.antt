-- The heap of the model: what the words mean, without records and their reuse. Nodes are numbered in the order in which they became
-- head: node `head` is the head, the one before it is `head - 1`, and so on. A bucket is named by its node and place. What a task has
-- taken and not yet put in place is not in the heap. The five writes that the lines make. Assumes nothing.
use Rattle.std.specs.Prelude.{◌≡◌, refl, Bool, true, false, ℕ, suc, pred, ◌%◌}
use Rattle.model.specs.Functions.{at?, pick, upd, upd₂}
use Rattle.model.specs.PlaceState.{PlaceState, empty, changeable, frozen, Filled, of_changeable, of_frozen}

pub record Heap : Type 0 where
  pub head : ℕ
  -- does the head have a predecessor? No other node has one
  pub linked : Bool
  pub size : ℕ → ℕ
  -- the number of a tag that a mod is taken of: any rule, the same for ever
  pub key : ℕ → ℕ
  -- node, place number: the place's state
  pub place : ℕ → ℕ → PlaceState
  -- node, tag: does the bucket at the tag's place hold it?
  pub has : ℕ → ℕ → Bool

-- the state of the place of x that number k goes to
abbrev pub at : Heap → ℕ → ℕ → PlaceState
at h x k = h.place x (k % h.size x)

-- the number of tag k's place in node x, and that place's state
abbrev pub slot_in : Heap → ℕ → ℕ → ℕ
slot_in h x k = h.key k % h.size x

abbrev pub state_for : Heap → ℕ → ℕ → PlaceState
state_for h x k = h.place x (slot_in h x k)

-- the node whose bucket decides a tag of number k: the paper's "Listed tags"
unfoldable pub decider_of : PlaceState → ℕ → ℕ
decider_of empty n = pred n
decider_of changeable n = n
decider_of frozen n = n

abbrev pub decider : Heap → ℕ → ℕ
decider h k = decider_of (at h h.head k) h.head

abbrev pub abs : Heap → ℕ → Bool
abs h k = h.has (decider h (h.key k)) k

pub decider_empty : {p : PlaceState} (n : ℕ) → p ≡ empty → decider_of p n ≡ pred n
unfolding decider_of
decider_empty n e = rw e

pub decider_filled : {p : PlaceState} (n : ℕ) → Filled p → decider_of p n ≡ n
unfolding decider_of
decider_filled n of_changeable = refl
decider_filled n of_frozen = refl

-- ---- the writes

abbrev pub fill : ℕ → ℕ → ℕ → Heap → Heap
fill s t i h = record {
  head = h.head;
  linked = h.linked;
  size = h.size;
  key = h.key;
  place = upd₂ h.place t i changeable;
  has = λ x k. pick (at? t i x (slot_in h t k)) (h.has s k) (h.has x k);
}

abbrev pub freeze : ℕ → ℕ → Heap → Heap
freeze x i h = record { head = h.head; linked = h.linked; size = h.size; key = h.key; place = upd₂ h.place x i frozen; has = h.has }

abbrev pub put : ℕ → ℕ → Bool → Heap → Heap
put x k v h = record { head = h.head; linked = h.linked; size = h.size; key = h.key; place = h.place; has = upd₂ h.has x k v }

abbrev pub unlink : Heap → Heap
unlink h = record { head = h.head; linked = false; size = h.size; key = h.key; place = h.place; has = h.has }

abbrev pub advance : ℕ → Heap → Heap
advance n h = record {
  head = suc h.head;
  linked = true;
  size = upd h.size (suc h.head) n;
  key = h.key;
  place = upd h.place (suc h.head) (λ i. empty);
  has = h.has;
}
