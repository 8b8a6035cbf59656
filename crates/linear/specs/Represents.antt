-- The words represent the heap of the model: the head, sizes, predecessors, places, first words and tags of the known nodes and of
-- their buckets are in the words as in the heap. K says which nodes are known: the head, its predecessor, and those that a running
-- task names. R gives the record that each is in; different ones are in different records. Assumes nothing.
use Rattle.std.specs.Prelude.{◌≡◌, refl, Bool, true, false, ℕ, suc, ◌%◌, ◌≤◌, ◌<◌}
use Rattle.std.proofs.Common.{◌∙◌, arith}
use Rattle.spec.specs.declared.Task.{Task}
use Rattle.spec.specs.Lists.{member}
use Rattle.spec.specs.Machine.{Machine, with_task, with_state, state_task, set_task}
use Rattle.spec.specs.Words.{link, size, place, tags}
use Rattle.spec.specs.Words as Words
use Rattle.spec.specs.Sound.{node_count, bucket_count}
use Rattle.laws.specs.SoundFacts.{SoundFacts}
use Rattle.laws.specs.Sizes.{size_most}
use Rattle.model.specs.Functions.{upd, upd₂}
use Rattle.model.specs.PlaceState.{PlaceState, empty, changeable, frozen, Filled, of_changeable, of_frozen}
use Rattle.model.specs.Heap.{Heap, slot_in}
use Rattle.model.specs.Lines.{NoPred}
use Rattle.spec.specs.Listed.{slot}

-- which record a node of the model is in, and which one the bucket at a place of it
pub record Records : Type 0 where
  pub node : ℕ → ℕ
  pub bucket : ℕ → ℕ → ℕ

abbrev pub with_node : ℕ → ℕ → Records → Records
with_node x r R = record { node = upd R.node x r; bucket = R.bucket }

abbrev pub with_bucket : ℕ → ℕ → ℕ → Records → Records
with_bucket x i r R = record { node = R.node; bucket = upd₂ R.bucket x i r }

-- what a place's word says, and what a bucket's first word says, of a place's state
abbrev pub place_word : PlaceState → ℕ → ℕ
place_word empty r = 0
place_word changeable r = link r
place_word frozen r = link r

abbrev pub first_word : PlaceState → ℕ
first_word empty = 0
first_word changeable = 1
first_word frozen = 0

pub place_word_filled : {p : PlaceState} (r : ℕ) → Filled p → place_word p r ≡ link r
place_word_filled r of_changeable = refl
place_word_filled r of_frozen = refl

-- bucket record r has the tag
abbrev pub record_has : Machine → ℕ → ℕ → Bool
record_has y r k = member k (tags y.buckets r)

-- bucket record r holds the tags of x's place i
pub record HoldsTags (y : Machine) (h : Heap) (x i r : ℕ) : Type 0 where
  pub inside : (k : ℕ) → slot_in h x k ≡ i → record_has y r k ≡ h.has x k
  pub outside : (k : ℕ) → ¬ (slot_in h x k ≡ i) → record_has y r k ≡ false

-- the head, its predecessor and all that is known; a tag's place number is reckoned by the model's rule; then the words, and that
-- two known nodes, or two of their buckets, are never in one record
pub record Represents (y : Machine) (h : Heap) (K : ℕ → Type 0) (R : Records) : Type 0 where
  pub head≡ : y.state.head ≡ R.node h.head
  pub head_known : K h.head
  pub pred_known : h.linked ≡ true → (s : ℕ) → h.head ≡ suc s → K s
  pub known_bound : (x : ℕ) → K x → x ≤ h.head
  pub node_in_pool : (x : ℕ) → K x → R.node x < node_count y
  pub slot≡ : (k n : ℕ) → slot y.state.config k n ≡ h.key k % n
  pub size≡ : (x : ℕ) → K x → size y.nodes (R.node x) ≡ h.size x
  pub pred_some : h.linked ≡ true → (s : ℕ) → h.head ≡ suc s → Words.pred y.nodes (R.node h.head) ≡ link (R.node s)
  pub pred_none : (x : ℕ) → K x → NoPred h x → Words.pred y.nodes (R.node x) ≡ 0
  pub place≡ : (x i : ℕ) → K x → i < h.size x → place y.nodes (R.node x) i ≡ place_word (h.place x i) (R.bucket x i)
  pub first_word≡ : (x i : ℕ) → K x → i < h.size x → Filled (h.place x i) → Words.changeable y.buckets (R.bucket x i) ≡ first_word (h.place x i)
  pub tags : (x i : ℕ) → K x → i < h.size x → Filled (h.place x i) → HoldsTags y h x i (R.bucket x i)
  pub node_injective : (x z : ℕ) → K x → K z → R.node x ≡ R.node z → x ≡ z
  pub bucket_injective : (x i z j : ℕ) → K x → i < h.size x → Filled (h.place x i) → K z → j < h.size z → Filled (h.place z j)
      → R.bucket x i ≡ R.bucket z j
      → (x ≡ z) × (i ≡ j)

-- a bucket record that no known place has; a node record that is no known node
abbrev pub AwayBucket : Heap → (ℕ → Type 0) → Records → ℕ → Type 0
AwayBucket h K R r = (x j : ℕ) → K x → j < h.size x → Filled (h.place x j) → ¬ (r ≡ R.bucket x j)

abbrev pub AwayNode : (ℕ → Type 0) → Records → ℕ → Type 0
AwayNode K R r = (x : ℕ) → K x → ¬ (r ≡ R.node x)

-- a bucket that a task has taken for place i of t, and not put there yet
pub record NewBucket (y : Machine) (h : Heap) (K : ℕ → Type 0) (R : Records) (s t i r : ℕ) : Type 0 where
  pub opened : Words.changeable y.buckets r ≡ 1
  pub inside : (k : ℕ) → slot_in h t k ≡ i → record_has y r k ≡ h.has s k
  pub outside : (k : ℕ) → ¬ (slot_in h t k ≡ i) → record_has y r k ≡ false
  pub away : AwayBucket h K R r

-- a node that a task has taken and that is not the head yet
pub record NewNode (y : Machine) (K : ℕ → Type 0) (R : Records) (t n r : ℕ) : Type 0 where
  pub size≡ : size y.nodes r ≡ n
  pub from : Words.pred y.nodes r ≡ link (R.node t)
  pub places : (i : ℕ) → i < 32 → place y.nodes r i ≡ 0
  pub away : AwayNode K R r

-- another task's record
pub represents_task : {y : Machine} {h : Heap} {K : ℕ → Type 0} {R : Records} (k : ℕ) (c : Task) → Represents y h K R → Represents (set_task k c y) h K R
unfolding set_task with_task with_state state_task
represents_task k c rep = record {
  head≡ = rep.head≡;
  head_known = rep.head_known;
  pred_known = rep.pred_known;
  known_bound = rep.known_bound;
  node_in_pool = rep.node_in_pool;
  slot≡ = rep.slot≡;
  size≡ = rep.size≡;
  pred_some = rep.pred_some;
  pred_none = rep.pred_none;
  place≡ = rep.place≡;
  first_word≡ = rep.first_word≡;
  tags = λ x i a b p. let t = rep.tags x i a b p in record { inside = t.inside; outside = t.outside };
  node_injective = rep.node_injective;
  bucket_injective = rep.bucket_injective;
}

-- fewer nodes are known
module _ {y : Machine} {h : Heap} {K : ℕ → Type 0} {R : Records} (rep : Represents y h K R) where
  pub represents_fewer : (J : ℕ → Type 0) → ((x : ℕ) → J x → K x) → J h.head → (h.linked ≡ true → (s : ℕ) → h.head ≡ suc s → J s) → Represents y h J R
  represents_fewer J g a b = record {
    head≡ = rep.head≡;
    head_known = a;
    pred_known = b;
    known_bound = λ x k. rep.known_bound x (g x k);
    node_in_pool = λ x k. rep.node_in_pool x (g x k);
    slot≡ = rep.slot≡;
    size≡ = λ x k. rep.size≡ x (g x k);
    pred_some = rep.pred_some;
    pred_none = λ x k. rep.pred_none x (g x k);
    place≡ = λ x i k. rep.place≡ x i (g x k);
    first_word≡ = λ x i k. rep.first_word≡ x i (g x k);
    tags = λ x i k. rep.tags x i (g x k);
    node_injective = λ x y k l. rep.node_injective x y (g x k) (g y l);
    bucket_injective = λ x i y j k a p l. rep.bucket_injective x i y j (g x k) a p (g y l);
  }

module _ {y : Machine} {h : Heap} {K : ℕ → Type 0} {R : Records} (f : SoundFacts y) (rep : Represents y h K R) where
  pub size_bound : (x : ℕ) → K x → h.size x ≤ 32
  size_bound x k = rw (rep.size≡ x k) at (size_most (f.node (R.node x) (rep.node_in_pool x k)).size_ok)

  pub bucket_in_pool : (x i : ℕ) → K x → i < h.size x → Filled (h.place x i) → R.bucket x i < bucket_count y
  bucket_in_pool x i k b p =
      let s = size_bound x k in
      let c = (f.node (R.node x) (rep.node_in_pool x k)).place_ok i (omega arith) in
      let d : place y.nodes (R.node x) i ≡ link (R.bucket x i) = rep.place≡ x i k b ∙ place_word_filled (R.bucket x i) p in
      omega arith
