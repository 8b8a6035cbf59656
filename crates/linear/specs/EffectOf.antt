-- What an accepted line of a task at a position comes to in the model: one case for each kind of write, with the model's step and
-- what holds of the task's record afterwards. Assumes nothing.
use Rattle.std.specs.Prelude.{◌≡◌, Bool, false, List, ℕ, suc, ◌≤◌, ◌<◌, length}
use Rattle.spec.specs.declared.Task.{Task}
use Rattle.spec.specs.declared.Answer.{Answer}
use Rattle.spec.specs.declared.Answer.TheVariants.{Done}
use Rattle.spec.specs.Lists.{member}
use Rattle.spec.specs.Machine.{Machine}
use Rattle.spec.specs.Words.{link, set_head, set_place, clear_pred, put_tags, new_node, new_bucket}
use Rattle.spec.specs.Words as Words
use Rattle.spec.specs.Sound.{node_count, bucket_count}
use Rattle.spec.specs.Lines.{Effect, moves, writes, answers, answers_writing, answers_of, effect}
use Rattle.spec.specs.StepRefusals.{unsound_step, all_held}
use Rattle.laws.specs.Held.{HeldNode, HeldBucket}
use Rattle.model.specs.PlaceState.{empty, changeable, Filled}
use Rattle.model.specs.Heap.{Heap, fill, freeze, put, unlink, state_for, slot_in}
use Rattle.spec.specs.declared.Call.{Call}
use Rattle.model.specs.Positions.{Position, no_call, resize, at_28}
use Rattle.model.specs.Lines.{Step, EndStep}
use Rattle.linear.specs.Represents.{record_has, Represents, NewBucket, NewNode, Records, with_bucket}
use Rattle.linear.specs.KnownNodes.{Names, takes_at, nothing, bucket}
use Rattle.linear.specs.Matches.{Matches}

module _ {y : Machine} {h : Heap} {K : ℕ → Type 0} {R : Records} (rep : Represents y h K R) where
  pub data EffectOf (c : Task) (l : Position) : Effect → Type 0 where
    moves_to : {c' : Task} (l' : Position) → Step h l h l' → ((x : ℕ) → Names l' x → K x) → Matches h R l' c' → takes_at l' ≡ nothing → EffectOf c l (moves c')
    -- a set call ends
    ends_call : {call : Call} {k : ℕ} {a : Answer} → EndStep h l call k h a → {b : ℕ} → EffectOf c l (answers_of b Words.nothing a)
    ends_writing : {call : Call} {k : ℕ} {a : Answer} (x : ℕ) (v : Bool) (ks : List ℕ) → K x → state_for h x k ≡ changeable → length ks ≤ 64
        → ((j : ℕ) → ¬ (j ≡ k) → member j ks ≡ record_has y (R.bucket x (slot_in h x k)) j) → member k ks ≡ v
        → EndStep h l call k (put x k v h) a → {b : ℕ} → EffectOf c l (answers_of b (put_tags (R.bucket x (slot_in h x k)) ks) a)
    -- a resize ends
    ends_resize : (a : Answer) → Step h l h no_call → EffectOf c l (answers a)
    sets_head : (b : Bool) (n r : ℕ) → l ≡ resize b (at_28 h.head n) → c.new_node ≡ link r → NewNode y K R h.head n r
        → EffectOf c l (answers_writing (set_head r) Done)
    freezes : {c' : Task} (l' : Position) (x i : ℕ) → K x → i < h.size x → Filled (h.place x i) → Step h l (freeze x i h) l' → ((x : ℕ) → Names l' x → K x)
        → Matches (freeze x i h) R l' c'
        → takes_at l' ≡ nothing → EffectOf c l (writes (Words.freeze (R.bucket x i)) c')
    fills : {c' : Task} (l' : Position) (t s i r : ℕ) → t ≡ h.head → t ≡ suc s → i < h.size t → h.place t i ≡ empty → takes_at l ≡ bucket s t i
        → c.new_bucket ≡ link r → NewBucket y h K R s t i r
        → Step h l (fill s t i h) l' → ((x : ℕ) → Names l' x → K x) → Matches (fill s t i h) (with_bucket t i r R) l' c'
        → takes_at l' ≡ nothing → EffectOf c l (writes (set_place (R.node t) i (link r)) c')
    clears_pred : {c' : Task} (l' : Position) → Step h l (unlink h) l' → ((x : ℕ) → Names l' x → K x) → Matches (unlink h) R l' c' → takes_at l' ≡ nothing
        → EffectOf c l (writes (clear_pred (R.node h.head)) c')
    clears_no_pred : {c' : Task} (l' : Position) (t : ℕ) → K t → ¬ (t ≡ h.head) → Step h l h l' → ((x : ℕ) → Names l' x → K x) → Matches h R l' c'
        → takes_at l' ≡ nothing
        → EffectOf c l (writes (clear_pred (R.node t)) c')
    takes_node : {c' : Task} (b : Bool) (t n r : ℕ) → K t → Step h l h (resize b (at_28 t n)) → Matches h R (resize b (at_28 t n)) c' → c'.new_node ≡ link r
        → r < node_count y → ¬ HeldNode y r
        → EffectOf c l (writes (new_node r n (link (R.node t))) c')
    takes_bucket : {c' : Task} (l' : Position) (s t i r : ℕ) (ks : List ℕ) → Step h l h l' → ((x : ℕ) → Names l' x → K x) → Matches h R l' c'
        → c'.new_bucket ≡ link r → r < bucket_count y → ¬ HeldBucket y r → length ks ≤ 64
        → ((k : ℕ) → slot_in h t k ≡ i → member k ks ≡ h.has s k) → ((k : ℕ) → ¬ (slot_in h t k ≡ i) → member k ks ≡ false)
        → takes_at l' ≡ bucket s t i → EffectOf c l (writes (new_bucket r ks) c')

  pub record Accepts (c : Task) (l : Position) : Type 0 where
    pub sound_step : unsound_step y c ≡ false
    pub effect_of : all_held y c ≡ false → EffectOf c l (effect y c)
