-- The words represent the heap: the bucket's version, its flag, the operations, and the op, set and record of each version that the bucket
-- or a running task names. What tests on the words say of the heap. Assumes nothing.
use Rattle.std.specs.Prelude.{◌*◌, ◌+◌, ◌<◌, ◌≤◌, ℕ, Bool, false, not, true, List, ◌≡◌, refl, eqb, leb, length}
use Rattle.std.proofs.Common.{◌∙◌, ap, subst, sym, arith, eqb-true, leb-false, leb-true}
use Rattle.std.proofs.lemmas.Bool.{eqb-false}
use Rattle.spec.specs.Lists.{add_tag, member, remove_tag}
use Rattle.spec.specs.Words.{count, link, number}
use Rattle.laws.specs.Tests.{choose, tf}
use Rattle.coop_spec.specs.Atomic.{Operations, response_to, set_after}
use Rattle.coop_spec.specs.Lines.{frozen}
use Rattle.coop_spec.specs.Machine.{Machine, operation_of}
use Rattle.coop_spec.specs.Words.{applied, op_word, response, tags_of}
use Rattle.coop_spec.specs.declared.Operation.{Operation}
use Rattle.coop_model.specs.Heap.{Heap, OpField, bottom, nil, op}

-- ---- the words of the heap

abbrev pub field_word : OpField → ℕ
field_word nil = 0
field_word bottom = 1
field_word (op n) = n + 2

-- K: the versions that are known, because the bucket or a running task names them; `slot` says in which record each is
pub record Represents (T : Operations) (y : Machine) (h : Heap) (K : ℕ → Type 0) (slot : ℕ → ℕ) : Type 0 where
  pub same_node : y.state.node ≡ slot h.current
  pub same_flag : y.state.flag ≡ h.flag
  pub same_resp : (n : ℕ) → (operation_of y n).resp ≡ h.resp n
  pub same_done : (n : ℕ) → (operation_of y n).done ≡ h.done n
  pub types : (n : ℕ) → ¬ ((operation_of y n).kind ≡ 0) → (eqb (operation_of y n).kind 1 ≡ T.inserts n) × ((operation_of y n).tag ≡ T.tag n)
  pub in_use : (v m : ℕ) → h.op_at v ≡ op m → ¬ ((operation_of y m).kind ≡ 0)
  pub same_op : (v : ℕ) → K v → op_word y (slot v) ≡ field_word (h.op_at v)
  pub same_set : (v : ℕ) → K v → tags_of y (slot v) ≡ h.set v
  pub apart : (v u : ℕ) → K v → K u → slot v ≡ slot u → v ≡ u
  pub has_current : K h.current
  pub same_returned : (n : ℕ) → (operation_of y n).returned ≡ h.returned n
  pub below : (v : ℕ) → K v → slot v < y.state.versions
  pub few_in : (v : ℕ) → K v → count y.versions (slot v) ≤ 64
  pub length_right : length y.versions ≡ 66 * y.state.versions
  pub operations_64 : length y.state.operation ≡ 64

pub number_link : (k : ℕ) → number (link k) ≡ k
number_link k = omega arith

pub word_zero : (m : OpField) → field_word m ≡ 0 → m ≡ nil
word_zero nil e = refl
word_zero bottom e = absurd (omega arith)
word_zero (op n) e = absurd (omega arith)

pub word_one : (m : OpField) → field_word m ≡ 1 → m ≡ bottom
word_one nil e = absurd (omega arith)
word_one bottom e = refl
word_one (op n) e = absurd (omega arith)

pub word_two : (m : OpField) → 2 ≤ field_word m → (n : ℕ) × (m ≡ op n)
word_two nil e = absurd (omega arith)
word_two bottom e = absurd (omega arith)
word_two (op n) e = (n, refl)

pub response_is : (q : Operation) (b : Bool) (k : ℕ) (S : List ℕ) → eqb q.kind 1 ≡ b → q.tag ≡ k → response q S ≡ response_to b k S
unfolding response response_to
response_is q true k S e f =
    choose (λ (x : Bool). x ≡ not (member k S)) (eqb q.kind 1) (not (member q.tag S)) (member q.tag S) (λ z. ap (λ (t : ℕ). not (member t S)) f)
    (λ z. absurd (tf e z))
response_is q false k S e f = choose (λ (x : Bool). x ≡ member k S) (eqb q.kind 1) (not (member q.tag S)) (member q.tag S) (λ z. absurd (tf z e))
    (λ z. ap (λ (t : ℕ). member t S) f)

pub applied_is : (q : Operation) (b : Bool) (k : ℕ) (S : List ℕ) → eqb q.kind 1 ≡ b → q.tag ≡ k → applied q S ≡ set_after b k S
unfolding applied set_after
applied_is q true k S e f =
    choose (λ (x : List ℕ). x ≡ add_tag k S) (eqb q.kind 1) (add_tag q.tag S) (remove_tag q.tag S) (λ z. ap (λ (t : ℕ). add_tag t S) f)
    (λ z. absurd (tf e z))
applied_is q false k S e f = choose (λ (x : List ℕ). x ≡ remove_tag k S) (eqb q.kind 1) (add_tag q.tag S) (remove_tag q.tag S) (λ z. absurd (tf z e))
    (λ z. ap (λ (t : ℕ). remove_tag t S) f)

module _ {T : Operations} {y : Machine} {h : Heap} {K : ℕ → Type 0} {slot : ℕ → ℕ} (rep : Represents T y h K slot) where
  -- ---- the tests

  pub current_word : op_word y y.state.node ≡ field_word (h.op_at h.current)
  current_word = ap (op_word y) rep.same_node ∙ rep.same_op h.current rep.has_current

  pub frozen_yes : frozen y ≡ true → h.op_at h.current ≡ bottom
  frozen_yes e = word_one (h.op_at h.current) (sym current_word ∙ eqb-true _ 1 e)

  pub frozen_no : frozen y ≡ false → ¬ (h.op_at h.current ≡ bottom)
  frozen_no e q = eqb-false _ 1 e (current_word ∙ ap field_word q)

  module _ (v : ℕ) (k : K v) where
    pub word_at : op_word y (number (link (slot v))) ≡ field_word (h.op_at v)
    word_at = ap (op_word y) (number_link (slot v)) ∙ rep.same_op v k

    pub nil_yes : eqb (op_word y (number (link (slot v)))) 0 ≡ true → h.op_at v ≡ nil
    nil_yes e = word_zero (h.op_at v) (sym word_at ∙ eqb-true _ 0 e)

    pub nil_no : eqb (op_word y (number (link (slot v)))) 0 ≡ false → ¬ (h.op_at v ≡ nil)
    nil_no e q = eqb-false _ 0 e (word_at ∙ ap field_word q)

    pub op_yes : leb 2 (op_word y (number (link (slot v)))) ≡ true → (m : ℕ) × (h.op_at v ≡ op m) × (op_word y (number (link (slot v))) ≡ m + 2)
    op_yes e =
        let b : 2 ≤ op_word y (number (link (slot v))) = leb-true 2 (op_word y (number (link (slot v)))) e in
        let x = word_two (h.op_at v) (subst (λ (z : ℕ). 2 ≤ z) word_at b) in
        (x.0, x.1, word_at ∙ ap field_word x.1)

    pub op_no : leb 2 (op_word y (number (link (slot v)))) ≡ false → (m : ℕ) → ¬ (h.op_at v ≡ op m)
    op_no e m q =
        let b = leb-false 2 (op_word y (number (link (slot v)))) e in
        let z : op_word y (number (link (slot v))) ≡ m + 2 = word_at ∙ ap field_word q in
        omega arith
