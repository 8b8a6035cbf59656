-- After each write the words represent the heap after the model's write. Assumes nothing.
use Prim.Native.Nat.{◌*◌, ◌<◌, ◌≤◌, suc, ℕ}
use Rattle.std.specs.Prelude.{Bool, ◌⊎◌, ◌≡◌, get_or, length, set}
use mathlib.Core.List.{List}
use Rattle.std.proofs.Math.Logic.{inl, inr}
use Rattle.std.proofs.Common.{◌∙◌, arith}
use Rattle.std.proofs.Math.Path.{ap, refl, subst, sym}
use Rattle.std.proofs.Math.Decide.{ℕ_discrete}
use Rattle.std.proofs.Math.Dec.{eqb}
use Rattle.std.proofs.Math.ListN.{length-set}
use Rattle.std.proofs.Math.Seq.{get_or-set_other, get_or-set_same}
use Rattle.spec.specs.Words.{bucket_of, count, overwrite, tags}
use Rattle.laws.specs.Tests.{at_hit, at_miss}
use Rattle.coop_spec.specs.Atomic.{Operations, changed}
use Rattle.coop_spec.specs.Machine.{Machine, as_done, as_returned, never_invoked, operation_of, set_operation, with_flag, with_node, with_operations}
use Rattle.coop_spec.specs.Machine.{with_resp, with_state, with_versions}
use Rattle.coop_spec.specs.Words.{apply, install, op_word, raise_flag, set_op, tags_of}
use Rattle.coop_spec.specs.declared.Operation.{Operation}
use Rattle.coop_model.specs.Functions.{changed_other, changed_same}
use Rattle.coop_model.specs.Heap.{Heap, OpField, advance, mark_done, mark_returned, nil, op, put_op, raise, respond}
use Rattle.coop_linear.specs.Represents.{Represents, field_word}
use Rattle.coop_laws.specs.VersionWords.{first_count, first_other, first_same, first_tags, new_count, new_first, new_length, new_same}
use Rattle.coop_laws.specs.VersionWords.{new_tags}

module _ {T : Operations} {y : Machine} {h : Heap} {K : ℕ → Type 0} {slot : ℕ → ℕ} (rep : Represents T y h K slot) where
  -- fewer versions are named
  pub fewer_known : (J : ℕ → Type 0) → ((v : ℕ) → J v → K v) → J h.current → Represents T y h J slot
  fewer_known J f c = record {
    same_node = rep.same_node;
    same_flag = rep.same_flag;
    same_resp = rep.same_resp;
    same_done = rep.same_done;
    types = rep.types;
    in_use = rep.in_use;
    same_op = λ v k. rep.same_op v (f v k);
    same_set = λ v k. rep.same_set v (f v k);
    apart = λ v u k l. rep.apart v u (f v k) (f u l);
    has_current = c;
    same_returned = rep.same_returned;
    below = λ v k. rep.below v (f v k);
    few_in = λ v k. rep.few_in v (f v k);
    length_right = rep.length_right;
    operations_64 = rep.operations_64;
  }

  -- 109
  pub raise_represented : Represents T (apply raise_flag y) (raise h) K slot
  unfolding apply with_flag with_state op_word tags_of operation_of
  raise_represented = record {
    same_node = rep.same_node;
    same_flag = refl;
    same_resp = rep.same_resp;
    same_done = rep.same_done;
    types = rep.types;
    in_use = rep.in_use;
    same_op = rep.same_op;
    same_set = rep.same_set;
    apart = rep.apart;
    has_current = rep.has_current;
    same_returned = rep.same_returned;
    below = rep.below;
    few_in = rep.few_in;
    length_right = rep.length_right;
    operations_64 = rep.operations_64;
  }

  -- 102 and 123
  module _ (o : ℕ) (k : K o) (x : OpField) (known : (m : ℕ) → x ≡ op m → ¬ ((operation_of y m).kind ≡ 0)) where
    fits : 66 * slot o < length y.versions
    fits = let a = rep.below o k in let b = rep.length_right in omega arith

    pub op_represented : Represents T (apply (set_op (slot o) (field_word x)) y) (put_op o x h) K slot
    unfolding apply with_versions op_word tags_of operation_of
    op_represented = record {
      same_node = rep.same_node;
      same_flag = rep.same_flag;
      same_resp = rep.same_resp;
      same_done = rep.same_done;
      types = rep.types;
      in_use = λ v m e. names v m e (ℕ_discrete v o);
      same_op = λ v l. first v l (ℕ_discrete v o);
      same_set = λ v l. first_tags y.versions (slot o) (field_word x) fits (slot v) (rep.few_in v l) ∙ rep.same_set v l;
      apart = rep.apart;
      has_current = rep.has_current;
      same_returned = rep.same_returned;
      below = rep.below;
      few_in = λ v l. subst (λ (z : ℕ). z ≤ 64) (sym (first_count y.versions (slot o) (field_word x) fits (slot v))) (rep.few_in v l);
      length_right = length-set y.versions (66 * slot o) (field_word x) ∙ rep.length_right;
      operations_64 = rep.operations_64;
    }
      where
        names : (v m : ℕ) → changed h.op_at o x v ≡ op m → Dec (v ≡ o) → ¬ ((operation_of y m).kind ≡ 0)
        names v m e (yes q) = known m (sym (changed_same h.op_at o x) ∙ ap (changed h.op_at o x) (sym q) ∙ e)
        names v m e (no d) = rep.in_use v m (sym (changed_other h.op_at o x v d) ∙ e)

        first : (v : ℕ) → K v → Dec (v ≡ o) → get_or (set y.versions (66 * slot o) (field_word x)) (66 * slot v) 0 ≡ field_word (changed h.op_at o x v)
        first v l (yes q) =
            ap (λ (u : ℕ). get_or (set y.versions (66 * slot o) (field_word x)) (66 * slot u) 0) q ∙ first_same y.versions (slot o) (field_word x) fits
            ∙ ap field_word (sym (ap (changed h.op_at o x) q ∙ changed_same h.op_at o x))
        first v l (no d) = first_other y.versions (slot o) (field_word x) fits (slot v) (λ q. d (rep.apart v o l k q)) ∙ rep.same_op v l ∙ ap field_word
            (sym (changed_other h.op_at o x v d))

  -- 138, 139 and an invoke that ends true: operation n becomes q, of the same kind and tag
  module _ (n : ℕ) (small : n < 64) (q : Operation) (kind≡ : q.kind ≡ (operation_of y n).kind) (tag≡ : q.tag ≡ (operation_of y n).tag) where
    pub oper_same : operation_of (set_operation n q y) n ≡ q
    unfolding set_operation with_operations with_state operation_of
    oper_same = get_or-set_same y.state.operation n q never_invoked (let a = rep.operations_64 in omega arith)

    pub oper_other : (m : ℕ) → ¬ (m ≡ n) → operation_of (set_operation n q y) m ≡ operation_of y m
    unfolding set_operation with_operations with_state operation_of
    oper_other m d = get_or-set_other y.state.operation n m q never_invoked d

    -- a part of an operation after it
    part : {A : Type 0} (f : Operation → A) (g : ℕ → A) → ((m : ℕ) → f (operation_of y m) ≡ g m) → (m : ℕ)
        → f (operation_of (set_operation n q y) m) ≡ changed g n (f q) m
    part f g e m = go (ℕ_discrete m n)
      where
        go : Dec (m ≡ n) → f (operation_of (set_operation n q y) m) ≡ changed g n (f q) m
        go (yes z) = ap (λ (u : ℕ). f (operation_of (set_operation n q y) u)) z ∙ ap f oper_same ∙ sym (ap (changed g n (f q)) z ∙ changed_same g n (f q))
        go (no d) = ap f (oper_other m d) ∙ e m ∙ sym (changed_other g n (f q) m d)

    -- a part that stays
    stays : {A : Type 0} (f : Operation → A) → f q ≡ f (operation_of y n) → (m : ℕ) → f (operation_of (set_operation n q y) m) ≡ f (operation_of y m)
    stays f e m = go (ℕ_discrete m n)
      where
        go : Dec (m ≡ n) → f (operation_of (set_operation n q y) m) ≡ f (operation_of y m)
        go (yes z) = ap (λ (u : ℕ). f (operation_of (set_operation n q y) u)) z ∙ ap f oper_same ∙ e ∙ ap (λ (u : ℕ). f (operation_of y u)) (sym z)
        go (no d) = ap f (oper_other m d)

    module _ (g : Heap) (current≡ : g.current ≡ h.current) (flag≡ : g.flag ≡ h.flag) (op≡ : g.op_at ≡ h.op_at) (set≡ : g.set ≡ h.set)
        (resps : (m : ℕ) → (operation_of (set_operation n q y) m).resp ≡ g.resp m) (dones : (m : ℕ) → (operation_of (set_operation n q y) m).done ≡ g.done m)
        (returns : (m : ℕ) → (operation_of (set_operation n q y) m).returned ≡ g.returned m) where
      kind_of : (m : ℕ) → (operation_of (set_operation n q y) m).kind ≡ (operation_of y m).kind
      kind_of = stays (λ z. z.kind) kind≡

      pub operation_represented : Represents T (set_operation n q y) g K slot
      unfolding set_operation with_operations with_state op_word tags_of
      operation_represented = record {
        same_node = rep.same_node ∙ ap slot (sym current≡);
        same_flag = rep.same_flag ∙ sym flag≡;
        same_resp = resps;
        same_done = dones;
        types = λ m d. let a = rep.types m (λ z. d (kind_of m ∙ z)) in (ap (λ (z : ℕ). eqb z 1) (kind_of m) ∙ a.0, stays (λ z. z.tag) tag≡ m ∙ a.1);
        in_use = λ v m e z. rep.in_use v m (sym (ap (λ (u : ℕ → OpField). u v) op≡) ∙ e) (sym (kind_of m) ∙ z);
        same_op = λ v k. rep.same_op v k ∙ ap (λ (u : ℕ → OpField). field_word (u v)) (sym op≡);
        same_set = λ v k. rep.same_set v k ∙ ap (λ (u : ℕ → List ℕ). u v) (sym set≡);
        apart = rep.apart;
        has_current = subst K (sym current≡) rep.has_current;
        same_returned = returns;
        below = rep.below;
        few_in = rep.few_in;
        length_right = rep.length_right;
        operations_64 = length-set y.state.operation n q ∙ rep.operations_64;
      }

    pub resp_represented : (b : Bool) → q ≡ with_resp b (operation_of y n) → Represents T (set_operation n q y) (respond n b h) K slot
    unfolding with_resp
    resp_represented b e =
        operation_represented (respond n b h) refl refl refl refl
        (λ m. part (λ z. z.resp) h.resp rep.same_resp m ∙ ap (λ (z : Bool). changed h.resp n z m)
        (ap (λ (z : Operation). z.resp) e))
        (λ m. stays (λ z. z.done) (ap (λ (z : Operation). z.done) e) m ∙ rep.same_done m)
        (λ m. stays (λ z. z.returned) (ap (λ (z : Operation). z.returned) e) m ∙ rep.same_returned m)

    pub done_represented : q ≡ as_done (operation_of y n) → Represents T (set_operation n q y) (mark_done n h) K slot
    unfolding as_done
    done_represented e =
        operation_represented (mark_done n h) refl refl refl refl (λ m. stays (λ z. z.resp) (ap (λ (z : Operation). z.resp) e) m ∙ rep.same_resp m)
        (λ m. part (λ z. z.done) h.done rep.same_done m ∙ ap (λ (z : Bool). changed h.done n z m) (ap (λ (z : Operation). z.done) e))
        (λ m. stays (λ z. z.returned) (ap (λ (z : Operation). z.returned) e) m ∙ rep.same_returned m)

    pub returned_represented : q ≡ as_returned (operation_of y n) → Represents T (set_operation n q y) (mark_returned n h) K slot
    unfolding as_returned
    returned_represented e =
        operation_represented (mark_returned n h) refl refl refl refl (λ m. stays (λ z. z.resp) (ap (λ (z : Operation). z.resp) e) m ∙ rep.same_resp m)
        (λ m. stays (λ z. z.done) (ap (λ (z : Operation). z.done) e) m ∙ rep.same_done m)
        (λ m. part (λ z. z.returned) h.returned rep.same_returned m ∙ ap (λ (z : Bool). changed h.returned n z m)
        (ap (λ (z : Operation). z.returned) e))

  -- 140: a version that nobody names is taken; it is the next in order
  module _ (k : ℕ) (free : k < y.state.versions) (away : (v : ℕ) → K v → ¬ (slot v ≡ k)) (fresh : ¬ K (suc h.current))
      (bare : h.op_at (suc h.current) ≡ nil) (S : List ℕ)
      (few : length S ≤ 64) where
    abbrev Now : ℕ → Type 0
    Now v = (v ≡ suc h.current) ⊎ K v

    abbrev place : ℕ → ℕ
    place = changed slot (suc h.current) k

    was : (v : ℕ) → K v → place v ≡ slot v
    was v l = changed_other slot (suc h.current) k v (λ q. fresh (subst K q l))

    is : place (suc h.current) ≡ k
    is = changed_same slot (suc h.current) k

    pub install_represented : Represents T (apply (install k S) y) (advance S h) Now place
    unfolding apply with_node with_state with_versions op_word tags_of operation_of
    install_represented = record {
      same_node = sym is;
      same_flag = rep.same_flag;
      same_resp = rep.same_resp;
      same_done = rep.same_done;
      types = rep.types;
      in_use = rep.in_use;
      same_op = first;
      same_set = inside;
      apart = two;
      has_current = inl refl;
      same_returned = rep.same_returned;
      below = λ v l. elim l [
        | inl q ↦ subst (λ (z : ℕ). z < y.state.versions) (sym (ap place q ∙ is)) free
        | inr l ↦ subst (λ (z : ℕ). z < y.state.versions) (sym (was v l))
            (rep.below v l)
      ];
      few_in = counted;
      length_right = new_length y.versions y.state.versions rep.length_right k free S few ∙ rep.length_right;
      operations_64 = rep.operations_64;
    }
      where
        W : List ℕ
        W = overwrite y.versions (66 * k) (bucket_of 0 S)

        first : (v : ℕ) → Now v → get_or (overwrite y.versions (66 * k) (bucket_of 0 S)) (66 * place v) 0 ≡ field_word (h.op_at v)
        first v (inl q) =
            ap (λ (u : ℕ). get_or W (66 * u) 0) (ap place q ∙ is) ∙ at_hit refl
            (new_first y.versions y.state.versions rep.length_right k free S few k) ∙ sym
            (ap field_word (ap h.op_at q ∙ bare))
        first v (inr l) =
            ap (λ (u : ℕ). get_or W (66 * u) 0) (was v l) ∙ at_miss (away v l)
            (new_first y.versions y.state.versions rep.length_right k free S few (slot v))
            ∙ rep.same_op v l

        few_k : (j : ℕ) → ¬ (j ≡ k) → count y.versions j ≤ 64 → tags (overwrite y.versions (66 * k) (bucket_of 0 S)) j ≡ tags y.versions j
        few_k j d b = at_miss d (new_tags y.versions y.state.versions rep.length_right k free S few j b)

        inside : (v : ℕ) → Now v → tags (overwrite y.versions (66 * k) (bucket_of 0 S)) (place v) ≡ changed h.set (suc h.current) S v
        inside v (inl q) =
            ap (tags W) (ap place q ∙ is) ∙ own_tags ∙ sym (ap (changed h.set (suc h.current) S) q ∙ changed_same h.set (suc h.current) S)
          where
            own_tags : tags (overwrite y.versions (66 * k) (bucket_of 0 S)) k ≡ S
            own_tags = new_same y.versions y.state.versions rep.length_right k free S few
        inside v (inr l) = ap (tags W) (was v l) ∙ few_k (slot v) (away v l) (rep.few_in v l) ∙ rep.same_set v l ∙ sym
            (changed_other h.set (suc h.current) S v (λ q. fresh (subst K q l)))

        two : (v u : ℕ) → Now v → Now u → place v ≡ place u → v ≡ u
        two v u (inl q) (inl p) e = q ∙ sym p
        two v u (inl q) (inr l) e = absurd (away u l (sym (was u l) ∙ sym e ∙ ap place q ∙ is))
        two v u (inr l) (inl p) e = absurd (away v l (sym (was v l) ∙ e ∙ ap place p ∙ is))
        two v u (inr l) (inr m) e = rep.apart v u l m (sym (was v l) ∙ e ∙ was u m)

        counted : (v : ℕ) → Now v → count (overwrite y.versions (66 * k) (bucket_of 0 S)) (place v) ≤ 64
        counted v (inl q) = subst (λ (z : ℕ). z ≤ 64) (sym (ap (count W) (ap place q ∙ is) ∙ at_hit refl
            (new_count y.versions y.state.versions rep.length_right k free S few k))) few
        counted v (inr l) = subst (λ (z : ℕ). z ≤ 64) (sym (ap (count W) (was v l) ∙ at_miss (away v l)
            (new_count y.versions y.state.versions rep.length_right k free S few (slot v)))) (rep.few_in v l)
