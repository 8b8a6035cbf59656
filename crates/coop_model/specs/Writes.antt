-- What each write of Figure 6 keeps: the heap invariant, and what waiting tasks count on. Assumes nothing.
use Rattle.std.specs.Prelude.{◌<◌, ◌≤◌, suc, ℕ, Bool, false, true, List, ◌⊎◌, ◌≡◌, refl, length}
use Rattle.std.proofs.Common.{inl, inr, ◌∙◌, ap, sym, le_refl, arith}
use Rattle.std.proofs.Math.Decide.{ℕ_discrete}
use Rattle.laws.specs.Ascending.{Rising}
use Rattle.laws.specs.Tests.{At, hit, miss, tf}
use Rattle.coop_spec.specs.Atomic.{FSet, Operations, change, changed, freeze, next, performed, reply}
use Rattle.coop_model.specs.Functions.{changed_at, changed_other, changed_same}
use Rattle.coop_model.specs.Heap.{Heap, OpField, advance, bottom, mark_done, mark_returned, nil, op, put_op, raise, respond}
use Rattle.coop_model.specs.HeapInvariant.{HeapInvariant, Rely, bottom_not_op, changeable, counted_set, nil_is_current, nil_not_bottom}
use Rattle.coop_model.specs.HeapInvariant.{nil_not_op, not_ahead, same_op_number}
use Rattle.coop_model.specs.Tags.{after_length, after_rises}

module _ (T : Operations) (h : Heap) (A : FSet) (i : HeapInvariant T h A) where
  -- ---- writes that leave the bucket's version, the sets and the ops: the flag f, and of the operations resp, done and returned

  abbrev with_fields : Bool → (ℕ → Bool) → (ℕ → Bool) → (ℕ → Bool) → Heap
  with_fields f r d k = record { current = h.current; flag = f; set = h.set; op_at = h.op_at; resp = r; done = d; returned = k }

  module _ (f : Bool) (r d k : ℕ → Bool) (done_stays : (m : ℕ) → h.done m ≡ true → d m ≡ true) where
    fields_keep : ((m : ℕ) → d m ≡ true → (A.done m ≡ true) × (r m ≡ A.resp m)) → ((m : ℕ) → k m ≡ true → d m ≡ true)
        → HeapInvariant T (with_fields f r d k) A
    fields_keep answered returned = record {
      same_ok = i.same_ok;
      same_set = i.same_set;
      past_done = λ v a. let x = i.past_done v a in (x.0, x.1, done_stays x.0 x.2);
      ahead_nil = i.ahead_nil;
      claimed_done = i.claimed_done;
      done_claimed = i.done_claimed;
      done_answered = answered;
      returned_done = returned;
      one_version = i.one_version;
      rising = i.rising;
      few_tags = i.few_tags;
      numbers_low = i.numbers_low;
    }

    fields_rely : (h.flag ≡ true → f ≡ true) → ((m : ℕ) → A.done m ≡ true → h.resp m ≡ A.resp m → r m ≡ A.resp m) → Rely T h A (with_fields f r d k) A
    fields_rely flag_stays resp_stays = record {
      current_grows = le_refl _;
      flag_stays = flag_stays;
      done_stays = done_stays;
      claimed_stays = λ n e. e;
      op_stays = λ v m e. e;
      bottom_stays = λ e. (e, refl);
      nil_was_nil = λ v n a e. (e, λ d. d);
      resp_stays = resp_stays;
      set_stays = λ v a. refl;
      new_op_counted = λ v m a e. inl e;
    }

  -- ---- 109

  pub raise_keeps : HeapInvariant T (raise h) A
  raise_keeps = fields_keep true h.resp h.done h.returned (λ m e. e) i.done_answered i.returned_done

  pub raise_rely : Rely T h A (raise h) A
  raise_rely = fields_rely true h.resp h.done h.returned (λ m e. e) (λ e. refl) (λ m d e. e)

  -- ---- 138
  module _ (o m : ℕ) (e : h.op_at o ≡ op m) where
    pub respond_is : (respond m (reply T m (h.set o)) h).resp m ≡ A.resp m
    respond_is = changed_same h.resp m (reply T m (h.set o)) ∙ sym (i.claimed_done o m e).1

    pub respond_same : (k : ℕ) → h.resp k ≡ A.resp k → changed h.resp m (reply T m (h.set o)) k ≡ A.resp k
    respond_same k q =
        elim (changed_at h.resp m (reply T m (h.set o)) k) [ hit p f ↦ f ∙ sym (i.claimed_done o m e).1 ∙ ap A.resp (sym p) | miss n f ↦ f ∙ q ]

    pub respond_keeps : HeapInvariant T (respond m (reply T m (h.set o)) h) A
    respond_keeps =
        fields_keep h.flag (changed h.resp m (reply T m (h.set o))) h.done h.returned (λ k x. x)
        (λ k d. ((i.done_answered k d).0, respond_same k (i.done_answered k d).1)) i.returned_done

    pub respond_rely : Rely T h A (respond m (reply T m (h.set o)) h) A
    respond_rely = fields_rely h.flag (changed h.resp m (reply T m (h.set o))) h.done h.returned (λ k x. x) (λ x. x) (λ k d x. respond_same k x)

    -- ---- 139
    pub done_more : (k : ℕ) → h.done k ≡ true → changed h.done m true k ≡ true
    done_more k d = elim (changed_at h.done m true k) [ hit p f ↦ f | miss n f ↦ f ∙ d ]

    pub done_keeps : h.resp m ≡ A.resp m → HeapInvariant T (mark_done m h) A
    done_keeps r =
        fields_keep h.flag h.resp (changed h.done m true) h.returned done_more (λ k d. go k d (changed_at h.done m true k))
        (λ k d. done_more k (i.returned_done k d))
      where
        go : (k : ℕ) → changed h.done m true k ≡ true → At (k ≡ m) true (h.done k) (changed h.done m true k)
            → (A.done k ≡ true) × (h.resp k ≡ A.resp k)
        go k d (hit p f) = (ap A.done p ∙ (i.claimed_done o m e).0, ap h.resp p ∙ r ∙ ap A.resp (sym p))
        go k d (miss n f) = i.done_answered k (sym f ∙ d)

    pub done_rely : Rely T h A (mark_done m h) A
    done_rely = fields_rely h.flag h.resp (changed h.done m true) h.returned done_more (λ x. x) (λ k d x. x)

    -- ---- 140
    module _ (q : o ≡ h.current) (d : h.done m ≡ true) where
      new : List ℕ
      new = change T m (h.set o)

      own≡ : h.op_at h.current ≡ op m
      own≡ = ap h.op_at (sym q) ∙ e

      beside : (v : ℕ) → v ≤ h.current → changed h.set (suc h.current) (change T m (h.set o)) v ≡ h.set v
      beside v a = changed_other h.set (suc h.current) _ v (λ p. absurd (omega arith))

      pub advance_keeps : HeapInvariant T (advance (change T m (h.set o)) h) A
      advance_keeps = record {
        same_ok = i.same_ok ∙ ap changeable own≡ ∙ sym (ap changeable (i.ahead_nil (suc h.current) (le_refl _)));
        same_set = i.same_set
            ∙ ap (λ (x : OpField). counted_set T x (h.set h.current)) own≡
            ∙ ap (λ (v : ℕ). change T m (h.set v)) (sym q)
            ∙ sym (changed_same h.set (suc h.current) (change T m (h.set o)))
            ∙ sym (ap (λ (x : OpField). counted_set T x (changed h.set (suc h.current) (change T m (h.set o)) (suc h.current)))
            (i.ahead_nil (suc h.current) (le_refl _)));
        past_done = λ v a. before v a (ℕ_discrete v h.current);
        ahead_nil = λ v a. i.ahead_nil v (omega arith);
        claimed_done = λ v k f. let c = i.claimed_done v k f in (c.0, c.1 ∙ ap (reply T k) (sym (beside v (not_ahead T h A i v k f))));
        done_claimed = i.done_claimed;
        done_answered = i.done_answered;
        returned_done = i.returned_done;
        one_version = i.one_version;
        rising = λ v. up v (changed_at h.set (suc h.current) (change T m (h.set o)) v);
        few_tags = λ v a. short v a (changed_at h.set (suc h.current) (change T m (h.set o)) v);
        numbers_low = i.numbers_low;
      }
        where
          before : (v : ℕ) → v < suc h.current → Dec (v ≡ h.current) → (k : ℕ) × (h.op_at v ≡ op k) × (h.done k ≡ true)
          before v a (yes p) = (m, ap h.op_at p ∙ own≡, d)
          before v a (no n) = i.past_done v (omega arith)

          up : (v : ℕ) → At (v ≡ suc h.current) (change T m (h.set o)) (h.set v) (changed h.set (suc h.current) (change T m (h.set o)) v)
              → Rising (changed h.set (suc h.current) (change T m (h.set o)) v)
          up v (hit p f) = rw f (after_rises (T.inserts m) (T.tag m) (h.set o) (i.rising o))
          up v (miss n f) = rw f (i.rising v)

          short : (v : ℕ) → v ≤ suc h.current
              → At (v ≡ suc h.current) (change T m (h.set o)) (h.set v) (changed h.set (suc h.current) (change T m (h.set o)) v)
              → length (changed h.set (suc h.current) (change T m (h.set o)) v) ≤ v
          short v a (hit p f) =
              let l = after_length (T.inserts m) (T.tag m) (h.set o) in let k = i.few_tags o (omega arith) in let z = ap length f in omega arith
          short v a (miss n f) = let k = i.few_tags v (omega arith) in let z = ap length f in omega arith

      pub advance_rely : Rely T h A (advance (change T m (h.set o)) h) A
      advance_rely = record {
        current_grows = omega arith;
        flag_stays = λ e. e;
        done_stays = λ n e. e;
        claimed_stays = λ n e. e;
        op_stays = λ v m e. e;
        bottom_stays = λ f. absurd (bottom_not_op f own≡);
        nil_was_nil = λ v n a e. (e, λ d. d);
        resp_stays = λ k d e. e;
        set_stays = beside;
        new_op_counted = λ v m a e. inl e;
      }

  -- ---- an invoke ends with yes
  pub returned_keeps : (n : ℕ) → h.done n ≡ true → HeapInvariant T (mark_returned n h) A
  returned_keeps n d =
      fields_keep h.flag h.resp h.done (changed h.returned n true) (λ k x. x) i.done_answered (λ k e. go k e (changed_at h.returned n true k))
    where
      go : (k : ℕ) → changed h.returned n true k ≡ true → At (k ≡ n) true (h.returned k) (changed h.returned n true k) → h.done k ≡ true
      go k e (hit p f) = ap h.done p ∙ d
      go k e (miss m f) = i.returned_done k (sym f ∙ e)

  -- ---- 102
  module _ (n : ℕ) (small : n < 64) (e : h.op_at h.current ≡ nil) (d : A.done n ≡ false) where
    -- the ops after it
    abbrev ops : ℕ → OpField
    ops = changed h.op_at h.current (op n)

    set_now : A.set ≡ h.set h.current
    set_now = i.same_set ∙ ap (λ (x : OpField). counted_set T x (h.set h.current)) e

    pub ok_now : A.ok ≡ true
    ok_now = i.same_ok ∙ ap changeable e

    op_here : ops h.current ≡ op n
    op_here = changed_same h.op_at h.current (op n)

    keeps : (v m : ℕ) → h.op_at v ≡ op m → ops v ≡ op m
    keeps v m f = changed_other h.op_at h.current (op n) v (λ q. absurd (nil_not_op e (ap h.op_at (sym q) ∙ f))) ∙ f

    other : (m : ℕ) → A.done m ≡ true → ¬ (m ≡ n)
    other m f q = tf f (ap A.done q ∙ d)

    pub claim_keeps : HeapInvariant T (put_op h.current (op n) h) (performed T n A)
    claim_keeps = record {
      same_ok = ok_now ∙ sym (ap changeable op_here);
      same_set = ap (change T n) set_now ∙ sym (ap (λ (x : OpField). counted_set T x (h.set h.current)) op_here);
      past_done = λ v a. let x = i.past_done v a in (x.0, keeps v x.0 x.1, x.2);
      ahead_nil = λ v a. changed_other h.op_at h.current (op n) v (λ q. absurd (omega arith)) ∙ i.ahead_nil v a;
      claimed_done = λ v m f. answered v m f (changed_at h.op_at h.current (op n) v);
      done_claimed = λ m f. has_version m f (changed_at A.done n true m);
      done_answered = λ m f. let s = i.done_answered m f in (
        changed_other A.done n true m (other m s.0) ∙ s.0,
        s.1 ∙ sym
            (changed_other A.resp n (reply T n A.set) m (other m s.0)),
      );
      returned_done = i.returned_done;
      one_version = λ v u m f g. one_place v u m f g (changed_at h.op_at h.current (op n) v) (changed_at h.op_at h.current (op n) u);
      rising = i.rising;
      few_tags = i.few_tags;
      numbers_low =
          λ v m f. elim (changed_at h.op_at h.current (op n) v) [ hit p g ↦ rw (same_op_number f g) small | miss p g ↦ i.numbers_low v m (sym g ∙ f) ];
    }
      where
        answered : (v m : ℕ) → ops v ≡ op m → At (v ≡ h.current) (op n) (h.op_at v) (ops v)
            → (changed A.done n true m ≡ true) × (changed A.resp n (reply T n A.set) m ≡ reply T m (h.set v))
        answered v m f (hit p g) =
            let q : n ≡ m = same_op_number g f in (
              ap (changed A.done n true) (sym q) ∙ changed_same A.done n true,
              ap (changed A.resp n (reply T n A.set)) (sym q) ∙ changed_same A.resp n (reply T n A.set) ∙ ap
                  (λ (x : ℕ). reply T x A.set) q ∙ ap (reply T m)
                  (set_now ∙ ap h.set (sym p)),
            )
        answered v m f (miss p g) =
            let c = i.claimed_done v m (sym g ∙ f) in
            (changed_other A.done n true m (other m c.0) ∙ c.0, changed_other A.resp n (reply T n A.set) m (other m c.0) ∙ c.1)

        has_version : (m : ℕ) → changed A.done n true m ≡ true → At (m ≡ n) true (A.done m) (changed A.done n true m)
            → (v : ℕ) × (ops v ≡ op m)
        has_version m f (hit p g) = (h.current, op_here ∙ ap op (sym p))
        has_version m f (miss p g) = let b = i.done_claimed m (sym g ∙ f) in (b.0, keeps b.0 m b.1)

        one_place : (v u m : ℕ) → ops v ≡ op m → ops u ≡ op m
            → At (v ≡ h.current) (op n) (h.op_at v) (ops v)
            → At (u ≡ h.current) (op n) (h.op_at u) (ops u) → v ≡ u
        one_place v u m f g (hit p x) (hit q y) = p ∙ sym q
        one_place v u m f g (hit p x) (miss q y) = absurd (other m (i.claimed_done u m (sym y ∙ g)).0 (same_op_number f x))
        one_place v u m f g (miss p x) (hit q y) = absurd (other m (i.claimed_done v m (sym x ∙ f)).0 (same_op_number g y))
        one_place v u m f g (miss p x) (miss q y) = i.one_version v u m (sym x ∙ f) (sym y ∙ g)

    pub claim_rely : Rely T h A (put_op h.current (op n) h) (performed T n A)
    claim_rely = record {
      current_grows = le_refl _;
      flag_stays = λ e. e;
      done_stays = λ n e. e;
      claimed_stays = λ m f. changed_other A.done n true m (other m f) ∙ f;
      op_stays = keeps;
      bottom_stays = λ f. absurd (nil_not_bottom e f);
      nil_was_nil = λ v m a f. absurd (not_nil v a f (changed_at h.op_at h.current (op n) v));
      resp_stays = λ m f g. g ∙ sym (changed_other A.resp n (reply T n A.set) m (other m f));
      set_stays = λ v a. refl;
      new_op_counted = λ v m a f. counted_now v m f (changed_at h.op_at h.current (op n) v);
    }
      where
        not_nil : (v : ℕ) → v ≤ h.current → ops v ≡ nil
            → At (v ≡ h.current) (op n) (h.op_at v) (ops v) → ⊥
        not_nil v a f (hit p g) = nil_not_op f g
        not_nil v a f (miss p g) = p (nil_is_current T h A i v a (sym g ∙ f))

        counted_now : (v m : ℕ) → ops v ≡ op m → At (v ≡ h.current) (op n) (h.op_at v) (ops v)
            → (h.op_at v ≡ op m) ⊎ (change T n A.set ≡ change T m (h.set v))
        counted_now v m f (hit p g) = inr (ap (λ (x : ℕ). change T x A.set) (same_op_number g f) ∙ ap (change T m) (set_now ∙ ap h.set (sym p)))
        counted_now v m f (miss p g) = inl (sym g ∙ f)

  -- ---- 123
  module _ (e : h.op_at h.current ≡ nil) where
    abbrev ops_frozen : ℕ → OpField
    ops_frozen = changed h.op_at h.current bottom

    bottom_here : ops_frozen h.current ≡ bottom
    bottom_here = changed_same h.op_at h.current bottom

    pub set_then : A.set ≡ h.set h.current
    set_then = i.same_set ∙ ap (λ (x : OpField). counted_set T x (h.set h.current)) e

    holds : (v m : ℕ) → h.op_at v ≡ op m → ops_frozen v ≡ op m
    holds v m f = changed_other h.op_at h.current bottom v (λ q. absurd (nil_not_op e (ap h.op_at (sym q) ∙ f))) ∙ f

    was : (v m : ℕ) → ops_frozen v ≡ op m → h.op_at v ≡ op m
    was v m f = elim (changed_at h.op_at h.current bottom v) [ hit p g ↦ absurd (bottom_not_op g f) | miss p g ↦ sym g ∙ f ]

    pub freeze_keeps : HeapInvariant T (put_op h.current bottom h) (next T freeze A)
    freeze_keeps = record {
      same_ok = sym (ap changeable bottom_here);
      same_set = set_then ∙ sym (ap (λ (x : OpField). counted_set T x (h.set h.current)) bottom_here);
      past_done = λ v a. let x = i.past_done v a in (x.0, holds v x.0 x.1, x.2);
      ahead_nil = λ v a. changed_other h.op_at h.current bottom v (λ q. absurd (omega arith)) ∙ i.ahead_nil v a;
      claimed_done = λ v m f. i.claimed_done v m (was v m f);
      done_claimed = λ m f. let b = i.done_claimed m f in (b.0, holds b.0 m b.1);
      done_answered = i.done_answered;
      returned_done = i.returned_done;
      one_version = λ v u m f g. i.one_version v u m (was v m f) (was u m g);
      rising = i.rising;
      few_tags = i.few_tags;
      numbers_low = λ v m f. i.numbers_low v m (was v m f);
    }

    pub freeze_rely : Rely T h A (put_op h.current bottom h) (next T freeze A)
    freeze_rely = record {
      current_grows = le_refl _;
      flag_stays = λ e. e;
      done_stays = λ n e. e;
      claimed_stays = λ n e. e;
      op_stays = holds;
      bottom_stays = λ f. absurd (nil_not_bottom e f);
      nil_was_nil = λ v m a f. (elim (changed_at h.op_at h.current bottom v) [ hit p g ↦ absurd (nil_not_bottom f g) | miss p g ↦ sym g ∙ f ], λ d. d);
      resp_stays = λ m f g. g;
      set_stays = λ v a. refl;
      new_op_counted = λ v m a f. inl (was v m f);
    }

-- that an invoke ended with yes changes nothing that others rely on
pub returned_rely : (T : Operations) (h g : Heap) (A B : FSet) (n : ℕ) → Rely T h A g B → Rely T h A (mark_returned n g) B
returned_rely T h g A B n l = record {
  current_grows = l.current_grows;
  flag_stays = l.flag_stays;
  done_stays = l.done_stays;
  claimed_stays = l.claimed_stays;
  op_stays = l.op_stays;
  bottom_stays = l.bottom_stays;
  nil_was_nil = l.nil_was_nil;
  resp_stays = l.resp_stays;
  set_stays = l.set_stays;
  new_op_counted = l.new_op_counted;
}
