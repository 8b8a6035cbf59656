-- Where a call can stand in an order: last, or, for a member test, at a witness: a place in the order at which the atomic bucket gives its
-- answer and after which no call ended before it started. Putting one in keeps real time, the answers and the other witnesses.
-- Assumes nothing.
use Rattle.std.specs.Prelude.{◌<◌, ◌≤◌, suc, ℕ, Bool, List, [], ◌∷◌, ◌≡◌, refl}
use Rattle.std.proofs.Common.{ap, sym, arith}
use Rattle.spec.specs.Lists.{member}
use Rattle.coop_spec.specs.Atomic.{FSet, Operations, boolean, empty_bucket, has_member, next, outcome}
use Rattle.coop_spec.specs.History.{Ended, Occurrence}
use Rattle.coop_spec.specs.Linearizable.{Absent, Answers, EachOnce, In, Late, NotEndedBefore, SameCall, Timely}

-- each started before n
abbrev pub Begun : ℕ → List Occurrence → Type 0
Begun n [] = Unit {0}
Begun n (e ∷ L) = (e.start < n) × Begun n L

-- M is L with e put in somewhere
pub data Into (e : Occurrence) : List Occurrence → List Occurrence → Type 0 where
  here : {L : List Occurrence} → Into e L (e ∷ L)
  there : {a : Occurrence} {L M : List Occurrence} → Into e L M → Into e (a ∷ L) (a ∷ M)

abbrev pub snoc : List Occurrence → Occurrence → List Occurrence
snoc [] e = e ∷ []
snoc (a ∷ L) e = a ∷ snoc L e

pub into_snoc : (L : List Occurrence) (e : Occurrence) → Into e L (snoc L e)
into_snoc [] e = Into.here
into_snoc (a ∷ L) e = Into.there (into_snoc L e)

-- ---- a call put in anywhere
pub in_new : {e : Occurrence} {L M : List Occurrence} → Into e L M → In e M
in_new Into.here = In.here
in_new (Into.there i) = In.there (in_new i)

pub in_old : {e a : Occurrence} {L M : List Occurrence} → Into e L M → In a L → In a M
in_old Into.here x = In.there x
in_old (Into.there i) In.here = In.here
in_old (Into.there i) (In.there x) = In.there (in_old i x)

-- what is there was there, or is the new one
pub data Was (a e : Occurrence) (L : List Occurrence) : Type 0 where
  new : a ≡ e → Was a e L
  old : In a L → Was a e L

pub in_was : {e a : Occurrence} {L M : List Occurrence} → Into e L M → In a M → Was a e L
in_was Into.here In.here = new refl
in_was Into.here (In.there x) = old x
in_was (Into.there i) In.here = old In.here
in_was (Into.there i) (In.there x) = go (in_was i x)
  where
    go : {a e b : Occurrence} {L : List Occurrence} → Was a e L → Was a e (b ∷ L)
    go (new q) = new q
    go (old y) = old (In.there y)

pub late_into : {H : List Ended} {e : Occurrence} {L M : List Occurrence} (r : ℕ) → Into e L M → NotEndedBefore H r e → Late H r L → Late H r M
late_into r Into.here o g = (o, g)
late_into r (Into.there i) o g = (g.0, late_into r i o g.1)

pub absent_into : {e : Occurrence} {L M : List Occurrence} (p r : ℕ) → Into e L M → ¬ ((e.task ≡ p) × (e.start ≡ r)) → Absent p r L → Absent p r M
absent_into p r Into.here o g = (o, g)
absent_into p r (Into.there i) o g = (g.0, absent_into p r i o g.1)

pub once_into : {e : Occurrence} {L M : List Occurrence} → Into e L M → Absent e.task e.start L → EachOnce L → EachOnce M
once_into Into.here f d = (f, d)
once_into (Into.there {a = a} i) f d = (absent_into a.task a.start i (λ q. f.0 (sym q.0, sym q.1)) d.0, once_into i f.1 d.1)

pub begun_into : {e : Occurrence} {L M : List Occurrence} (n : ℕ) → Into e L M → e.start < n → Begun n L → Begun n M
begun_into n Into.here le g = (le, g)
begun_into n (Into.there i) le g = (g.0, begun_into n i le g.1)

pub begun_suc : (n : ℕ) (L : List Occurrence) → Begun n L → Begun (suc n) L
begun_suc n [] g = tt
begun_suc n (e ∷ L) g = (omega arith, begun_suc n L g.1)

pub begun_absent : (n p : ℕ) (L : List Occurrence) → Begun n L → Absent p n L
begun_absent n p [] g = tt
begun_absent n p (e ∷ L) g = ((λ q. let a = g.0 in let b = q.1 in absurd (omega arith)), begun_absent n p L g.1)

pub absent_in : {e : Occurrence} {L : List Occurrence} (p r : ℕ) → Absent p r L → In e L → ¬ ((e.task ≡ p) × (e.start ≡ r))
absent_in p r f In.here = f.0
absent_in p r f (In.there x) = absent_in p r f.1 x

-- a call stands in the order once
pub only : {e f : Occurrence} {L : List Occurrence} → EachOnce L → In e L → In f L → SameCall e f → e ≡ f
only d In.here In.here s = refl
only d In.here (In.there y) s = absurd (absent_in _ _ d.0 y (sym s.0, sym s.1))
only d (In.there x) In.here s = absurd (absent_in _ _ d.0 x s)
only d (In.there x) (In.there y) s = only d.1 x y s

-- ---- what the atomic bucket does with an order
module _ (T : Operations) where
  abbrev pub after_order : FSet → List Occurrence → FSet
  after_order A [] = A
  after_order A (e ∷ L) = after_order (next T e.call A) L

  pub after_snoc : (A : FSet) (L : List Occurrence) (e : Occurrence) → after_order A (snoc L e) ≡ next T e.call (after_order A L)
  after_snoc A [] e = refl
  after_snoc A (a ∷ L) e = after_snoc (next T a.call A) L e

  pub answers_snoc : (A : FSet) (L : List Occurrence) (e : Occurrence) → Answers T A L → outcome T e.call (after_order A L) ≡ e.result
      → Answers T A (snoc L e)
  answers_snoc A [] e g a = (a, tt)
  answers_snoc A (b ∷ L) e g a = (g.0, answers_snoc (next T b.call A) L e g.1 a)

  -- a place in L, from the bucket A on, where the bucket says v of tag k and after which no call ended before event r
  pub data Witness (H : List Ended) (k r : ℕ) (v : Bool) : FSet → List Occurrence → Type 0 where
    now : {A : FSet} {L : List Occurrence} → Late H r L → member k A.set ≡ v → Witness H k r v A L
    later : {A : FSet} {a : Occurrence} {L : List Occurrence} → Witness H k r v (next T a.call A) L → Witness H k r v A (a ∷ L)

  pub witness_last : (H : List Ended) (k r : ℕ) (v : Bool) (A : FSet) (L : List Occurrence) → member k (after_order A L).set ≡ v → Witness H k r v A L
  witness_last H k r v A [] e = now tt e
  witness_last H k r v A (a ∷ L) e = later (witness_last H k r v (next T a.call A) L e)

  pub witness_snoc : {H : List Ended} {k r : ℕ} {v : Bool} {A : FSet} {L : List Occurrence} (e : Occurrence) → NotEndedBefore H r e → Witness H k r v A L
      → Witness H k r v A (snoc L e)
  witness_snoc {L = L} e le (now g m) = now (late_into _ (into_snoc L e) le g) m
  witness_snoc e le (later w) = later (witness_snoc e le w)

  abbrev pub put_in : {H : List Ended} {k r : ℕ} {v : Bool} {A : FSet} {L : List Occurrence} → Witness H k r v A L → Occurrence → List Occurrence
  put_in {L = L} (now g m) e = e ∷ L
  put_in (later {a = a} w) e = a ∷ put_in w e

  pub into_put_in : {H : List Ended} {k r : ℕ} {v : Bool} {A : FSet} {L : List Occurrence} (w : Witness H k r v A L) (e : Occurrence) → Into e L (put_in w e)
  into_put_in (now g m) e = Into.here
  into_put_in (later w) e = Into.there (into_put_in w e)

  -- more calls have ended
  pub late_more : {H H' : List Ended} {r : ℕ} (L : List Occurrence) → ((e : Occurrence) → NotEndedBefore H r e → NotEndedBefore H' r e) → Late H r L
      → Late H' r L
  late_more [] f g = tt
  late_more (e ∷ L) f g = (f e g.0, late_more L f g.1)

  pub witness_more : {H H' : List Ended} {k r : ℕ} {v : Bool} {A : FSet} {L : List Occurrence}
      → ((e : Occurrence) → NotEndedBefore H r e → NotEndedBefore H' r e)
      → Witness H k r v A L → Witness H' k r v A L
  witness_more {L = L} f (now g m) = now (late_more L f g) m
  witness_more f (later w) = later (witness_more f w)

  pub timely_more : {H H' : List Ended} (n : ℕ) (L : List Occurrence)
      → ((r : ℕ) (e : Occurrence) → r ≤ n → NotEndedBefore H r e → NotEndedBefore H' r e) → Begun n L → Timely H L
      → Timely H' L
  timely_more n [] f b g = tt
  timely_more n (e ∷ L) f b g = (late_more L (λ a. f e.start a (let c = b.0 in omega arith)) g.0, timely_more n L f b.1 g.1)

  pub timely_snoc : {H : List Ended} (L : List Occurrence) (e : Occurrence) → ((a : Occurrence) → In a L → NotEndedBefore H a.start e)
      → Timely H L → Timely H (snoc L e)
  timely_snoc [] e o t = (tt, tt)
  timely_snoc (a ∷ L) e o t = (late_into a.start (into_snoc L e) (o a In.here) t.0, timely_snoc L e (λ b x. o b (In.there x)) t.1)

  -- ---- a member test put in at a witness
  module _ (e : Occurrence) (k : ℕ) (c : e.call ≡ has_member k) where
    same : (A : FSet) → next T e.call A ≡ A
    same A = rw c

    pub after_put_in : {H : List Ended} {j r : ℕ} {v : Bool} {A : FSet} {L : List Occurrence} (w : Witness H j r v A L)
        → after_order A (put_in w e) ≡ after_order A L
    after_put_in {A = A} {L = L} (now g m) = ap (λ (R : FSet). after_order R L) (same A)
    after_put_in (later w) = after_put_in w

    pub answers_put_in : {H : List Ended} {r : ℕ} {v : Bool} {A : FSet} {L : List Occurrence} (w : Witness H k r v A L) → boolean v ≡ e.result → Answers T A L
        → Answers T A (put_in w e)
    answers_put_in {A = A} (now g m) a l = (rw (c, m) a, rw (same A) l)
    answers_put_in (later w) a l = (l.0, answers_put_in w a l.1)

    pub timely_put_in : {H : List Ended} {j : ℕ} {v : Bool} {A : FSet} {L : List Occurrence} (w : Witness H j e.start v A L)
        → ((a : Occurrence) → In a L → NotEndedBefore H a.start e) → Timely H L → Timely H (put_in w e)
    timely_put_in (now g m) o t = (g, t)
    timely_put_in (later {a = a} w) o t = (late_into a.start (into_put_in w e) (o a In.here) t.0, timely_put_in w (λ b x. o b (In.there x)) t.1)

    pub witness_put_in : {H : List Ended} {j r : ℕ} {v : Bool} {j' r' : ℕ} {v' : Bool} {A : FSet} {L : List Occurrence} (w : Witness H j r v A L)
        → NotEndedBefore H r' e
        → Witness H j' r' v' A L → Witness H j' r' v' A (put_in w e)
    witness_put_in {r' = r'} w le (now g m) = now (late_into r' (into_put_in w e) le g) m
    witness_put_in {A = A} (now g m) le (later {a = a} {L = M} w') = later {A = A} {a = e} {L = a ∷ M} (rw (same A) (later w'))
    witness_put_in (later w) le (later w') = later (witness_put_in w le w')

-- the atomic bucket after all calls of an order
abbrev pub bucket_after : Operations → List Occurrence → FSet
bucket_after T L = after_order T empty_bucket L
