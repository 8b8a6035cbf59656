-- Where an ended call can stand in an order: last, or, for a contains, at a witness: a place in the order at which the plain set
-- gives its answer and after which no call ended before it started. Putting one in keeps real time, the answers and the other
-- witnesses. Assumes nothing.
use Rattle.std.specs.Prelude.{◌≡◌, refl, Bool, List, [], ◌∷◌, ℕ, suc, ◌≤◌, length}
use Rattle.std.proofs.Common.{ap, arith}
use Rattle.spec.specs.declared.Call.TheVariants.{Contains}
use Rattle.spec.specs.Lists.{member}
use Rattle.spec.specs.Plain.{found_answer, plain_contains, plain}
use Rattle.spec.specs.History.{Ended}
use Rattle.spec.specs.Linearizable.{Into, here, there, Late, Timely, Answers, after}
use Rattle.laws.specs.Ascending.{Rising}
use Rattle.laws.specs.PlainSet.{plain_rising, plain_few}

-- the plain set after one call
abbrev pub next : List ℕ → Ended → List ℕ
next S e = (plain S e.call e.tag).tags

-- each call of the list started at event n or before
abbrev pub Begun : ℕ → List Ended → Type 0
Begun n [] = Unit {0}
Begun n (e ∷ L) = (e.start ≤ n) × Begun n L

-- a place in L, from the plain set S on, where the set says v of tag k and after which no call ended before event r
pub data Witness (k r : ℕ) (v : Bool) : List ℕ → List Ended → Type 0 where
  now : {S : List ℕ} {L : List Ended} → Late r L → member k S ≡ v → Witness k r v S L
  later : {S : List ℕ} {a : Ended} {L : List Ended} → Witness k r v (next S a) L → Witness k r v S (a ∷ L)

-- the end of the order is one for what the plain set says there
pub witness_last : (k r : ℕ) (v : Bool) (S : List ℕ) (L : List Ended) → member k (after S L) ≡ v → Witness k r v S L
witness_last k r v S [] e = now tt e
witness_last k r v S (a ∷ L) e = later (witness_last k r v (next S a) L e)

-- ---- the plain set along an order
pub after_rising : (S : List ℕ) (L : List Ended) → Rising S → Rising (after S L)
after_rising S [] r = r
after_rising S (e ∷ L) r = after_rising (next S e) L (plain_rising S e.call e.tag r)

pub answers_few : (S : List ℕ) (L : List Ended) → Answers S L → length S ≤ 64
answers_few S [] g = g
answers_few S (e ∷ L) g = g.0

pub after_few : (S : List ℕ) (L : List Ended) → Answers S L → length (after S L) ≤ 64
after_few S [] g = g
after_few S (e ∷ L) g = after_few (next S e) L g.2

-- ---- one more call at the end
abbrev pub snoc : List Ended → Ended → List Ended
snoc [] e = e ∷ []
snoc (a ∷ L) e = a ∷ snoc L e

pub into_snoc : (L : List Ended) (e : Ended) → Into e L (snoc L e)
into_snoc [] e = here
into_snoc (a ∷ L) e = there (into_snoc L e)

pub after_snoc : (S : List ℕ) (L : List Ended) (e : Ended) → after S (snoc L e) ≡ next (after S L) e
after_snoc S [] e = refl
after_snoc S (a ∷ L) e = after_snoc (next S a) L e

pub answers_snoc : (S : List ℕ) (L : List Ended) (e : Ended) → Answers S L → (plain (after S L) e.call e.tag).answer ≡ e.answer → Answers S (snoc L e)
answers_snoc S [] e g a = (g, a, plain_few S e.call e.tag g)
answers_snoc S (b ∷ L) e g a = (g.0, g.1, answers_snoc (next S b) L e g.2 a)

-- ---- a call put in anywhere
pub late_into : {e : Ended} {L M : List Ended} (r : ℕ) → Into e L M → r ≤ e.end → Late r L → Late r M
late_into r here le g = (le, g)
late_into r (there i) le g = (g.0, late_into r i le g.1)

pub begun_into : {e : Ended} {L M : List Ended} (n : ℕ) → Into e L M → e.start ≤ n → Begun n L → Begun n M
begun_into n here le g = (le, g)
begun_into n (there i) le g = (g.0, begun_into n i le g.1)

pub begun_suc : (n : ℕ) (L : List Ended) → Begun n L → Begun (suc n) L
begun_suc n [] g = tt
begun_suc n (e ∷ L) g = (omega arith, begun_suc n L g.1)

pub timely_snoc : (L : List Ended) (e : Ended) → Begun e.end L → Timely L → Timely (snoc L e)
timely_snoc [] e b t = (tt, tt)
timely_snoc (a ∷ L) e b t = (late_into a.start (into_snoc L e) b.0 t.0, timely_snoc L e b.1 t.1)

pub witness_snoc : {k r : ℕ} {v : Bool} {S : List ℕ} {L : List Ended} (e : Ended) → r ≤ e.end → Witness k r v S L → Witness k r v S (snoc L e)
witness_snoc {L = L} e le (now g m) = now (late_into _ (into_snoc L e) le g) m
witness_snoc e le (later w) = later (witness_snoc e le w)

-- ---- a contains put in at a witness
abbrev pub put_in : {k r : ℕ} {v : Bool} {S : List ℕ} {L : List Ended} → Witness k r v S L → Ended → List Ended
put_in {L = L} (now g m) e = e ∷ L
put_in (later {a = a} w) e = a ∷ put_in w e

pub into_put_in : {k r : ℕ} {v : Bool} {S : List ℕ} {L : List Ended} (w : Witness k r v S L) (e : Ended) → Into e L (put_in w e)
into_put_in (now g m) e = here
into_put_in (later w) e = there (into_put_in w e)

module _ (e : Ended) (c : e.call ≡ Contains) where
  next_same : (S : List ℕ) → next S e ≡ S
  unfolding plain plain_contains
  next_same S = rw c

  pub after_put_in : {k r : ℕ} {v : Bool} {S : List ℕ} {L : List Ended} (w : Witness k r v S L) → after S (put_in w e) ≡ after S L
  after_put_in {S = S} {L = L} (now g m) = ap (λ (R : List ℕ). after R L) (next_same S)
  after_put_in (later w) = after_put_in w

  pub answers_put_in : {r : ℕ} {v : Bool} {S : List ℕ} {L : List Ended} (w : Witness e.tag r v S L) → found_answer v ≡ e.answer → Answers S L
      → Answers S (put_in w e)
  unfolding plain plain_contains
  answers_put_in {S = S} {L = L} (now g m) a l = (answers_few S L l, rw (c, m) a, rw (next_same S) l)
  answers_put_in (later w) a l = (l.0, l.1, answers_put_in w a l.2)

  pub timely_put_in : {k : ℕ} {v : Bool} {S : List ℕ} {L : List Ended} (w : Witness k e.start v S L) → Begun e.end L → Timely L → Timely (put_in w e)
  timely_put_in (now g m) b t = (g, t)
  timely_put_in (later {a = a} w) b t = (late_into a.start (into_put_in w e) b.0 t.0, timely_put_in w b.1 t.1)

  -- the other witnesses stay
  pub witness_put_in : {k r : ℕ} {v : Bool} {k' r' : ℕ} {v' : Bool} {S : List ℕ} {L : List Ended} (w : Witness k r v S L) → r' ≤ e.end → Witness k' r' v' S L
      → Witness k' r' v' S (put_in w e)
  witness_put_in {r' = r'} w le (now g m) = now (late_into r' (into_put_in w e) le g) m
  witness_put_in {S = S} (now g m) le (later {a = a} {L = M} w') = later {S = S} {a = e} {L = a ∷ M} (rw (next_same S) (later w'))
  witness_put_in (later w) le (later w') = later (witness_put_in w le w')
