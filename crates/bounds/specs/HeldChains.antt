-- Why few nodes are held: a chain of predecessors that starts at a held node is short. The head's predecessor has none itself; t and
-- s of a running task are the head or have none; a new node has t for its predecessor. So a chain leads to no node that is not
-- already the head, its predecessor, or some task's own. Here: the definition, and the lines that leave head and predecessors as
-- they are. Assumes nothing.
use Rattle.std.specs.Prelude.{◌≡◌, ◌⊎◌, Bool, true, false, ◌||◌, List, ℕ, ◌+◌, ◌*◌, eqb, if◌then◌else◌}
use Rattle.std.proofs.Math.Path.{refl}
use Rattle.std.proofs.Common.{sym, ◌∙◌, arith}
use Rattle.std.proofs.Math.Logic.{inl, inr}
use Rattle.std.proofs.Math.Bool.{not}
use Rattle.std.proofs.Math.Dec.{ltb}
use Rattle.spec.specs.declared.Task.{Task}
use Rattle.spec.specs.declared.Answer.{Answer}
use Rattle.spec.specs.declared.Answer.TheVariants.{Yes, No, Full, Done, Lost, Limit}
use Rattle.spec.specs.Lists.{member}
use Rattle.spec.specs.Machine.{Machine, task_of, with_line, with_i, with_t, with_s, with_b, with_m, with_n, with_new_bucket, without_places}
use Rattle.spec.specs.Machine.{with_state, with_buckets, with_last_bucket, state_last_bucket}
use Rattle.spec.specs.Sound.{resizes}
use Rattle.spec.specs.Words.{link, number, filled, pred, Write, nothing, set_place, freeze, put_tags, new_bucket, apply}
use Rattle.spec.specs.Listed.{size_of, pred_of, place_of, place_for, tags_of, head_of}
use Rattle.spec.specs.Lines.{Next, on, ends, Effect, frozen, at_limit, after_40, insert_write, answer_36, insert_36, remove_36, line_12, line_13}
use Rattle.spec.specs.Lines.{line_15, line_16, line_17, line_18, line_20, line_32, line_33, line_36, line_39, line_40, line_43, line_44, line_46}
use Rattle.spec.specs.Lines.{line_47, line_48, line_52, line_49, line_50, line_51}
use Rattle.laws.specs.Tests.{tf}

-- ---- a task's nodes

-- after the last place is filled
pub data PastFilling (l : ℕ) : Type 0 where
  is_24 : l ≡ 24 → PastFilling l
  is_27 : l ≡ 27 → PastFilling l
  is_28 : l ≡ 28 → PastFilling l

-- a link that is none, the head's, or that of a node without a predecessor; pr gives the predecessors, hd is the head
abbrev pub ShortChain : (pr : ℕ → ℕ) (hd l : ℕ) → Type 0
ShortChain pr hd l = (a : ℕ) → l ≡ link a → (a ≡ hd) ⊎ (pr a ≡ 0)

-- t, s and the new node of a running task: the new node's predecessor is t, only line 28 has one, and past filling there is no s
pub record TaskLinks (pr : ℕ → ℕ) (hd line t s n : ℕ) : Type 0 where
  pub t_ok : ShortChain pr hd t
  pub s_ok : ShortChain pr hd s
  pub new_ok : (a : ℕ) → n ≡ link a → (pr a ≡ t) ⊎ (pr a ≡ 0)
  pub no_new : ¬ (line ≡ 28) → n ≡ 0
  pub no_s : PastFilling line → s ≡ 0

abbrev pub TaskLinksOf : Machine → Task → Type 0
TaskLinksOf y c = TaskLinks (pred y.nodes) y.state.head c.line c.t c.s c.new_node

-- of the whole machine: what is held is the head and its predecessor, and of each task no more than t, s or the new node
pub record ShortChains (y : Machine) : Type 0 where
  pub head_chain : (a : ℕ) → pred y.nodes y.state.head ≡ link a → pred y.nodes a ≡ 0
  pub each : (j : ℕ) → (task_of y j).running ≡ true → TaskLinksOf y (task_of y j)

-- ---- the lines that change no predecessor and not the head

abbrev pub NextLinks : Machine → Next → Type 0
NextLinks y (on c) = TaskLinksOf y c
NextLinks y (ends a l) = Unit {0}

-- the head and all predecessors are as they were
abbrev pub SameLinks : Machine → Write → Type 0
SameLinks y w = ((apply w y).state.head ≡ y.state.head) × ((k : ℕ) → pred (apply w y).nodes k ≡ pred y.nodes k)

abbrev pub KeepsLinks : Machine → Effect → Type 0
KeepsLinks y e = SameLinks y e.write × NextLinks y e.next

keeps_if : (y : Machine) (b : Bool) (e g : Effect) → (b ≡ true → KeepsLinks y e) → (b ≡ false → KeepsLinks y g)
    → KeepsLinks y (if b then e else g)
keeps_if y true e g p q = p refl
keeps_if y false e g p q = q refl

-- of a numeral, by computing
before_24 : {l : ℕ} → (eqb l 24 || eqb l 27 || eqb l 28) ≡ false → ¬ PastFilling l
before_24 e (is_24 q) = tf (rw q refl) e
before_24 e (is_27 q) = tf (rw q refl) e
before_24 e (is_28 q) = tf (rw q refl) e

past_if : (b : Bool) (i j : ℕ) → ¬ PastFilling i → ¬ PastFilling j → ¬ PastFilling (if b then i else j)
past_if true i j p q = p
past_if false i j p q = q

module _ (pr : ℕ → ℕ) (hd l t s n : ℕ) (o : TaskLinks pr hd l t s n) (early : ¬ (l ≡ 28)) where
  -- to a line that is not past filling
  links_at : (l' : ℕ) → ¬ PastFilling l' → TaskLinks pr hd l' t s n
  links_at l' d =
      record { t_ok = o.t_ok; s_ok = o.s_ok; new_ok = o.new_ok; no_new = λ z. o.no_new early; no_s = λ z. absurd (d z) }

  links_with_t : (l' t' : ℕ) → ¬ PastFilling l' → ShortChain pr hd t' → TaskLinks pr hd l' t' s n
  links_with_t l' t' d k =
      record {
        t_ok = k;
        s_ok = o.s_ok;
        new_ok = λ a e. (let z = o.no_new early in absurd (omega arith));
        no_new = λ z. o.no_new early;
        no_s = λ z. absurd (d z);
      }

  links_with_s : (l' s' : ℕ) → ¬ PastFilling l' → ShortChain pr hd s' → TaskLinks pr hd l' t s' n
  links_with_s l' s' d k =
      record { t_ok = o.t_ok; s_ok = k; new_ok = o.new_ok; no_new = λ z. o.no_new early; no_s = λ z. absurd (d z) }

  links_without_s : (l' : ℕ) → TaskLinks pr hd l' t 0 n
  links_without_s l' =
      record {
        t_ok = o.t_ok;
        s_ok = λ a e. absurd (omega arith);
        new_ok = o.new_ok;
        no_new = λ z. o.no_new early;
        no_s = λ z. refl;
      }

pub links_none : (pr : ℕ → ℕ) (hd l : ℕ) → TaskLinks pr hd l 0 0 0
links_none pr hd l =
    record {
      t_ok = λ a e. absurd (omega arith);
      s_ok = λ a e. absurd (omega arith);
      new_ok = λ a e. absurd (omega arith);
      no_new = λ z. refl;
      no_s = λ z. refl;
    }

module _ (y : Machine) (c : Task) (chains : ShortChains y) (o : TaskLinksOf y c) where
  abbrev pr : ℕ → ℕ
  pr = pred y.nodes

  abbrev hd : ℕ
  hd = y.state.head

  pub nothing_written : SameLinks y nothing
  unfolding apply
  nothing_written = (refl, λ k. refl)

  head_short : ShortChain pr hd (head_of y)
  unfolding head_of
  head_short a e = inl (omega arith)

  -- the predecessor of such a node is one
  pred_short : ¬ (c.t ≡ 0) → ShortChain pr hd (pred_of y c.t)
  unfolding pred_of
  pred_short d a e = via (o.t_ok (number c.t) (omega arith))
    where
      via : (number c.t ≡ hd) ⊎ (pr (number c.t) ≡ 0) → (a ≡ hd) ⊎ (pr a ≡ 0)
      via (inl q) = inr (chains.head_chain a (rw (← q) e))
      via (inr q) = absurd (omega arith)

  -- a line that is not 28, by computing
  not_28 : {n : ℕ} → eqb n 28 ≡ false → c.line ≡ n → ¬ (c.line ≡ 28)
  not_28 f e q = tf (rw (sym e ∙ q) refl) f

  -- the task goes to line n: with the same nodes, with t the head, with s t's predecessor, without s
  abbrev goes_to : (n : ℕ) → ¬ (c.line ≡ 28) → ¬ PastFilling n → TaskLinks pr hd n c.t c.s c.new_node
  goes_to n d l = links_at pr hd c.line c.t c.s c.new_node o d n l

  abbrev head_to : (n : ℕ) → ¬ (c.line ≡ 28) → ¬ PastFilling n → TaskLinks pr hd n (head_of y) c.s c.new_node
  head_to n d l = links_with_t pr hd c.line c.t c.s c.new_node o d n (head_of y) l head_short

  abbrev pred_to : (n : ℕ) → ¬ (c.line ≡ 28) → ¬ (c.t ≡ 0) → ¬ PastFilling n
      → TaskLinks pr hd n c.t (pred_of y c.t) c.new_node
  pred_to n d t l = links_with_s pr hd c.line c.t c.s c.new_node o d n (pred_of y c.t) l (pred_short t)

  abbrev without_s_to : (n : ℕ) → ¬ (c.line ≡ 28) → TaskLinks pr hd n c.t 0 c.new_node
  without_s_to n d = links_without_s pr hd c.line c.t c.s c.new_node o d n

  pub keeps_12 : c.line ≡ 12 → KeepsLinks y (line_12 y c)
  unfolding line_12 with_line with_t
  keeps_12 e =
      (nothing_written, head_to 13 (not_28 refl e) (before_24 refl))

  pub keeps_13 : c.line ≡ 13 → KeepsLinks y (line_13 y c)
  unfolding line_13 with_line with_b
  keeps_13 e =
      let f = filled (place_for y c.t c.tag) in
      (nothing_written, goes_to (if f then 18 else 15) (not_28 refl e) (past_if f 18 15 (before_24 refl) (before_24 refl)))

  pub keeps_15 : c.line ≡ 15 → ¬ (c.t ≡ 0) → KeepsLinks y (line_15 y c)
  unfolding line_15 with_line with_s
  keeps_15 e d =
      let f = filled (pred_of y c.t) in
      (nothing_written, pred_to (if f then 16 else 17) (not_28 refl e) d (past_if f 16 17 (before_24 refl) (before_24 refl)))

  pub keeps_16 : c.line ≡ 16 → KeepsLinks y (line_16 y c)
  unfolding line_16 with_line with_b
  keeps_16 e = (nothing_written, goes_to 18 (not_28 refl e) (before_24 refl))

  pub keeps_17 : c.line ≡ 17 → KeepsLinks y (line_17 y c)
  unfolding line_17 with_line with_b
  keeps_17 e = (nothing_written, goes_to 18 (not_28 refl e) (before_24 refl))

  pub keeps_18 : KeepsLinks y (line_18 y c)
  unfolding line_18
  keeps_18 = (nothing_written, tt)

  pub keeps_20 : c.line ≡ 20 → KeepsLinks y (line_20 y c)
  unfolding line_20 with_line with_t with_i
  keeps_20 e = keeps_if y (at_limit c.call (size_of y (head_of y))) _ _ (λ q. (nothing_written, tt))
      (λ q. (nothing_written, head_to 39 (not_28 refl e) (before_24 refl)))

  pub keeps_32 : c.line ≡ 32 → KeepsLinks y (line_32 y c)
  unfolding line_32 with_line with_t
  keeps_32 e =
      (nothing_written, head_to 33 (not_28 refl e) (before_24 refl))

  pub keeps_33 : c.line ≡ 33 → KeepsLinks y (line_33 y c)
  unfolding line_33 with_line with_b with_i
  keeps_33 e = keeps_if y (filled (place_for y c.t c.tag)) _ _
      (λ q. (nothing_written, goes_to 36 (not_28 refl e) (before_24 refl)))
      (λ q. (nothing_written, goes_to 39 (not_28 refl e) (before_24 refl)))

  put_same : (k : ℕ) (ks : List ℕ) → SameLinks y (put_tags k ks)
  unfolding apply with_buckets
  put_same k ks = (refl, λ j. refl)

  freeze_same : (k : ℕ) → SameLinks y (freeze k)
  unfolding apply with_buckets
  freeze_same k = (refl, λ j. refl)

  bucket_same : (k : ℕ) (ks : List ℕ) → SameLinks y (new_bucket k ks)
  unfolding apply with_buckets with_last_bucket with_state state_last_bucket
  bucket_same k ks = (refl, λ j. refl)

  insert_same : (a : Answer) → SameLinks y (insert_write y c a)
  unfolding insert_write
  insert_same Yes = put_same _ _
  insert_same No = nothing_written
  insert_same Full = nothing_written
  insert_same Done = nothing_written
  insert_same Lost = nothing_written
  insert_same Limit = nothing_written

  pub keeps_36 : KeepsLinks y (line_36 y c)
  unfolding line_36 insert_36 remove_36 with_line with_i without_places
  keeps_36 =
      keeps_if y (frozen y c.b) _ _ (λ q. (nothing_written, links_none pr hd 32))
      (λ q. keeps_if y (eqb c.call 1) _ _ (λ q. (insert_same (answer_36 y c), tt))
      (λ q. keeps_if y (member c.tag (tags_of y c.b)) _ _ (λ q. (put_same _ _, tt)) (λ q. (nothing_written, tt))))

  pub keeps_39 : c.line ≡ 39 → KeepsLinks y (line_39 y c)
  unfolding line_39 with_line with_b
  keeps_39 e = (nothing_written, goes_to 40 (not_28 refl e) (before_24 refl))

  -- line 40 goes to 51, 43 or 46
  after_40_before : ¬ PastFilling (after_40 y c (pred_of y c.t))
  unfolding after_40
  after_40_before =
      past_if (filled c.b || not (filled (pred_of y c.t))) 51 _ (before_24 refl)
      (past_if (eqb (size_of y c.t) (2 * size_of y (pred_of y c.t))) 43 46 (before_24 refl) (before_24 refl))

  pub keeps_40 : c.line ≡ 40 → ¬ (c.t ≡ 0) → KeepsLinks y (line_40 y c)
  unfolding line_40 with_line with_s
  keeps_40 e d = (nothing_written, pred_to (after_40 y c (pred_of y c.t)) (not_28 refl e) d after_40_before)

  pub keeps_43 : c.line ≡ 43 → KeepsLinks y (line_43 y c)
  unfolding line_43 with_line with_m
  keeps_43 e = (nothing_written, goes_to 44 (not_28 refl e) (before_24 refl))

  pub keeps_44 : c.line ≡ 44 → KeepsLinks y (line_44 y c)
  unfolding line_44 with_line
  keeps_44 e = (freeze_same _, goes_to 49 (not_28 refl e) (before_24 refl))

  pub keeps_46 : c.line ≡ 46 → KeepsLinks y (line_46 y c)
  unfolding line_46 with_line with_m
  keeps_46 e = (nothing_written, goes_to 47 (not_28 refl e) (before_24 refl))

  pub keeps_47 : c.line ≡ 47 → KeepsLinks y (line_47 y c)
  unfolding line_47 with_line with_n
  keeps_47 e = (nothing_written, goes_to 48 (not_28 refl e) (before_24 refl))

  pub keeps_48 : c.line ≡ 48 → KeepsLinks y (line_48 y c)
  unfolding line_48 with_line
  keeps_48 e = (freeze_same _, goes_to 52 (not_28 refl e) (before_24 refl))

  pub keeps_52 : c.line ≡ 52 → KeepsLinks y (line_52 y c)
  unfolding line_52 with_line
  keeps_52 e = (freeze_same _, goes_to 49 (not_28 refl e) (before_24 refl))

  pub keeps_49 : c.line ≡ 49 → KeepsLinks y (line_49 y c)
  unfolding line_49 with_line with_new_bucket
  keeps_49 e = (bucket_same _ _, goes_to 50 (not_28 refl e) (before_24 refl))

  pub keeps_50 : c.line ≡ 50 → SameLinks y (set_place (number c.t) c.i c.new_bucket) → KeepsLinks y (line_50 y c)
  unfolding line_50 with_line
  keeps_50 e m = keeps_if y (filled (place_of y c.t c.i)) _ _
      (λ q. (nothing_written, goes_to 51 (not_28 refl e) (before_24 refl)))
      (λ q. (m, goes_to 51 (not_28 refl e) (before_24 refl)))

  pub keeps_51 : c.line ≡ 51 → KeepsLinks y (line_51 y c)
  unfolding line_51 with_line with_b with_s with_m with_n with_new_bucket with_i
  keeps_51 e = keeps_if y (resizes c.call) _ _
      (λ q. (nothing_written, without_s_to (if ltb (c.i + 1) (size_of y c.t) then 39 else 24) (not_28 refl e)))
      (λ q. (nothing_written, without_s_to 36 (not_28 refl e)))
