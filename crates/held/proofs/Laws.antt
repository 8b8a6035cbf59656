-- Laws of the marks of a node's places, of all tasks and of the marked nodes. Assumes nothing.
use Rattle.std.specs.Prelude.{if◌then◌else◌}
use mathlib.Core.Path.{◌≡◌, refl, sym, ap, ◌∙◌}
use mathlib.Core.List.{List, [], ◌∷◌, ◌++◌, append-nil, append_assoc}
use mathlib.Core.Bool.{Bool, true, false, ◌||◌}
use Prim.Native.Nat.{ℕ, zero, suc, ◌+◌, ◌-◌, ◌*◌, ◌<◌, ◌≤◌}
use native.Mathlib.Numerals.{add-one}
use native.Mathlib.Omega.{arith}
use borrow.Author.Tests.{ne_eqb}
use lib.Dec.{eqb}
use lib.ListN.{get_or, take, drop}
use lib.Seq.{take-nil}
use Rattle.spec.specs.Lists.{member, filter, range, concat_map}
use Rattle.spec.specs.Words.{link, place, places}
use Rattle.spec.specs.declared.Task.{Task}
use Rattle.spec.specs.Held.{chain, task_nodes, held_nodes}
use Rattle.spec.specs.declared.State.{State}
use Rattle.spec.specs.Machine.{machine_of}
use Rattle.held_marks.specs.Marks.{marked, Marks}
use Rattle.held_marks.proofs.Laws.{both}
use Rattle.held.specs.Held.{marked_numbers}

-- the same links, none aside
pub alike : {m r : List Bool} (xs ys : List ℕ) → ((k : ℕ) → 0 < k → member k xs ≡ member k ys) → Marks m r xs → Marks m r ys
alike {m} xs ys e a = record { long = a.long; each = λ k z h. a.each k z h ∙ ap (λ (t : Bool). marked m k || t) (e k z) }

-- ---- a node's places, word by word

-- the words from a on, none past the end
word_on : (k a r : ℕ) (w : List ℕ) → 0 < k → member k (take (suc r) (drop a w)) ≡ (eqb k (get_or w a 0) || member k (take r (drop (suc a) w)))
unfolding member
word_on k zero r [] z = rw (ne_eqb k 0 (λ q. omega arith), take-nil r)
word_on k zero r (x ∷ w) z = refl
word_on k (suc a) r [] z = rw (ne_eqb k 0 (λ q. omega arith), take-nil r)
word_on k (suc a) r (x ∷ w) z = word_on k a r w z

-- the places of node n from number i on
abbrev pub places_from : List ℕ → ℕ → ℕ → List ℕ
places_from w n i = take (32 - i) (drop (34 * n + 2 + i) w)

pub places_all : (w : List ℕ) (n : ℕ) → places_from w n 0 ≡ places w n
unfolding places
places_all w n = let e : 34 * n + 2 + 0 ≡ 34 * n + 2 = omega arith in rw e

-- what the marks still lack goes on to the whole
pub places_on : {m out o : List Bool} (w : List ℕ) (n i : ℕ) (ls : List ℕ) → i < 32
    → ((q : List Bool) → Marks out q (places_from w n i) → Marks m q ls)
    → Marks out o (place w n i ∷ [])
    → (q : List Bool) → Marks o q (places_from w n (i + 1)) → Marks m q ls
unfolding member place
places_on w n i ls h inv one q r =
    let x : ℕ = place w n i in
    let e : 32 - i ≡ suc (32 - (i + 1)) = omega arith in
    let f : 34 * n + 2 + (i + 1) ≡ suc (34 * n + 2 + i) = omega arith in
    let t : List ℕ = places_from w n (i + 1) in
    let g : (k : ℕ) → 0 < k → member k ((x ∷ []) ++ t) ≡ member k (places_from w n i) =
    λ k z. sym (rw (e, f) (word_on k (34 * n + 2 + i) (32 - (i + 1)) w z)) in
    inv q (alike ((x ∷ []) ++ t) (places_from w n i) g (both one r))

pub places_none : (w : List ℕ) (n i : ℕ) → 32 ≤ i → places_from w n i ≡ []
places_none w n i h = let e : 32 - i ≡ 0 = omega arith in rw e

-- ---- the nodes of a task

module _ (f : ℕ → List ℕ) where
  pub join_append : (xs ys : List ℕ) → concat_map f (xs ++ ys) ≡ concat_map f xs ++ concat_map f ys
  unfolding concat_map
  join_append [] ys = refl
  join_append (x ∷ xs) ys = rw (join_append xs ys) (sym (append_assoc (f x) (concat_map f xs) (concat_map f ys)))

pub nodes_of_running : (c : Task) → c.running ≡ true → task_nodes c ≡ c.t ∷ c.s ∷ c.new_node ∷ []
unfolding task_nodes
nodes_of_running c e = ap (λ (b : Bool). if b then (c.t ∷ c.s ∷ c.new_node ∷ []) else []) e

pub nodes_of_idle : (c : Task) → c.running ≡ false → task_nodes c ≡ []
unfolding task_nodes
nodes_of_idle c e = ap (λ (b : Bool). if b then (c.t ∷ c.s ∷ c.new_node ∷ []) else []) e

-- three chains
pub task_marks : {m x y r : List Bool} (w : List ℕ) (h : ℕ) (c : Task) → c.running ≡ true
    → Marks m x (chain w h c.t) → Marks x y (chain w h c.s) → Marks y r (chain w h c.new_node)
    → Marks m r (concat_map (chain w h) (task_nodes c))
unfolding concat_map
task_marks w h c e p q s =
    rw (nodes_of_running c e, append-nil (chain w h c.new_node)) (both p (both q s))

-- the chains of one task's nodes
abbrev pub of_task : List ℕ → ℕ → Task → List ℕ
of_task w h c = concat_map (chain w h) (task_nodes c)

-- the chains of a task's nodes, task by task, are the chains of all tasks' nodes
pub by_task : (g : ℕ → List ℕ) (f : Task → List ℕ) (ts : List Task) → concat_map (λ c. concat_map g (f c)) ts ≡ concat_map g (concat_map f ts)
unfolding concat_map
by_task g f [] = refl
by_task g f (c ∷ ts) = ap (λ (l : List ℕ). concat_map g (f c) ++ l) (by_task g f ts) ∙ sym (join_append g (f c) (concat_map f ts))

pub held_all : {m x r : List Bool} (w bs : List ℕ) (s : State)
    → Marks m x (chain w s.nodes (link s.head)) → Marks x r (concat_map (of_task w s.nodes) s.task)
    → Marks m r (held_nodes (machine_of s w bs))
unfolding held_nodes concat_map
held_all w bs s a b = both a (rw (← by_task (chain w s.nodes) task_nodes s.task) b)

-- ---- the marked nodes, by their numbers

module _ (nodes : List Bool) where
  abbrev pub numbers_from : ℕ → List ℕ
  numbers_from k = filter (λ k. get_or nodes k false) (range k (64 - k))

  pub numbers_all : numbers_from 0 ≡ marked_numbers nodes
  unfolding marked_numbers
  numbers_all = refl

  module _ (k : ℕ) where
    pub numbers_yes : k < 64 → get_or nodes k false ≡ true → numbers_from k ≡ k ∷ numbers_from (k + 1)
    unfolding filter range
    numbers_yes h e = let n : 64 - k ≡ suc (64 - (k + 1)) = omega arith in rw (n, e, add-one k)

    pub numbers_no : k < 64 → get_or nodes k false ≡ false → numbers_from k ≡ numbers_from (k + 1)
    unfolding filter range
    numbers_no h e = let n : 64 - k ≡ suc (64 - (k + 1)) = omega arith in rw (n, e, add-one k)

    pub numbers_none : 64 ≤ k → numbers_from k ≡ []
    unfolding filter range
    numbers_none h = let n : 64 - k ≡ 0 = omega arith in rw n

  pub placed_yes : {m out o p : List Bool} (w : List ℕ) (k : ℕ) (ls : List ℕ) → k < 64 → get_or nodes k false ≡ true
      → ((q : List Bool) → Marks out q (concat_map (places w) (numbers_from k)) → Marks m q ls)
      → Marks out o (places w k) → p ≡ o
      → (q : List Bool) → Marks p q (concat_map (places w) (numbers_from (k + 1))) → Marks m q ls
  unfolding concat_map
  placed_yes w k ls h b inv one e q r = inv q (rw (numbers_yes k h b) (both one (rw e at r)))

  pub placed_no : {m out p : List Bool} (w : List ℕ) (k : ℕ) (ls : List ℕ) → k < 64 → get_or nodes k false ≡ false
      → ((q : List Bool) → Marks out q (concat_map (places w) (numbers_from k)) → Marks m q ls) → p ≡ out
      → (q : List Bool) → Marks p q (concat_map (places w) (numbers_from (k + 1))) → Marks m q ls
  placed_no w k ls h b inv e q r = inv q (rw (numbers_no k h b) (rw e at r))
