-- The plain set that answers are held against stays an ascending list of at most 64 tags: an insert adds a tag only where there is
-- room, and no other call adds one. What it holds after each call. Assumes nothing.
use Rattle.std.specs.Prelude.{ℕ, ◌≤◌, ◌<◌, ◌≡◌, refl, ◌⊎◌, List, true, false, length}
use Rattle.std.proofs.Common.{inl, inr, arith}
use Rattle.spec.specs.declared.Answer.{Answer}
use Rattle.spec.specs.declared.Answer.TheVariants.{Yes, No, Full, Done, Lost, Limit}
use Rattle.spec.specs.declared.Call.{Call}
use Rattle.spec.specs.declared.Call.TheVariants.{Insert, Remove, Contains, Grow, Shrink}
use Rattle.spec.specs.Lists.{member, add_tag}
use Rattle.spec.specs.Plain.{insert_answer, inserted, plain_insert, plain_remove, plain_contains, plain}
use Rattle.spec.specs.StepRefusals.{gains}
use Rattle.laws.specs.Tests.{bool?, tf}
use Rattle.laws.specs.Ascending.{Rising, rising_add, rising_remove, length_add, length_remove}
use Rattle.laws.specs.Answers.{gains_yes, gains_room}

pub inserted_yes : (a : Answer) (k : ℕ) (S : List ℕ) → a ≡ Yes → inserted a k S ≡ add_tag k S
unfolding inserted
inserted_yes a k S e = rw e

pub inserted_else : (a : Answer) (k : ℕ) (S : List ℕ) → gains a ≡ false → inserted a k S ≡ S
unfolding inserted
inserted_else Yes k S e = absurd (tf refl e)
inserted_else No k S e = refl
inserted_else Full k S e = refl
inserted_else Done k S e = refl
inserted_else Lost k S e = refl
inserted_else Limit k S e = refl

pub plain_rising : (S : List ℕ) (c : Call) (k : ℕ) → Rising S → Rising (plain S c k).tags
unfolding plain plain_insert plain_remove plain_contains
plain_rising S Insert k r = go (insert_answer (length S) (member k S)) (bool? _)
  where
    go : (a : Answer) → (gains a ≡ true) ⊎ (gains a ≡ false) → Rising (inserted a k S)
    go a (inl g) = rw (inserted_yes a k S (gains_yes a g)) (rising_add k S r)
    go a (inr g) = rw (inserted_else a k S g) r
plain_rising S Remove k r = rising_remove k S r
plain_rising S Contains k r = r
plain_rising S Grow k r = r
plain_rising S Shrink k r = r

pub plain_few : (S : List ℕ) (c : Call) (k : ℕ) → length S ≤ 64 → length (plain S c k).tags ≤ 64
unfolding plain plain_insert plain_remove plain_contains
plain_few S Insert k h = go (insert_answer (length S) (member k S)) (gains_room (length S) (member k S)) (bool? _)
  where
    go : (a : Answer) → (gains a ≡ true → length S < 64) → (gains a ≡ true) ⊎ (gains a ≡ false) → length (inserted a k S) ≤ 64
    go a room (inl g) = let b = room g in let c = length_add k S in rw (inserted_yes a k S (gains_yes a g)) (omega arith)
    go a room (inr g) = rw (inserted_else a k S g) h
plain_few S Remove k h = let c = length_remove k S in omega arith
plain_few S Contains k h = h
plain_few S Grow k h = h
plain_few S Shrink k h = h
