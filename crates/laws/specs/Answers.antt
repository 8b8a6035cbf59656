-- What an insert answers, by the number of tags and by whether the tag is there: the only place that opens `insert_answer`. What
-- each answer of an insert at line 36 writes. Assumes nothing.
use Rattle.std.specs.Prelude.{ℕ, ◌≤◌, ◌<◌, ◌≡◌, ◌⊎◌, Bool, true, false, leb}
use Rattle.std.proofs.Math.Path.{refl}
use Rattle.std.proofs.Common.{inl, inr}
use borrow.Author.Tests.{leb-true, leb-false, le-leb, lt-leb}
use Rattle.spec.specs.declared.Answer.{Answer}
use Rattle.spec.specs.declared.Answer.TheVariants.{Yes, No, Full, Done, Lost, Limit}
use Rattle.spec.specs.declared.Task.{Task}
use Rattle.spec.specs.Lists.{add_tag}
use Rattle.spec.specs.Machine.{Machine}
use Rattle.spec.specs.Words.{number, nothing, put_tags}
use Rattle.spec.specs.Listed.{tags_of}
use Rattle.spec.specs.Plain.{insert_answer}
use Rattle.spec.specs.Lines.{insert_write}
use Rattle.spec.specs.StepRefusals.{gains}
use Rattle.laws.specs.Tests.{bool?, tf}

pub data InsertAnswer (n : ℕ) (present : Bool) : Answer → Type 0 where
  there_already : present ≡ true → InsertAnswer n present No
  no_room : present ≡ false → 64 ≤ n → InsertAnswer n present Full
  goes_in : n < 64 → present ≡ false → InsertAnswer n present Yes

module _ (n : ℕ) (present : Bool) where
  pub insert_no : present ≡ true → insert_answer n present ≡ No
  unfolding insert_answer
  insert_no e = rw e

  pub insert_full : present ≡ false → 64 ≤ n → insert_answer n present ≡ Full
  unfolding insert_answer
  insert_full e h = rw (e, le-leb 64 n h)

  pub insert_yes : n < 64 → present ≡ false → insert_answer n present ≡ Yes
  unfolding insert_answer
  insert_yes h e = rw (e, lt-leb 64 n h)

  pub insert_answers : InsertAnswer n present (insert_answer n present)
  insert_answers = go (bool? (leb 64 n)) (bool? present)
    where
      go : (leb 64 n ≡ true) ⊎ (leb 64 n ≡ false) → (present ≡ true) ⊎ (present ≡ false) → InsertAnswer n present (insert_answer n present)
      go g (inl e) = rw (insert_no e) (there_already e)
      go (inl g) (inr e) = let h = leb-true 64 n g in rw (insert_full e h) (no_room e h)
      go (inr g) (inr e) = let h = leb-false 64 n g in rw (insert_yes h e) (goes_in h e)

-- ---- what those who use an answer need of it

-- an insert gains its tag exactly if it is answered yes
pub gains_yes : (a : Answer) → gains a ≡ true → a ≡ Yes
gains_yes Yes e = refl
gains_yes No e = absurd (tf e refl)
gains_yes Full e = absurd (tf e refl)
gains_yes Done e = absurd (tf e refl)
gains_yes Lost e = absurd (tf e refl)
gains_yes Limit e = absurd (tf e refl)

-- and then there was room
pub gains_room : (n : ℕ) (present : Bool) → gains (insert_answer n present) ≡ true → n < 64
gains_room n present e = go (insert_answers n present) e
  where
    go : {a : Answer} → InsertAnswer n present a → gains a ≡ true → n < 64
    go (there_already p) e = absurd (tf e refl)
    go (no_room p h) e = absurd (tf e refl)
    go (goes_in h p) e = h

-- ---- what an insert that line 36 answers so writes

module _ (y : Machine) (c : Task) where
  pub insert_writes_tag : (a : Answer) → a ≡ Yes → insert_write y c a ≡ put_tags (number c.b) (add_tag c.tag (tags_of y c.b))
  unfolding insert_write
  insert_writes_tag a e = rw e

  pub insert_writes_nothing : (a : Answer) → gains a ≡ false → insert_write y c a ≡ nothing
  unfolding insert_write
  insert_writes_nothing Yes e = absurd (tf refl e)
  insert_writes_nothing No e = refl
  insert_writes_nothing Full e = refl
  insert_writes_nothing Done e = refl
  insert_writes_nothing Lost e = refl
  insert_writes_nothing Limit e = refl
