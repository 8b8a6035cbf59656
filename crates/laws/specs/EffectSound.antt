-- What it means that a line's effect is in order: its write keeps memory sound, and so does the task's next record. What the reads of a
-- line give in sound memory: links and tags that are in order. Assumes nothing.
use Rattle.std.specs.Prelude.{ℕ, ◌≤◌, ◌<◌, ◌≡◌, refl, List, Bool, true, false, if◌then◌else◌}
use Rattle.std.proofs.Common.{arith}
use Rattle.spec.specs.declared.Task.{Task}
use Rattle.spec.specs.declared.Answer.{Answer}
use Rattle.spec.specs.Lists.{member}
use Rattle.spec.specs.Machine.{Machine}
use Rattle.spec.specs.Words.{nothing, number, apply}
use Rattle.spec.specs.Sound.{bucket_count}
use Rattle.spec.specs.Listed.{size_of, pred_of, place_of, slot, place_for, tags_of}
use Rattle.spec.specs.Lines.{Next, on, ends, Effect, moves, answers_of}
use Rattle.laws.specs.SoundFacts.{NodeLink, RunFacts, SoundFacts}
use Rattle.laws.specs.Soundness.{named}
use Rattle.laws.specs.Ascending.{Rising, ascending_rising}
use Rattle.laws.specs.Listing.{slot_low, size_high}
use Rattle.laws.specs.WritesKeep.{WriteSound, sound_nothing}

-- ---- what a line leaves

abbrev pub NextSound : Machine → ℕ → Next → Type 0
NextSound y k (on c) = (c.running ≡ true) × RunFacts y k c
NextSound y k (ends a l) = Unit {0}

pub goes : {y : Machine} {k : ℕ} {c : Task} → c.running ≡ true → RunFacts y k c → (c.running ≡ true) × RunFacts y k c
goes q r = (q, r)

pub record EffectSound (y : Machine) (k : ℕ) (e : Effect) : Type 0 where
  pub write_sound : WriteSound y e.write
  pub next : NextSound (apply e.write y) k e.next

module _ (y : Machine) (k : ℕ) where
  pub sound_moves : (c : Task) → NextSound y k (on c) → EffectSound y k (moves c)
  unfolding apply
  sound_moves c g = record { write_sound = sound_nothing; next = g }

  pub sound_if : (b : Bool) (e g : Effect) → (b ≡ true → EffectSound y k e) → (b ≡ false → EffectSound y k g) → EffectSound y k (if b then e else g)
  sound_if true e g p q = p refl
  sound_if false e g p q = q refl

  pub sound_ends : (a : Answer) (l : ℕ) → EffectSound y k (answers_of l nothing a)
  unfolding apply
  sound_ends a l = record { write_sound = sound_nothing; next = tt }

pub either : (b : Bool) (u v : ℕ) (l : List ℕ) → member u l ≡ true → member v l ≡ true → member (if b then u else v) l ≡ true
either true u v l p q = p
either false u v l p q = q

-- a link's place, and its predecessor
module _ (y : Machine) (f : SoundFacts y) (l : ℕ) (g : NodeLink y l) (d : ¬ (l ≡ 0)) where
  pub place_low : (i : ℕ) → i < 32 → place_of y l i ≤ bucket_count y
  unfolding place_of
  place_low i h = (f.node (number l) (named y f l g d).below).place_ok i h

  pub place_for_low : (k : ℕ) → place_for y l k ≤ bucket_count y
  unfolding place_for
  place_for_low k = let a = slot_low y f l g d k in let b = size_high y f l g d in place_low (slot y.state.config k (size_of y l)) (omega arith)

  pub pred_of_link : NodeLink y (pred_of y l)
  unfolding pred_of
  pred_of_link = (f.node (number l) (named y f l g d).below).pred_ok

pub tags_rising : (y : Machine) → SoundFacts y → (l : ℕ) → l ≤ bucket_count y → ¬ (l ≡ 0) → Rising (tags_of y l)
unfolding tags_of
tags_rising y f l h d = ascending_rising _ (f.bucket (number l) (omega arith)).rising
