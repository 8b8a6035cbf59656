-- The numbers of the refusals are 1 to 14, and no two refusals have one number. Assumes nothing.
use Rattle.std.specs.Prelude.{ℕ, ◌≤◌, ◌≡◌, refl, Option, Some, None}
use Rattle.std.proofs.Common.{ap, sym, ◌∙◌, arith}
use Rattle.spec.specs.declared.Refusal.{Refusal}
use Rattle.spec.specs.declared.Refusal.TheVariants.{BadTasks, BadNodes, BadBuckets, NoTask, Running, Idle, NoRecord, Spoilt, ShortList, BadVersion, Withdrawn}
use Rattle.spec.specs.Numbers.{refusal_number, refusal_numbered, opening_number}

pub numbered_back : (r : Refusal) → refusal_numbered (refusal_number r) ≡ r
unfolding refusal_numbered
numbered_back BadTasks = refl
numbered_back BadNodes = refl
numbered_back BadBuckets = refl
numbered_back NoTask = refl
numbered_back Running = refl
numbered_back Idle = refl
numbered_back NoRecord = refl
numbered_back Spoilt = refl
numbered_back ShortList = refl
numbered_back BadVersion = refl
numbered_back Withdrawn = refl

pub same_refusal : (r s : Refusal) → refusal_number r ≡ refusal_number s → r ≡ s
same_refusal r s e = sym (numbered_back r) ∙ ap refusal_numbered e ∙ numbered_back s

pub from_1_to_14 : (r : Refusal) → (1 ≤ refusal_number r) × (refusal_number r ≤ 14)
from_1_to_14 BadTasks = (omega arith, omega arith)
from_1_to_14 BadNodes = (omega arith, omega arith)
from_1_to_14 BadBuckets = (omega arith, omega arith)
from_1_to_14 NoTask = (omega arith, omega arith)
from_1_to_14 Running = (omega arith, omega arith)
from_1_to_14 Idle = (omega arith, omega arith)
from_1_to_14 NoRecord = (omega arith, omega arith)
from_1_to_14 Spoilt = (omega arith, omega arith)
from_1_to_14 ShortList = (omega arith, omega arith)
from_1_to_14 BadVersion = (omega arith, omega arith)
from_1_to_14 Withdrawn = (omega arith, omega arith)

-- refusals of two numbers are not the same
pub apart : (r s : Refusal) → ¬ (refusal_number r ≡ refusal_number s) → ¬ (r ≡ s)
apart r s f e = f (ap refusal_number e)

-- ---- what an opening answers: the number 0 is that of none alone

pub never_0 : (r : Refusal) → ¬ (refusal_number r ≡ 0)
never_0 r z = omega (arith, from_1_to_14 r)

module _ {why : Option Refusal} {n : ℕ} (number : opening_number why ≡ n) where
  pub accepts : why ≡ None → n ≡ 0
  accepts e = sym number ∙ ap opening_number e

  pub refuses : {r : Refusal} → why ≡ Some r → refusal_number r ≡ n
  refuses e = sym (ap opening_number e) ∙ number

  pub not_0 : {r : Refusal} → why ≡ Some r → ¬ (n ≡ 0)
  not_0 {r = r} e z = never_0 r (refuses e ∙ z)
