-- The numbers of the refusals are 1 to 8, and no two refusals have one number. Assumes nothing.
use Rattle.std.specs.Prelude.{ℕ, ◌≤◌, ◌≡◌, refl, eqb, if◌then◌else◌, Option, Some, None}
use Rattle.std.proofs.Common.{ap, sym, ◌∙◌, arith}
use Rattle.coop_spec.specs.declared.Refusal.{Refusal}
use Rattle.coop_spec.specs.declared.Refusal.TheVariants.{BadTasks, BadVersions, NoTask, NotStarted, Idle, NoVersion, Spoilt}
use Rattle.coop_spec.specs.Numbers.{refusal_number, opening_number}

-- the refusal of a number
abbrev named : ℕ → Refusal
named n =
    if eqb n 1 then BadTasks else if eqb n 3 then BadVersions else if eqb n 4 then NoTask else if eqb n 5 then NotStarted else if eqb n 6 then Idle
    else if eqb n 7 then NoVersion else Spoilt

named_back : (r : Refusal) → named (refusal_number r) ≡ r
named_back BadTasks = refl
named_back BadVersions = refl
named_back NoTask = refl
named_back NotStarted = refl
named_back Idle = refl
named_back NoVersion = refl
named_back Spoilt = refl

pub same_refusal : (r s : Refusal) → refusal_number r ≡ refusal_number s → r ≡ s
same_refusal r s e = sym (named_back r) ∙ ap named e ∙ named_back s

pub from_1_to_8 : (r : Refusal) → (1 ≤ refusal_number r) × (refusal_number r ≤ 8)
from_1_to_8 BadTasks = (omega arith, omega arith)
from_1_to_8 BadVersions = (omega arith, omega arith)
from_1_to_8 NoTask = (omega arith, omega arith)
from_1_to_8 NotStarted = (omega arith, omega arith)
from_1_to_8 Idle = (omega arith, omega arith)
from_1_to_8 NoVersion = (omega arith, omega arith)
from_1_to_8 Spoilt = (omega arith, omega arith)

-- refusals of two numbers are not the same
pub apart : (r s : Refusal) → ¬ (refusal_number r ≡ refusal_number s) → ¬ (r ≡ s)
apart r s f e = f (ap refusal_number e)

-- ---- what an opening answers: the number 0 is that of none alone

pub never_0 : (r : Refusal) → ¬ (refusal_number r ≡ 0)
never_0 r z = omega (arith, from_1_to_8 r)

module _ {why : Option Refusal} {n : ℕ} (number : opening_number why ≡ n) where
  pub accepts : why ≡ None → n ≡ 0
  accepts e = sym number ∙ ap opening_number e

  pub refuses : {r : Refusal} → why ≡ Some r → refusal_number r ≡ n
  refuses e = sym (ap opening_number e) ∙ number

  pub not_0 : {r : Refusal} → why ≡ Some r → ¬ (n ≡ 0)
  not_0 {r = r} e z = never_0 r (refuses e ∙ z)
