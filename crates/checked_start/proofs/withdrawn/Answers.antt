use mathlib.Core.Logic.{inl, inr}
use Rattle.spec.specs.Entries.{withdrawn}
use Rattle.checked_start.proofs.withdrawn.Goals as goal

pub returns-in-Insert : goal.returns-in-Insert
unfolding withdrawn
returns-in-Insert c = rw c.in-Insert.is

pub returns-in-Remove : goal.returns-in-Remove
unfolding withdrawn
returns-in-Remove c = elim c.in-Remove.is [ inl e ↦ rw e | inr f ↦ elim f [ inl e ↦ rw e | inr g ↦ elim g [ inl e ↦ rw e | inr e ↦ rw e ] ] ]
