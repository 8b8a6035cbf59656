-- Each accepted step is one step of the model, and the words after it simulate the model after it. Assumes nothing.
use Rattle.std.specs.Prelude.{◌≡◌, ◌⊎◌, Option, ℕ, Ok}
use Rattle.std.proofs.Math.Path.{refl, sym}
use Rattle.std.proofs.Common.{◌∙◌}
use Rattle.std.proofs.Math.Bool.{true}
use Prim.Native.Nat.{ℕ, ◌+◌, min}
use Rattle.spec.specs.Outputs.{Output}
use Rattle.spec.specs.declared.Progress.TheVariants as Outs
use Rattle.spec.specs.Machine.{Machine}
use Rattle.spec.specs.Entries.{Reply}
use Rattle.laws.specs.AfterWrites.{SameState, same_but}
use Rattle.laws.specs.Tests.{At, hit, miss}
use Rattle.model.specs.Functions.{upd, upd_at}
use Rattle.model.specs.Heap.{Heap}
use Rattle.spec.specs.declared.Answer.{Answer}
use Rattle.spec.specs.declared.Answer.TheVariants.{Done}
use Rattle.spec.specs.declared.Call.{Call}
use Rattle.model.specs.Positions.{Position, no_call}
use Rattle.model.specs.Lines.{Step, EndStep}
use Rattle.model.specs.Runs.{Configuration, after_step, after_end}
use Rattle.linear.specs.Simulates.{Simulates}
use Rattle.linear.specs.KnownNodes.{Names, Known, head, behind, named}

-- what a step says, and the configuration after it
pub data Outcome (w : Configuration) (p own : ℕ) : Output → Configuration → Type 0 where
  went_on : {n : ℕ} (g : Heap) (l : Position) → Step w.heap (w.position p) g l → Outcome w p own (Ok (Outs.At n)) (after_step w p g l)
  call_ended : {c : Call} {k : ℕ} {a : Answer} (g : Heap) → EndStep w.heap (w.position p) c k g a → {full : Option ℕ}
      → Outcome w p own (Ok (Outs.End a (min (own + 1) 65535) full)) (after_end w p c k g a)
  -- the head moves only with done
  resize_ended : (a : Answer) (g : Heap) → Step w.heap (w.position p) g no_call → (g.head ≡ w.heap.head) ⊎ (a ≡ Done) → {full : Option ℕ}
      → Outcome w p own (Ok (Outs.End a (min (own + 1) 65535) full)) (after_step w p g no_call)

pub record StepSimulated (w : Configuration) (p own : ℕ) (m : Reply) : Type 0 where
  pub configuration : Configuration
  pub outcome : Outcome w p own m.out configuration
  pub sim : Simulates m.machine configuration.heap configuration.position

-- what is known afterwards was known, if the head stays
pub known_less : (h g : Heap) (position : ℕ → Position) (p : ℕ) (l : Position) → g.head ≡ h.head → (g.linked ≡ true → h.linked ≡ true)
    → ((x : ℕ) → Names l x → Known h position x)
    → (x : ℕ) → Known g (upd position p l) x → Known h position x
known_less h g position p l e u names x (head q) = head (q ∙ e)
known_less h g position p l e u names x (behind a q) = behind (u a) (sym e ∙ q)
known_less h g position p l e u names x (named q n) = go (upd_at position p l q)
  where
    go : At (q ≡ p) l (position q) (upd position p l q) → Known h position x
    go (hit a b) = names x (rw b at n)
    go (miss a b) = named q (rw b at n)

pub same_state : (y : Machine) → SameState y y
same_state y = same_but _ _ refl refl refl
