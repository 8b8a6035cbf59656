-- What a line gives, from the tests that it makes: a test that fails is a refusal, and where all pass the line's effect is accepted. The
-- tests and the effect are those of the line's number, as `laws` states them once for all lines. Assumes nothing.
use Rattle.std.specs.Prelude.{Ok, Err}
use mathlib.Core.Path.{◌≡◌, sym, ap, ◌∙◌}
use mathlib.Core.List.{List}
use mathlib.Core.Bool.{true}
use Prim.Native.Nat.{ℕ}
use Rattle.spec.specs.declared.Refusal.{Refusal}
use Rattle.spec.specs.declared.Refusal.TheVariants.{NoRecord, Spoilt}
use Rattle.spec.specs.Machine.{Machine, machine_of}
use Rattle.spec.specs.Lines.{Effect}
use Rattle.spec.specs.Entries.{Reply, refuse, accept, step_running}
use Rattle.spec.specs.declared.State.{State}
use Rattle.spec.specs.declared.Task.{Task}
use Rattle.spec.specs.Outputs.{Output}
use Rattle.spec.specs.declared.Progress.TheVariants.{At, End}
use Rattle.laws.specs.Tests.{tf}
use Rattle.laws.specs.StepAt.{Test, SomeFails, AllPass, one_fails, none_fails, tests_at, takes_at, effect_at, tested, refused_8, refused_7, accepted}
use Rattle.line_moves.specs.declared.Moved.{Moved}
use Rattle.lines.specs.Reply.{changes, settled, moved_reply, refusal, Gives}

module _ {s : State} {k : ℕ} {m : Moved} {ns bs : List ℕ} {r : Reply} where
  pub gives_as : {q : Reply} → q ≡ r → Gives s k m ns bs q → Gives s k m ns bs r
  gives_as e g = record { reply = g.reply ∙ e; refuses = g.refuses }

  pub refusing : (why : Refusal) → m ≡ refusal s why → r ≡ refuse why (machine_of s ns bs) → Gives s k m ns bs r
  unfolding refuse settled changes refusal
  refusing why e q = record {
    reply = ap (λ (m : Moved). moved_reply s k m ns bs) e ∙ sym q;
    refuses = λ w h. e ∙ ap (refusal s) (sym (ap (λ (m : Moved). why_of m.out) e) ∙ ap why_of h);
  }
    where
      why_of : Output → Refusal
      why_of (Ok (At l)) = Spoilt
      why_of (Ok (End a n full)) = Spoilt
      why_of (Err w) = w

  pub going : changes m.out k ≡ true → moved_reply s k m ns bs ≡ r → Gives s k m ns bs r
  unfolding changes
  going e q = record { reply = q; refuses = λ w h. absurd (tf e (ap (λ (o : Output). changes o k) h)) }

-- ---- lines of one shape: the tests and the effect are given

module _ (y : Machine) {k : ℕ} (c : Task) {m : Moved} (xs : List Test) (e : Effect) where
  pub fails_test : SomeFails xs → m ≡ refusal y.state Spoilt → Gives y.state k m y.nodes y.buckets (tested xs y k c e)
  unfolding tested
  fails_test p h = refusing Spoilt h (let z = one_fails p in rw z)

  pub passes_tests : AllPass xs → {ns bs : List ℕ} → changes m.out k ≡ true → moved_reply y.state k m ns bs ≡ accept y k c.own e
      → Gives y.state k m ns bs (tested xs y k c e)
  unfolding tested
  passes_tests p h q = going h (let z = none_fails xs p in rw z q)

-- ---- the task stands at line n

module _ (y : Machine) {k : ℕ} (c : Task) {m : Moved} (n : ℕ) (at : c.line ≡ n) where
  pub refuses_8 : SomeFails (tests_at n y c) → m ≡ refusal y.state Spoilt → Gives y.state k m y.nodes y.buckets (step_running y k c)
  refuses_8 p e = refusing Spoilt e (refused_8 y c n at k p)

  module _ (p : AllPass (tests_at n y c)) where
    pub refuses_7 : SomeFails (takes_at n y) → m ≡ refusal y.state NoRecord → Gives y.state k m y.nodes y.buckets (step_running y k c)
    refuses_7 q e = refusing NoRecord e (refused_7 y c n at k p q)

    pub goes : AllPass (takes_at n y) → {ns bs : List ℕ} → changes m.out k ≡ true
        → moved_reply y.state k m ns bs ≡ accept y k c.own (effect_at n y c) → Gives y.state k m ns bs (step_running y k c)
    goes q e h = going e (h ∙ sym (accepted y c n at k p q))
