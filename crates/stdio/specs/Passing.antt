-- What is printed between two reads does not change what a reader comes to, whether it could be written or not. Assumes nothing.
use Rattle.std.specs.Prelude.{ℕ, ◌≤◌, List, Bool, true, false, not, ◌&&◌, ltb, if◌then◌else◌}
use Rattle.std.proofs.Math.Path.{◌≡◌, refl, sym, ap}
use Rattle.std.proofs.Common.{subst, ◌∙◌, arith}
use Rattle.session.specs.Grammar.{InputLine}
use Rattle.stdio.specs.declared.input.Given.{Given}
use Rattle.stdio.specs.declared.input.Given.TheVariants.{Part, Line, TooLong, Settled, Ended, ReadFailed, WriteFailed}
use Rattle.stdio.specs.declared.input.Input.{Input}
use Rattle.stdio.specs.declared.output.Passed.{Passed}
use Rattle.stdio.specs.Inputs.{given_number, goes_on, begun_line, lines_left}
use Rattle.stdio.specs.Readers.{to_come, Follows}
use Rattle.stdio.specs.Loops.{never}
use Rattle.stdio.specs.Outcomes.{will_read, write_failed, Passes}

-- how many calls are left
pub passed_left : (p : Input) (due : ℕ) (w : Passed) → Passes p due w → w.input.left ≤ p.left
passed_left p due w g = rw g.input (go (will_read p && not g.written))
  where
    go : (b : Bool) → (if b then write_failed p else p).left ≤ p.left
    go true = omega arith
    go false = omega arith

pub will_read_on : (p : Input) → will_read p ≡ true → (goes_on p.given ≡ true) × (p.reads ≡ true)
unfolding will_read
will_read_on p e = go (goes_on p.given) p.reads e
  where
    go : (b r : Bool) → (b && (r && not (ltb p.at p.end))) ≡ true → (b ≡ true) × (r ≡ true)
    go true true e = (refl, refl)
    go true false e = never e
    go false r e = never e

module _ {S A : Type 0} (answer : S → List InputLine → A) (reads : Bool) (input : List ℕ) (s₀ : S) (p : Input) (room : List ℕ) (s : S)
    (f : Follows answer reads input s₀ p room s) where
  unwritten_same : goes_on p.given ≡ true → (more : List ℕ) → to_come p room more ≡ to_come (write_failed p) room more
  unfolding to_come lines_left begun_line given_number
  unwritten_same e more = go p.given refl
    where
      go : (g : Given) → p.given ≡ g → to_come p room more ≡ to_come (write_failed p) room more
      go Part i = rw i
      go Line i = rw i
      go TooLong i = never (rw i at e)
      go Settled i = never (rw i at e)
      go Ended i = never (rw i at e)
      go ReadFailed i = never (rw i at e)
      go WriteFailed i = never (rw i at e)

  follows_unwritten : will_read p ≡ true → Follows answer reads input s₀ (write_failed p) room s
  unfolding given_number
  follows_unwritten e =
      let on = will_read_on p e in
      record {
        read = f.read;
        in_memory = f.in_memory;
        source = f.source;
        fits = f.fits;
        same = λ more. f.same more ∙ ap (answer s) (unwritten_same on.0 more);
        ended = λ z. let y : ◌≡◌ {A = ℕ} 0 1 = cc in absurd (omega arith);
        over = λ z. refl;
        on = λ z. never z;
        long = λ z. let y : ◌≡◌ {A = ℕ} 0 1 = cc in absurd (omega arith);
        never_fails = λ z few. never (sym z ∙ sym f.source ∙ on.1);
      }

  pub follows_passed : (due : ℕ) (r : Passed) → Passes p due r → Follows answer reads input s₀ r.input room s
  follows_passed due r x =
      subst (λ (q : Input). Follows answer reads input s₀ q room s) (sym x.input) (go (will_read p) refl x.written)
    where
      go : (b : Bool) → will_read p ≡ b → (w : Bool) → Follows answer reads input s₀ (if b && not w then write_failed p else p) room s
      go true e false = follows_unwritten e
      go true e true = f
      go false e w = f
