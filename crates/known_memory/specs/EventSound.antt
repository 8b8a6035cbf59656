-- No event changes whether memory is sound: one of sound memory leaves it sound, one of spoilt memory is refused with 8 and changes nothing. An
-- opening leaves sound memory where it is accepted, and only there. Assumes nothing.
use Rattle.std.specs.Prelude.{◌≡◌, refl, List, true, false, ℕ, eqb}
use Rattle.std.proofs.Common.{sym, ap, ◌∙◌, ⊎_elim, arith, ne_eqb}
use Rattle.spec.specs.declared.Config.{Config}
use Rattle.spec.specs.Lists.{all_true}
use Rattle.spec.specs.Machine.{Machine, state_of}
use Rattle.spec.specs.Sound.{config_sound, sound_numbers, sound}
use Rattle.spec.specs.Entries.{Opened, opening, not_opened, refuse, start, step}
use Rattle.spec.specs.Schedule.{Event, starts, steps, event}
use Rattle.laws.specs.Tests.{bool?}
use Rattle.laws.specs.OpeningSound.{OpeningOutcome, refused, accepted, opening_outcome, opening_sound}
use Rattle.laws.proofs.EntriesKeep.{event_keeps}

spoilt_kept : (y : Machine) (v : Event) → sound y ≡ false → (event y v).machine ≡ y
unfolding event start step refuse
spoilt_kept y (starts k call tag) s = rw s refl
spoilt_kept y (steps k) s = rw s refl

pub event_sound : (y : Machine) (v : Event) → sound (event y v).machine ≡ sound y
event_sound y v = ⊎_elim (λ s. event_keeps y v s ∙ sym s) (λ s. ap sound (spoilt_kept y v s)) (bool? (sound y))

-- a refused opening leaves a state of zeros, with no task
pub opening_known : (g : Config) (ns bs : List ℕ) → sound (opening g ns bs).machine ≡ eqb (opening g ns bs).refusal 0
unfolding not_opened sound sound_numbers config_sound all_true state_of
opening_known g ns bs = go (opening_outcome g ns bs) (opening_sound g ns bs)
  where
    go : {o : Opened} → OpeningOutcome g ns bs o → (o.refusal ≡ 0 → sound o.machine ≡ true) → sound o.machine ≡ eqb o.refusal 0
    go (refused n h) q = sym (ne_eqb n 0 (λ e. omega arith))
    go (accepted a h i j k l m) q = q refl
