-- What the history notes of a task's last start, against the task's position in the model. Assumes nothing.
use Rattle.std.specs.Prelude.{◌≡◌, refl, Bool, true, false, ℕ}
use Rattle.spec.specs.declared.Answer.{Answer}
use Rattle.spec.specs.declared.Call.{Call}
use Rattle.spec.specs.declared.Call.TheVariants.{Insert, Remove, Contains}
use Rattle.model.specs.Heap.{Heap}
use Rattle.spec.specs.History.{Started, set_call}
use Rattle.model.specs.Positions.{Position, no_call, lookup, update, resize}
use Rattle.model.specs.Lines.{Step, step_12, step_13_filled, step_13_empty, step_15_some, step_15_none, step_16, step_17, step_32, step_33_filled}
use Rattle.model.specs.Lines.{step_33_empty, step_36_frozen, update_fills, step_51_update, step_20, resize_fills, step_51_next, step_51_last, step_24_head}
use Rattle.model.specs.Lines.{step_24_past, step_27_grow, step_27_shrink, step_20_limit, step_28_done, step_28_lost, EndStep, end_18, end_36_kept}
use Rattle.model.specs.Lines.{end_36_added, end_36_removed, end_36_absent}

-- ---- a task's last start, and its place in the model

abbrev pub set_of : Bool → Call
set_of true = Insert
set_of false = Remove

abbrev pub StartedAs : Started → Position → ℕ → Type 0
StartedAs b no_call s = Unit {0}
StartedAs b (lookup k l) s = (b.call ≡ Contains) × (b.tag ≡ k) × (b.start ≡ s)
StartedAs b (update u k l) s = (b.call ≡ set_of u) × (b.tag ≡ k) × (b.start ≡ s)
StartedAs b (resize u l) s = set_call b.call ≡ false

pub started_step : {h g : Heap} {l l' : Position} (b : Started) (s : ℕ) → Step h l g l' → StartedAs b l s → StartedAs b l' s
started_step b s step_12 t = t
started_step b s (step_13_filled f) t = t
started_step b s (step_13_empty f) t = t
started_step b s (step_15_some f) t = t
started_step b s (step_15_none f) t = t
started_step b s step_16 t = t
started_step b s step_17 t = t
started_step b s step_32 t = t
started_step b s (step_33_filled f) t = t
started_step b s (step_33_empty f) t = t
started_step b s (step_36_frozen f) t = t
started_step b s (update_fills f) t = t
started_step b s step_51_update t = t
started_step b s step_20 t = t
started_step b s (resize_fills f) t = t
started_step b s (step_51_next f) t = t
started_step b s (step_51_last f) t = t
started_step b s (step_24_head f) t = t
started_step b s (step_24_past f) t = t
started_step b s step_27_grow t = t
started_step b s (step_27_shrink f) t = t
started_step b s step_20_limit t = tt
started_step b s (step_28_done f) t = tt
started_step b s (step_28_lost f) t = tt

pub started_resize : {h g : Heap} {l : Position} (b : Started) (s : ℕ) → Step h l g no_call → StartedAs b l s → set_call b.call ≡ false
started_resize b s step_20_limit t = t
started_resize b s (step_28_done f) t = t
started_resize b s (step_28_lost f) t = t

pub started_end : {h g : Heap} {l : Position} {c : Call} {k : ℕ} {a : Answer} (b : Started) (s : ℕ) → EndStep h l c k g a → StartedAs b l s
    → (b.call ≡ c) × (b.tag ≡ k) × (b.start ≡ s)
started_end b s end_18 t = t
started_end b s (end_36_kept l e g n) t = t
started_end b s (end_36_added l e g n) t = t
started_end b s (end_36_removed e u) t = t
started_end b s (end_36_absent e u) t = t

pub is_set_call : {h g : Heap} {l : Position} {c : Call} {k : ℕ} {a : Answer} → EndStep h l c k g a → set_call c ≡ true
unfolding set_call
is_set_call end_18 = refl
is_set_call (end_36_kept l e g n) = refl
is_set_call (end_36_added l e g n) = refl
is_set_call (end_36_removed e u) = refl
is_set_call (end_36_absent e u) = refl
