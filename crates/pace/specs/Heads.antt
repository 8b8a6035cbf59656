-- The head's number in the sequence of heads: only the step that ends a resize moves it, to the next one. Assumes nothing.
use Rattle.std.specs.Prelude.{◌≡◌, refl, ◌⊎◌, ℕ, suc, ◌+◌, ◌≤◌, Ok, Err}
use Rattle.std.proofs.Common.{◌∙◌, inl, inr, arith}
use Rattle.spec.specs.declared.Answer.{Answer}
use Rattle.spec.specs.declared.Answer.TheVariants.{Done}
use Rattle.spec.specs.declared.Call.{Call}
use Rattle.spec.specs.Outputs.{Output}
use Rattle.spec.specs.declared.Progress.TheVariants as Outs
use Rattle.model.specs.Functions.{upd_same}
use Rattle.model.specs.Heap.{Heap}
use Rattle.model.specs.Positions.{Position, no_call}
use Rattle.model.specs.Lines.{Step, step_12, step_13_filled, step_13_empty, step_15_some, step_15_none, step_16, step_17, step_32, step_33_filled}
use Rattle.model.specs.Lines.{step_33_empty, step_36_frozen, update_fills, step_51_update, step_20, resize_fills, step_51_next, step_51_last}
use Rattle.model.specs.Lines.{step_24_head, step_24_past, step_27_grow, step_27_shrink, step_20_limit, step_28_done, step_28_lost}
use Rattle.model.specs.Lines.{EndStep, end_18, end_36_kept, end_36_added, end_36_removed, end_36_absent}
use Rattle.model.specs.FillSteps.{fill_head}
use Rattle.model.specs.Runs.{Configuration}
use Rattle.linear.specs.StepSimulated.{Outcome, went_on, call_ended, resize_ended}
use Rattle.linear.specs.EventOutcomes.{StandsAt}
use Rattle.pace.specs.StepCounts.{done_with}

step_head : {h g : Heap} {l l' : Position} → Step h l g l' → (g.head ≡ h.head) ⊎ ((l' ≡ no_call) × (g.head ≡ suc h.head))
step_head step_12 = inl refl
step_head (step_13_filled f) = inl refl
step_head (step_13_empty f) = inl refl
step_head (step_15_some f) = inl refl
step_head (step_15_none f) = inl refl
step_head step_16 = inl refl
step_head step_17 = inl refl
step_head step_32 = inl refl
step_head (step_33_filled f) = inl refl
step_head (step_33_empty f) = inl refl
step_head (step_36_frozen f) = inl refl
step_head (update_fills f) = inl (fill_head f)
step_head step_51_update = inl refl
step_head step_20 = inl refl
step_head (resize_fills f) = inl (fill_head f)
step_head (step_51_next f) = inl refl
step_head (step_51_last f) = inl refl
step_head (step_24_head f) = inl refl
step_head (step_24_past f) = inl refl
step_head step_27_grow = inl refl
step_head (step_27_shrink f) = inl refl
step_head step_20_limit = inl refl
step_head (step_28_done f) = inr (refl, refl)
step_head (step_28_lost f) = inl refl

end_head : {h g : Heap} {l : Position} {c : Call} {k : ℕ} {a : Answer} → EndStep h l c k g a → g.head ≡ h.head
end_head end_18 = refl
end_head (end_36_kept l e g n) = refl
end_head (end_36_added l e g n) = refl
end_head (end_36_removed e u) = refl
end_head (end_36_absent e u) = refl

-- ---- so it moves only where the output says that a resize is done

-- the resizes that an output says are done
abbrev pub done_in : Output → ℕ
done_in (Ok (Outs.At l)) = 0
done_in (Ok (Outs.End a own full)) = done_with a
done_in (Err r) = 0

-- from the head w to the head v with j resizes done
pub record HeadMoves (w v j : ℕ) : Type 0 where
  pub rises : w ≤ v
  pub at_most : v ≤ w + j

stays : (w v j : ℕ) → v ≡ w → HeadMoves w v j
stays w v j e = record { rises = omega arith; at_most = omega arith }

one_on : (w v : ℕ) (a : Answer) → a ≡ Done → v ≡ suc w → HeadMoves w v (done_with a)
unfolding done_with
one_on w v a e f = rw e (record { rises = omega arith; at_most = omega arith })

pub outcome_head : {w : Configuration} {p : ℕ} {v : Configuration} {own : ℕ} {o : Output} → Outcome w p own o v → StandsAt o (v.position p)
    → HeadMoves w.heap.head v.heap.head (done_in o)
outcome_head {w} {p = p} (went_on g l line) at = go (step_head line)
  where
    go : (g.head ≡ w.heap.head) ⊎ ((l ≡ no_call) × (g.head ≡ suc w.heap.head)) → HeadMoves w.heap.head g.head 0
    go (inl e) = stays _ _ 0 e
    go (inr e) = absurd (at.0 (upd_same w.position p l ∙ e.0))
outcome_head (call_ended {a = a} g e) at = stays _ _ (done_with a) (end_head e)
outcome_head (resize_ended a g line (inl same)) at = stays _ _ (done_with a) same
outcome_head {w} (resize_ended a g line (inr done)) at = go (step_head line)
  where
    go : (g.head ≡ w.heap.head) ⊎ ((no_call ≡ no_call) × (g.head ≡ suc w.heap.head)) → HeadMoves w.heap.head g.head (done_with a)
    go (inl e) = stays _ _ (done_with a) e
    go (inr e) = one_on _ _ a done e.1
