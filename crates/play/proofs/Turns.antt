-- A move tried in a turn: with the pools as they were, it wins or loses as the definition has it, and the pools are again as they were.
-- Assumes nothing.
use Prim.Native.Nat.{ℕ}
use mathlib.Core.Path.{◌≡◌, refl, sym, ap, subst, ◌∙◌}
use mathlib.Core.List.{List}
use mathlib.Core.Bool.{Bool, true, false, ◌||◌}
use Rattle.std.specs.Prelude.{is_some}
use Rattle.std.specs.declared.option.Option.{Option}
use Rattle.std.specs.declared.option.Option.TheVariants.{Some, None}
use Rattle.spec.specs.declared.State.{State}
use Rattle.spec.specs.Machine.{Machine, machine_of}
use Rattle.spec.specs.Sound.{sound}
use Rattle.game.specs.declared.LanesMove.{LanesMove}
use Rattle.game.specs.declared.OfficeMove.{OfficeMove}
use Rattle.game.specs.Game.{lanes_may, after_lanes, ends_insert, wins_by, office_may, after_office, loses_by, lanes_win, office_loses}
use Rattle.game.specs.Game.{winning_move, is_win}
use Rattle.game.specs.FirstMove.{win_is_move}
use Rattle.undo.specs.Undo.{nodes_back, buckets_back}
use Rattle.play.specs.declared.moves.Played.{Played}
use Rattle.play.specs.Moves.{said_of, PlayedTo}
use Rattle.play.proofs.MovesMade.{lanes_keep, office_keeps}
use Rattle.play.proofs.Tries.{wins_as, loses_as}

-- the insert has not ended
pub unended : {b x r : Bool} → b ≡ false → x ≡ r → r ≡ (b || x)
unended {x = x} e f = sym (ap (λ (c : Bool). c || x) e ∙ f)

-- a move is given exactly if what is said is a win
some_wins : (v : Option LanesMove) → is_some v ≡ is_win (said_of v)
unfolding is_win
some_wins (Some m) = refl
some_wins None = refl

-- the pools ns and bs of the loop are the pools ns₀ and bs₀ that the turn was given
module _ (s : State) {ns₀ bs₀ ns bs : List ℕ} (p : ns ≡ ns₀) (q : bs ≡ bs₀) where
  abbrev given : Machine
  given = machine_of s ns₀ bs₀

  abbrev there : Machine
  there = machine_of s ns bs

  same : there ≡ given
  same = rw (p, q)

  -- ---- of the lanes

  module _ (m : LanesMove) (r : Played) {ns₁ bs₁ : List ℕ} (d : PlayedTo there (ends_insert there m) (after_lanes there m) r ns₁ bs₁) where
    lanes_made : PlayedTo given (ends_insert given m) (after_lanes given m) r ns₁ bs₁
    lanes_made = subst (λ (z : Machine). PlayedTo z (ends_insert z m) (after_lanes z m) r ns₁ bs₁) same d

    pub sound_after_lanes : sound given ≡ true → sound (machine_of r.state ns₁ bs₁) ≡ true
    sound_after_lanes e = ap sound lanes_made.after ∙ lanes_keep given m e

    pub lanes_win_as : (n : ℕ) → lanes_may given m ≡ true → (w : Bool) → w ≡ (r.ends || office_loses n (machine_of r.state ns₁ bs₁))
        → wins_by (λ z. office_loses n z) given m ≡ w
    lanes_win_as n may w e =
        wins_as (λ z. office_loses n z) given m may w
        (e ∙ ap (λ (b : Bool). b || office_loses n (machine_of r.state ns₁ bs₁)) lanes_made.ends
        ∙ ap (λ (z : Machine). ends_insert given m || office_loses n z) lanes_made.after)

  -- ---- of the office

  module _ (o : OfficeMove) (r : Played) {ns₁ bs₁ : List ℕ} (d : PlayedTo there false (after_office there o) r ns₁ bs₁) where
    office_made : PlayedTo given false (after_office given o) r ns₁ bs₁
    office_made = subst (λ (z : Machine). PlayedTo z false (after_office z o) r ns₁ bs₁) same d

    pub sound_after_office : sound given ≡ true → sound (machine_of r.state ns₁ bs₁) ≡ true
    sound_after_office e = ap sound office_made.after ∙ office_keeps given o e

    pub office_loses_as : (n : ℕ) → office_may given o ≡ true → (v : Option LanesMove) → said_of v ≡ winning_move n (machine_of r.state ns₁ bs₁)
        → loses_by (λ z. lanes_win n z) given o ≡ is_some v
    office_loses_as n may v g =
        loses_as (λ z. lanes_win n z) given o may (is_some v)
        (some_wins v ∙ ap is_win (g ∙ ap (λ (z : Machine). winning_move n z) office_made.after) ∙ win_is_move n (after_office given o))

  -- ---- the pools again

  module _ {e : Bool} {z : Machine} (r : Played) {ns₁ bs₁ ns₂ bs₂ ns₃ bs₃ : List ℕ} (d : PlayedTo there e z r ns₁ bs₁)
      (a : ns₂ ≡ ns₁) (b : bs₂ ≡ bs₁) (u : (ns₃ ≡ nodes_back r.kept ns₂) × (bs₃ ≡ buckets_back r.kept bs₂)) where
    pub nodes_again : ns₃ ≡ ns₀
    nodes_again = u.0 ∙ ap (λ (w : List ℕ). nodes_back r.kept w) a ∙ d.nodes ∙ p

    pub buckets_again : bs₃ ≡ bs₀
    buckets_again = u.1 ∙ ap (λ (w : List ℕ). buckets_back r.kept w) b ∙ d.buckets ∙ q
