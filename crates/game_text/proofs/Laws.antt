-- A line taken, and the end of the input, by what the code's calls gave. Assumes nothing.
use Rattle.std.specs.Prelude.{if◌then◌else◌, Option, ℕ, Some, None}
use Prim.Native.Nat.{ℕ}
use mathlib.Core.Path.{◌≡◌, refl, sym, ap, subst, ◌∙◌}
use mathlib.Core.List.{List, [], ◌∷◌, ◌++◌}
use mathlib.Core.Bool.{Bool, true, false}
use borrow.Author.Tests.{eq-eqb, ne_eqb, eqb-true}
use lib.Dec.{eqb}
use lib.ListN.{take, drop, take-append-drop}
use Rattle.spec.specs.Machine.{Machine, machine_of}
use Rattle.session.specs.declared.Header.{Header}
use Rattle.session.specs.declared.HeaderStep.{HeaderStep}
use Rattle.session.specs.declared.HeaderStep.TheVariants.{Next, Complete, Absent, Missing}
use Rattle.session.specs.Buffer.{buffer, append}
use Rattle.session.specs.Grammar.{InputLine, parse_header_line}
use Rattle.session.specs.Print.{refusal_line}
use Rattle.session_pools.specs.PoolParts.{node_extent, bucket_extent}
use Rattle.session_state.specs.declared.Phase.{Phase}
use Rattle.session_state.specs.declared.Phase.TheVariants.{Due, Events}
use Rattle.session_state.specs.declared.Session.{Session}
use Rattle.session_state.specs.declared.Handled.{Handled}
use Rattle.session_state.specs.Handling.{session, reads_events, LineEffect, LineHandled, session_machine, with_machine}
use Rattle.session_machine.specs.declared.Stage.{Stage}
use Rattle.session_machine.specs.declared.Stage.TheVariants.{NextDue, OpenedBy, OpenedBefore, OpeningRefused, Incomplete}
use Rattle.session_machine.specs.Stages.{part_opening, Reached, opened_stage, header_stage, stage_opened, at_stage}
use Rattle.game.specs.declared.Verdict.{Verdict}
use Rattle.game.specs.Game.{verdict}
use Rattle.game.specs.Text.{game_key, verdict_line, parse_game_line}
use Rattle.std.specs.declared.option.Option.{Option}
use Rattle.std.specs.declared.option.Option.TheVariants.{Some, None}
use Rattle.game_text.specs.declared.Standing.{Standing}
use Rattle.game_text.specs.Reading.{standing, refused_with, Place, place, opened, after_event, take_event, take_unasked, take_asked}
use Rattle.game_text.specs.Reading.{take_turn, if_opened, header_taken, phase_taken, on_line, judged, phase_refusal, end_refusal}
use Rattle.game_text.specs.Reading.{end_line, ends_as, StandsAt, EndsAt}

-- a place given by its parts
pub at_place : (p : Place) (t : Standing) (ns bs : List ℕ) → StandsAt p t ns bs → place t ns bs ≡ p
at_place p t ns bs s = rw (s.next, s.nodes, s.buckets)

-- with the pools as they were
pub stays_at : (t u : Standing) (ns bs : List ℕ) → u ≡ t → StandsAt (place t ns bs) u ns bs
stays_at t u ns bs e = record { next = e; nodes = refl; buckets = refl }

-- ---- a line after the header

-- the session handled it
pub event_at : (e : LineEffect) (d : Handled) (ns bs before after : List ℕ) → LineHandled e d ns bs before after → (b : Bool)
    → b ≡ reads_events d.session.phase
    → (r : ℕ) → r ≡ (if b then 0 else 10) → (t : Standing) → t ≡ standing d.session r None → StandsAt (after_event e) t ns bs
unfolding after_event
event_at e d ns bs before after h b f r g t w =
    let told = g ∙ ap (λ (x : Bool). if x then 0 else 10) (f ∙ ap (λ (s : Session). reads_events s.phase) h.next) in
    record {
      next = w ∙ ap (λ (s : Session). standing s r None) h.next ∙ ap (λ (n : ℕ). standing e.session n None) told;
      nodes = h.nodes;
      buckets = h.buckets;
    }

module _ (t : Standing) (ns bs : List ℕ) (l : InputLine) where
  turn_at : (a : Option ℕ) → t.asked ≡ a → (u : Standing) (ns' bs' : List ℕ) → StandsAt (take_asked a (place t ns bs) l) u ns' bs'
      → StandsAt (take_turn (place t ns bs) l) u ns' bs'
  unfolding take_turn
  turn_at a e u ns' bs' s = subst (λ (x : Option ℕ). StandsAt (take_asked x (place t ns bs) l) u ns' bs') (sym e) s

  unasked_at : t.asked ≡ None → (d : Option ℕ) → d ≡ parse_header_line game_key l → (x : Option ℕ) → d ≡ x → (u : Standing) (ns' bs' : List ℕ)
      → StandsAt (take_unasked x (place t ns bs) l) u ns' bs' → StandsAt (take_turn (place t ns bs) l) u ns' bs'
  unfolding take_asked parse_game_line
  unasked_at e d f x g u ns' bs' s =
      turn_at None e u ns' bs' (subst (λ (y : Option ℕ). StandsAt (take_unasked y (place t ns bs) l) u ns' bs') (sym g ∙ f) s)

  -- a game's line, an event's, and one after a game's
  pub game_at : t.asked ≡ None → (d : Option ℕ) → d ≡ parse_header_line game_key l → (n : ℕ) → d ≡ Some n → (u : Standing)
      → u ≡ standing t.session 0 (Some n) → StandsAt (take_turn (place t ns bs) l) u ns bs
  unfolding take_unasked
  game_at e d f n g u w = unasked_at e d f (Some n) g u ns bs (record { next = w; nodes = refl; buckets = refl })

  pub no_game_at : t.asked ≡ None → (d : Option ℕ) → d ≡ parse_header_line game_key l → d ≡ None → (u : Standing) (ns' bs' : List ℕ)
      → StandsAt (take_event (place t ns bs) l) u ns' bs' → StandsAt (take_turn (place t ns bs) l) u ns' bs'
  unfolding take_unasked
  no_game_at e d f g u ns' bs' s = unasked_at e d f None g u ns' bs' s

  pub after_game_at : (n : ℕ) → t.asked ≡ Some n → (u : Standing) → u ≡ refused_with 10 t → StandsAt (take_turn (place t ns bs) l) u ns bs
  unfolding take_asked
  after_game_at n e u w = turn_at (Some n) e u ns bs (record { next = w; nodes = refl; buckets = refl })

-- ---- a line where a header line is due, by the stage that it reaches

abbrev opened_at : Reached → ℕ → Place
opened_at e r = place (standing (session Events e.header e.state) r None) e.nodes e.buckets

module _ (t : Standing) (l : InputLine) where
  unfoldable pub staged : Stage → Reached → Place
  staged (NextDue due) e = place (standing (session (Due due) e.header e.state) 0 None) e.nodes e.buckets
  staged OpenedBy e = opened_at e 0
  staged OpenedBefore e = take_turn (opened_at e 0) l
  staged (OpeningRefused n) e = opened_at e n
  staged Incomplete e = place (refused_with 10 t) e.nodes e.buckets

  module _ (ns bs : List ℕ) where
    module _ (g : Stage) (h : Header) where
      abbrev left : Reached
      left = opened_stage g h (part_opening h ns bs)

      abbrev why : ℕ
      why = (part_opening h ns bs).refusal

      opens : opened h ns bs ≡ (if eqb why 0 then opened_at left 0 else opened_at left why)
      unfolding opened with_machine opened_stage part_opening
      opens = go (eqb why 0) refl
        where
          go : (a : Bool) → eqb why 0 ≡ a → opened_at left why ≡ (if a then opened_at left 0 else opened_at left why)
          go true q = ap (opened_at left) (eqb-true why 0 q)
          go false q = refl

      turns : (a : Bool) → eqb why 0 ≡ a
          → if_opened (if a then opened_at left 0 else opened_at left why) l ≡ (if a then take_turn (opened_at left 0) l else opened_at left why)
      unfolding if_opened
      turns true q = refl
      turns false q = rw q refl

    abbrev stage_of : HeaderStep → Reached
    stage_of a = header_stage a t.session.header t.session.state ns bs

    by_stage : (a : HeaderStep) → header_taken a (place t ns bs) l ≡ staged (stage_of a).stage (stage_of a)
    unfolding header_taken staged header_stage
    by_stage (Next due h) = refl
    by_stage (Complete h) = opens OpenedBy h ∙ sym (stage_opened staged OpenedBy h (part_opening h ns bs))
    by_stage (Absent h) =
        ap (λ (p : Place). if_opened p l) (opens OpenedBefore h) ∙ turns OpenedBefore h (eqb (why OpenedBefore h) 0) refl
        ∙ sym (stage_opened staged OpenedBefore h (part_opening h ns bs))
    by_stage Missing = refl

    pub header_at : (a : HeaderStep) {e : Reached} {g : Stage} {u : Standing} {n' b' : List ℕ} → e ≡ stage_of a → e.stage ≡ g
        → StandsAt (staged g e) u n' b' → StandsAt (header_taken a (place t ns bs) l) u n' b'
    header_at a {u = u} {n' = n'} {b' = b'} e q s =
        subst (λ (p : Place). StandsAt p u n' b') (sym (by_stage a)) (at_stage (λ p. StandsAt p u n' b') staged e q s)

-- ---- any line

module _ (t : Standing) (ns bs : List ℕ) (l : InputLine) where
  pub refused_at : (t.refused ≡ 0 → ⊥) → StandsAt (on_line (place t ns bs) l) t ns bs
  unfolding on_line
  refused_at r = rw (ne_eqb t.refused 0 r) (record { next = refl; nodes = refl; buckets = refl })

  pub phase_at : t.refused ≡ 0 → (q : Phase) → t.session.phase ≡ q → (u : Standing) (ns' bs' : List ℕ)
      → StandsAt (phase_taken q (place t ns bs) l) u ns' bs' → StandsAt (on_line (place t ns bs) l) u ns' bs'
  unfolding on_line
  phase_at z q e u ns' bs' s =
      rw (eq-eqb t.refused 0 z) (subst (λ (x : Phase). StandsAt (phase_taken x (place t ns bs) l) u ns' bs') (sym e) s)

-- ---- the end

-- a game is asked for, or none
module _ (a : Option ℕ) (t : Standing) (ns bs : List ℕ) where
  pub played_to : (n : ℕ) → a ≡ Some n → (count : ℕ) (ns' bs' before after : List ℕ)
      → (buffer after count ≡ append (verdict_line (verdict n (session_machine t.session ns bs))) (buffer before 0)) × (ns' ≡ ns) × (bs' ≡ bs)
      → EndsAt (ends_as a (place t ns bs)) count ns' bs' before after
  unfolding ends_as end_line
  played_to n e count ns' bs' before after w =
      subst (λ (x : Option ℕ). EndsAt (ends_as x (place t ns bs)) count ns' bs' before after) (sym e)
      (record { nodes = w.1; buckets = w.2; wrote = w.0 })

  pub refused_to : a ≡ None → (why : ℕ) → why ≡ end_refusal (place t ns bs) → (count : ℕ) (before after : List ℕ)
      → buffer after count ≡ append (refusal_line why) (buffer before 0) → EndsAt (ends_as a (place t ns bs)) count ns bs before after
  unfolding ends_as end_line
  refused_to e n f count before after w =
      subst (λ (x : Option ℕ). EndsAt (ends_as x (place t ns bs)) count ns bs before after) (sym e)
      (record { nodes = refl; buckets = refl; wrote = w ∙ ap (λ (r : ℕ). append (refusal_line r) (buffer before 0)) f })

-- the refusal, by where the session stands
module _ (t : Standing) (ns bs : List ℕ) where
  pub refused_before : (t.refused ≡ 0 → ⊥) → t.refused ≡ end_refusal (place t ns bs)
  unfolding end_refusal
  refused_before r = rw (ne_eqb t.refused 0 r)

  pub refused_in : t.refused ≡ 0 → (q : Phase) → t.session.phase ≡ q → (why : ℕ) → why ≡ phase_refusal q (place t ns bs)
      → why ≡ end_refusal (place t ns bs)
  unfolding end_refusal
  refused_in z q e why w = rw (eq-eqb t.refused 0 z) (w ∙ ap (λ (x : Phase). phase_refusal x (place t ns bs)) (sym e))

-- the opening is judged: it is refused, or accepted
module _ (why o : ℕ) (e : why ≡ o) where
  pub judged_refused : (why ≡ 0 → ⊥) → why ≡ judged o
  unfolding judged
  judged_refused r = rw (sym e, ne_eqb why 0 r)

  pub judged_accepted : why ≡ 0 → 10 ≡ judged o
  unfolding judged
  judged_accepted z = rw (sym e, eq-eqb why 0 z)

-- the game over the session's part of the pools, which is put back as it was
module _ (s : Session) (n : ℕ) (ns bs : List ℕ) (a b : ℕ) (ea : a ≡ node_extent s.header ns) (eb : b ≡ bucket_extent s.header bs) where
  pub part_played : (v : Verdict) (n' b' : List ℕ)
      → (v ≡ verdict n (machine_of s.state (take a ns) (take b bs))) × (n' ≡ take a ns) × (b' ≡ take b bs)
      → (count : ℕ) (before after : List ℕ) → buffer after count ≡ append (verdict_line v) (buffer before 0)
      → (buffer after count ≡ append (verdict_line (verdict n (session_machine s ns bs))) (buffer before 0)) × (n' ++ drop a ns ≡ ns) × (b' ++ drop b bs ≡ bs)
  part_played v n' b' g count before after w =
      let same = ap (λ (k : ℕ). machine_of s.state (take k ns) (take b bs)) ea
      ∙ ap (λ (k : ℕ). machine_of s.state (take (node_extent s.header ns) ns) (take k bs)) eb in (
        w ∙ ap (λ (x : Verdict). append (verdict_line x) (buffer before 0)) (g.0 ∙ ap (λ (y : Machine). verdict n y) same),
        ap (λ (l : List ℕ). l ++ drop a ns) g.1 ∙ take-append-drop a ns,
        ap (λ (l : List ℕ). l ++ drop b bs) g.2 ∙ take-append-drop b bs,
      )
