-- An opening, a start or a step over the part of the pools, put back into the whole of them. Assumes nothing.
use Rattle.std.specs.Prelude.{Some, None}
use Prim.Native.Nat.{ℕ, ◌≤◌}
use mathlib.Core.Path.{◌≡◌, refl, sym, ap, subst, ◌∙◌}
use mathlib.Core.List.{List, ◌++◌}
use borrow.Author.Tests.{ne_eqb}
use lib.ListN.{length, take, drop, take-append-drop}
use lib.Seq.{length-take-le}
use Rattle.spec.specs.declared.Refusal.{Refusal}
use Rattle.spec.specs.declared.State.{State}
use Rattle.spec.specs.Numbers.{refusal_number, opening_number}
use Rattle.spec.specs.Machine.{machine_of}
use Rattle.spec.specs.Entries.{Opened, opening, Reply}
use Rattle.laws.specs.RefusalNumbers.{never_0}
use Rattle.opening.specs.declared.Opened.{Opened as OpenedState}
use Rattle.opening.specs.Opening.{refusal_of, opening_refusal}
use Rattle.lines.specs.declared.Stepped.{Stepped}
use Rattle.lines.specs.Reply.{reply_of}
use Rattle.session.specs.declared.Header.{Header}
use Rattle.session_pools.specs.PoolParts.{node_extent, bucket_extent, node_part, bucket_part}
use Rattle.session_machine.specs.declared.Stage.{Stage}
use Rattle.session_machine.specs.declared.Stage.TheVariants.{OpeningRefused}
use Rattle.session_machine.specs.Parts.{part_machine, Replied}
use Rattle.session_machine.specs.Stages.{part_opening, opened_of, Reached, opened_stage}

module _ (h : Header) (ns bs : List ℕ) where
  -- no word was written
  pub unwritten : (y : Reply) (r : Stepped) → reply_of r (node_part h ns) (bucket_part h bs) ≡ y → Replied y r h ns bs ns bs
  unwritten y r e =
      record {
        out = ap (λ (v : Reply). v.out) e;
        state = ap (λ (v : Reply). v.machine.state) e;
        nodes = sym (take-append-drop (node_extent h ns) ns) ∙ ap (λ (v : Reply). v.machine.nodes ++ drop (node_extent h ns) ns) e;
        buckets = sym (take-append-drop (bucket_extent h bs) bs) ∙ ap (λ (v : Reply). v.machine.buckets ++ drop (bucket_extent h bs) bs) e;
      }

  module _ (a b : ℕ) (ea : a ≡ node_extent h ns) (eb : b ≡ bucket_extent h bs) where
    pub same_part : (m : State) → machine_of m (take a ns) (take b bs) ≡ part_machine m h ns bs
    same_part m = λ i. machine_of m (take (ea i) ns) (take (eb i) bs)

    -- an opening
    whole : Opened → ℕ → ℕ → Opened
    whole o x y =
        let z = o.machine in
        record { refusal = o.refusal; machine = machine_of z.state (z.nodes ++ drop x ns) (z.buckets ++ drop y bs) }

    pub opens : (r : OpenedState) (n' b' : List ℕ) → opening_number r.refusal ≡ (opening h.config (take a ns) (take b bs)).refusal
        → machine_of r.state n' b' ≡ (opening h.config (take a ns) (take b bs)).machine
        → opened_of r (n' ++ drop a ns) (b' ++ drop b bs) ≡ part_opening h ns bs
    unfolding part_opening whole
    opens r n' b' p q =
        (λ i. whole (record { refusal = p i; machine = q i }) a b)
        ∙ (λ i. whole (opening h.config (take (ea i) ns) (take (eb i) bs)) (ea i) (eb i))

    pub judged : a ≤ length ns → b ≤ length bs → {why : ℕ} → why ≡ refusal_of h.config a b
        → why ≡ (opening h.config (node_part h ns) (bucket_part h bs)).refusal
    judged la lb w =
        w ∙ (λ i. refusal_of h.config (sym (length-take-le a ns la) i) (sym (length-take-le b bs lb) i))
        ∙ sym (opening_refusal h.config (take a ns) (take b bs))
        ∙ (λ i. (opening h.config (take (ea i) ns) (take (eb i) bs)).refusal)

    pub put_back : (y : Reply) (r : Stepped) (n' b' : List ℕ) → reply_of r n' b' ≡ y → Replied y r h ns bs (n' ++ drop a ns) (b' ++ drop b bs)
    put_back y r n' b' e =
        record {
          out = ap (λ (v : Reply). v.out) e;
          state = ap (λ (v : Reply). v.machine.state) e;
          nodes = ap (λ (v : Reply). v.machine.nodes ++ drop a ns) e ∙ ap (λ (n : ℕ). y.machine.nodes ++ drop n ns) ea;
          buckets = ap (λ (v : Reply). v.machine.buckets ++ drop b bs) e ∙ ap (λ (n : ℕ). y.machine.buckets ++ drop n bs) eb;
        }

-- the stage after an opening
module _ (g : Stage) (h : Header) (r : OpenedState) (ns bs : List ℕ) (o : Opened) (e : opened_of r ns bs ≡ o) where
  abbrev at : Stage → Reached
  at k = record { stage = k; header = h; state = r.state; nodes = ns; buckets = bs }

  pub accepted : r.refusal ≡ None → at g ≡ opened_stage g h o
  unfolding opened_stage
  accepted z = subst (λ (p : Opened). at g ≡ opened_stage g h p) e (rw z refl)

  pub refused : (why : Refusal) → r.refusal ≡ Some why → at (OpeningRefused (refusal_number why)) ≡ opened_stage g h o
  unfolding opened_stage
  refused why z = subst (λ (p : Opened). at (OpeningRefused (refusal_number why)) ≡ opened_stage g h p) e (rw (z, ne_eqb (refusal_number why) 0 (never_0 why)) refl)
