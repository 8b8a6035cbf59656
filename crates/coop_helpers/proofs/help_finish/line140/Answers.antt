-- Refused through an empty place; by whether the bucket still has o; refused for want of room or of a version; else a version is taken.
use Rattle.std.proofs.Common.{◌≡◌, ◌≤◌, ◌∙◌, ℕ, List, [], ◌∷◌, sym, ap, arith, eq-eqb, ne_eqb}
use Rattle.spec.specs.Words.{number, tags}
use Rattle.coop_spec.specs.declared.Operation.{Operation}
use Rattle.coop_spec.specs.declared.Task.{Task}
use Rattle.coop_spec.specs.Machine.{Machine, machine_of, operation_of}
use Rattle.coop_spec.specs.Words.{tags_of, applied, install}
use Rattle.coop_spec.specs.Held.{free_version}
use Rattle.coop_spec.specs.Lines.{helped_op, old_set, returns as returning}
use Rattle.coop_spec.specs.Entries.{accept}
use Rattle.coop_laws.specs.Taken.{taken_number}
use Rattle.coop_pool.specs.Versions.{has_room, made}
use Rattle.coop_lines.proofs.Laws.{empty_140, passed_140, full_140, held_140, taken_140, above}
use Rattle.coop_helpers.proofs.Installing.{no_room, room, made_words, installed_first}
use Rattle.coop_helpers.proofs.help_finish.line140.Goals as goal

-- what is asked of the operation and of o's set is asked of the helped operation and of the old set
asks : {A : Type 0} (f : Operation → List ℕ → A) (y : Machine) (t : Task) (q : Operation) (j n : ℕ) → j ≡ number t.o → n ≡ number t.helped
    → q ≡ operation_of y n → f q (tags y.versions j) ≡ f (helped_op y t) (old_set y t)
unfolding tags_of
asks f y t q j n e d g = ap (λ (i : ℕ). f q (tags y.versions i)) e ∙ ap (λ (x : Operation). f x (old_set y t)) (g ∙ ap (operation_of y) d)

pub returns-then-not-both_filled : goal.returns-then-not-both_filled
returns-then-not-both_filled c =
    let a = c.args in
    let vs = a.vs.now in
    c.refused.ensures vs ∙ sym (empty_140 (machine_of a.s vs) a.k a.c c.requires.0 (sym c.if-not-both_filled.ensures))

pub returns-then-s-j : goal.returns-then-s-j
returns-then-s-j c =
    let a = c.args in
    let y = machine_of a.s a.vs.now in
    let passed = ne_eqb _ _ (λ e. c.if-s-j.true (e ∙ sym c.number_of-j.ensures)) in
    c.return_to.ensures y.versions ∙ sym (passed_140 y a.k a.c c.requires.0 (sym c.if-not-both_filled.ensures) passed)

pub has_room-requires : goal.has_room-requires
has_room-requires c = rw c.number_of-j.ensures (c.requires.1.o_tagged (above c.args.c.o _ (sym c.if-not-both_filled.ensures)))

pub made_of-version-requires : goal.made_of-version-requires
made_of-version-requires c = rw c.number_of-j.ensures (c.requires.1.o_tagged (above c.args.c.o _ (sym c.if-not-both_filled.ensures)))

pub returns-then-not-has_room : goal.returns-then-not-has_room
returns-then-not-has_room c =
    let a = c.args in
    let y = machine_of a.s a.vs.now in
    let both = sym c.if-not-both_filled.ensures in
    let has_o = eq-eqb _ _ (c.if-s-j.false ∙ c.number_of-j.ensures) in
    let same = asks has_room y a.c _ _ _ c.number_of-j.ensures c.number_of-n.ensures (c.operation-op.ensures y.versions) in
    let full = no_room (helped_op y a.c) (old_set y a.c) (c.if-not-has_room.ensures ∙ same) in
    c.refused-then-not-has_room.ensures y.versions ∙ sym (full_140 y a.k a.c c.requires.0 both has_o full)

pub returns-in_default : goal.returns-in_default
returns-in_default c =
    let a = c.args in
    let y = machine_of a.s a.vs.now in
    let both = sym c.if-not-both_filled.ensures in
    let has_o = eq-eqb _ _ (c.if-s-j.false ∙ c.number_of-j.ensures) in
    let same = asks has_room y a.c _ _ _ c.number_of-j.ensures c.number_of-n.ensures (c.operation-op.ensures y.versions) in
    let fits = room (helped_op y a.c) (old_set y a.c) (c.if-not-has_room.ensures ∙ same) in
    let held : 1 ≤ free_version y → ⊥ = c.in_default.ensures y.versions in
    let none : free_version y ≡ 0 = omega (arith, held) in
    c.refused-in_default.ensures y.versions ∙ sym (held_140 y a.k a.c c.requires.0 both has_o fits none)

pub install-t-requires : goal.install-t-requires
install-t-requires c =
    let y = machine_of c.args.s c.args.vs.now in
    let ready = c.requires.1 in
    let last = ready.last_in in
    let link = c.in-Some.ensures y.versions in
    let some = link.0 in
    let free = link.1 in
    let taken = (taken_number y (omega arith) last (λ e. let h : free_version y ≡ 0 = e in omega arith)).0 in
    let long = ready.pool_length in
    omega (arith, taken, long)

pub returns : goal.returns
returns c =
    let a = c.args in
    let y = machine_of a.s a.vs.now in
    let both = sym c.if-not-both_filled.ensures in
    let has_o = eq-eqb _ _ (c.if-s-j.false ∙ c.number_of-j.ensures) in
    let same = asks has_room y a.c _ _ _ c.number_of-j.ensures c.number_of-n.ensures (c.operation-op.ensures y.versions) in
    let fits = room (helped_op y a.c) (old_set y a.c) (c.if-not-has_room.ensures ∙ same) in
    let version = asks made y a.c _ _ _ c.number_of-j.ensures c.number_of-n.ensures (c.operation-op.ensures y.versions) in
    let words = made_words (helped_op y a.c) (old_set y a.c) fits _ (c.made_of-version.ensures ∙ version) in
    let ts = applied (helped_op y a.c) (old_set y a.c) in
    let link = c.in-Some.ensures y.versions in
    let some : free_version y ≡ 0 → ⊥ = λ e. let l : 1 ≤ free_version y = link.0 in omega arith in
    c.return_to-2.ensures _ ∙ ap (λ (z : Machine). accept z a.k a.c.own (returning a.c [])) (c.install-t.ensures ts words)
    ∙ installed_first y a.k a.c _ ts
    ∙ ap (λ (l : ℕ). accept y a.k a.c.own (returning a.c (install l ts ∷ []))) link.1
    ∙ sym (taken_140 y a.k a.c c.requires.0 both has_o fits some)
