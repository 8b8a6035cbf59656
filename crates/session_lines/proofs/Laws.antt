-- Laws that the proofs of the functions cite, over plain lists and numbers: a start or a step over the session's part of the pools,
-- the final listing over it, and what is done after an opening. Assumes nothing.
use Rattle.std.specs.Prelude.{if◌then◌else◌, Option, Some, None, Ok, Err}
use mathlib.Core.Path.{◌≡◌, refl, sym, ap, subst, ◌∙◌}
use mathlib.Core.List.{List, ◌++◌}
use mathlib.Core.Bool.{Bool, true, false, not, ◌||◌}
use lib.Dec.{ltb, leb, eqb}
use Prim.Native.Nat.{ℕ, ◌+◌, ◌-◌, ◌≤◌}
use native.Mathlib.Omega.{arith}
use borrow.Author.Tests.{eq-eqb, ne_eqb, ltb-false}
use lib.ListN.{length, take, drop}
use lib.Seq.{take_at}
use Rattle.spec.specs.declared.Refusal.TheVariants.{Spoilt, ShortList}
use Rattle.spec.specs.declared.Refusal.{Refusal}
use Rattle.spec.specs.Numbers.{refusal_number}
use Rattle.laws.specs.RefusalNumbers.{never_0}
use Rattle.spec.specs.Outputs.{Output, Listing}
use Rattle.spec.specs.Machine.{Machine, machine_of}
use Rattle.spec.specs.Words.{size}
use Rattle.spec.specs.Listed.{listed, head_of, size_of}
use Rattle.spec.specs.Sound.{sound}
use Rattle.spec.specs.Entries as entries
use Rattle.spec.specs.Entries.{list}
use Rattle.lines.specs.declared.Stepped.{Stepped}
use Rattle.session.specs.declared.EventLine.{EventLine}
use Rattle.session.specs.declared.Header.{Header}
use Rattle.session.specs.declared.HeaderLine.{HeaderLine}
use Rattle.session.specs.declared.HeaderStep.{HeaderStep}
use Rattle.session.specs.declared.HeaderStep.TheVariants.{Next, Complete, Absent, Missing}
use Rattle.session.specs.Grammar.{InputLine}
use Rattle.session.specs.Print.{refusal_line, output_line, listing_lines}
use Rattle.session.specs.Transcript.{final_listing}
use Rattle.session.specs.Buffer.{Buffer, buffer, append}
use Rattle.session_pools.specs.PoolParts.{node_extent, bucket_extent, node_part}
use Rattle.session_state.specs.declared.Phase.{Phase}
use Rattle.session_state.specs.declared.Phase.TheVariants.{Due, Events}
use Rattle.session_state.specs.declared.Session.{Session}
use Rattle.session_state.specs.declared.Handled.{Handled}
use Rattle.session_state.specs.Handling.{session, handled, LineEffect, LineHandled, pools_kept, stopped, silent, session_machine, with_machine}
use Rattle.session_state.specs.Handling.{opened_then, open_then, event_effect, header_effect, reply_effect, phase_effect, line_effect, phase_end, end_effect}
use Rattle.session_state.proofs.Laws.{nothing_appended, same_machine}
use Rattle.opening.specs.declared.Opened.{Opened as OpenedState}
use Rattle.session_machine.specs.declared.Stage.{Stage}
use Rattle.session_machine.specs.declared.Stage.TheVariants.{NextDue, OpenedBy, OpenedBefore, OpeningRefused, Incomplete}
use Rattle.session_machine.specs.Parts.{Replied}
use Rattle.session_machine.specs.Stages.{part_opening, opened_of, Reached, opened_stage, header_stage, stage_opened, at_stage}

-- ---- a start or a step of task k over the session's part of the pools, and its printed line

pub replies : (s : Session) (ns bs : List ℕ) (k : ℕ) (y : entries.Reply) (r : Stepped) (n' b' : List ℕ) (count : ℕ) (before after : List ℕ)
    → Replied y r s.header ns bs n' b' → buffer after count ≡ append (output_line k r.out) (buffer before 0)
    → LineHandled (reply_effect k y s ns bs) (handled (session Events s.header r.state) count) n' b' before after
unfolding reply_effect with_machine
replies s ns bs k y r n' b' count before after p t =
    record {
      next = ap (session Events s.header) p.state;
      nodes = p.nodes;
      buckets = p.buckets;
      wrote = t ∙ ap (λ (o : Output). append (output_line k o) (buffer before 0)) p.out;
    }

-- ---- the final listing

count_of : (a n : ℕ) → ◌≡◌ {A = Listing} (Ok a) (Ok n) → a ≡ n
count_of a n e = cc

-- where a list gives a count, it is at most 64, and that many of the words are the tags
pub record Lists (y : Machine) (w : List ℕ) (n : ℕ) : Type 0 where
  pub few : n ≤ 64
  pub tags : take n (list y w).words ≡ listed y

pub lists : (y : Machine) (w : List ℕ) (n : ℕ) → (list y w).says ≡ Ok n → Lists y w n
unfolding list
lists y w n h = let r = go (not (sound y)) (ltb 64 (length (listed y))) (not (leb 64 (length w))) refl h in record { few = r.0; tags = r.1 }
  where
    refused : Refusal → entries.Written
    refused r = record { says = Err r; words = w }

    given : entries.Written
    given = record { says = Ok (length (listed y)); words = listed y ++ drop (length (listed y)) w }

    go : (a b c : Bool) → ltb 64 (length (listed y)) ≡ b → (if a || b then refused Spoilt else if c then refused ShortList else given).says ≡ Ok n
        → (n ≤ 64) × (take n (if a || b then refused Spoilt else if c then refused ShortList else given).words ≡ listed y)
    go true b c p e = let z : ◌≡◌ {A = ℕ} 0 1 = cc in absurd (omega arith)
    go false true c p e = let z : ◌≡◌ {A = ℕ} 0 1 = cc in absurd (omega arith)
    go false false true p e = let z : ◌≡◌ {A = ℕ} 0 1 = cc in absurd (omega arith)
    go false false false p e =
        let k : length (listed y) ≡ n = count_of _ _ e in
        let l : length (listed y) ≤ 64 = ltb-false _ _ p in
        (omega arith, take_at (listed y) _ n k)

pub few_listed : (y : Machine) (w : List ℕ) (n : ℕ) (r : Listing) → r ≡ (list y w).says → r ≡ Ok n → n ≤ 64
few_listed y w n r h e = (lists y w n (sym h ∙ e)).few

module _ (s : Session) (ns bs : List ℕ) (a b : ℕ) (ea : a ≡ node_extent s.header ns) (eb : b ≡ bucket_extent s.header bs)
    (r : Listing) (w w' : List ℕ)
    (hr : r ≡ (list (machine_of s.state (take a ns) (take b bs)) w).says)
    (hw : w' ≡ (list (machine_of s.state (take a ns) (take b bs)) w).words) where
  says_is : r ≡ (list (session_machine s ns bs) w).says
  says_is = hr ∙ ap (λ (y : Machine). (list y w).says) (same_machine s.header ns bs a b ea eb s.state)

  words_is : w' ≡ (list (session_machine s ns bs) w).words
  words_is = hw ∙ ap (λ (y : Machine). (list y w).words) (same_machine s.header ns bs a b ea eb s.state)

  pub lists_count : (n z : ℕ) (t u : Buffer) → r ≡ Ok n → z ≡ size (take a ns) s.state.head
      → u ≡ append (listing_lines z (take n w')) t → u ≡ append (final_listing (session_machine s ns bs) (list (session_machine s ns bs) w).says) t
  unfolding final_listing size_of head_of
  lists_count n z t u e f p =
      let y = session_machine s ns bs in
      let q : (list y w).says ≡ Ok n = sym says_is ∙ e in
      let v : take n w' ≡ listed y = ap (take n) words_is ∙ (lists y w n q).tags in
      let k : s.state.head ≡ s.state.head + 1 - 1 = omega arith in
      let part = node_part s.header ns in
      let at_head = size part (s.state.head + 1 - 1) in
      let g : z ≡ at_head = f ∙ ap (λ (x : ℕ). size (take x ns) s.state.head) ea ∙ ap (size part) k in
      rw q (p ∙ ap (λ (x : ℕ). append (listing_lines x (take n w')) t) g ∙ ap (λ (l : List ℕ). append (listing_lines at_head l) t) v)

  pub lists_refused : (why : Refusal) (t u : Buffer) → r ≡ Err why → u ≡ append (refusal_line (refusal_number why)) t
      → u ≡ append (final_listing (session_machine s ns bs) (list (session_machine s ns bs) w).says) t
  unfolding final_listing
  lists_refused why t u e p =
      let q : (list (session_machine s ns bs) w).says ≡ Err why = sym says_is ∙ e in
      rw q p

-- ---- a line, and the end of the input, by where the session stands

module _ (s : Session) (p : Phase) (e : s.phase ≡ p) (ns bs : List ℕ) (r : Handled) (n' b' before after : List ℕ) where
  pub handles : (l : InputLine) → LineHandled (phase_effect p s ns bs l) r n' b' before after
      → LineHandled (line_effect s ns bs l) r n' b' before after
  unfolding line_effect
  handles l h = subst (λ (q : Phase). LineHandled (phase_effect q s ns bs l) r n' b' before after) (sym e) h

  pub ends : LineHandled (phase_end p s ns bs) r n' b' before after → LineHandled (end_effect s ns bs) r n' b' before after
  unfolding end_effect
  ends h = subst (λ (q : Phase). LineHandled (phase_end q s ns bs) r n' b' before after) (sym e) h

-- nothing is done once the session has stopped
pub does_nothing : (s : Session) (ns bs before : List ℕ) → LineHandled (silent s ns bs) (handled s 0) ns bs before before
unfolding pools_kept silent
does_nothing s ns bs before = record { next = refl; nodes = refl; buckets = refl; wrote = nothing_appended (buffer before 0) }

-- ---- an opening, and what is done next where it is accepted

module _ (h : Header) (ns bs : List ℕ) (o : OpenedState) (n' b' : List ℕ) (e : opened_of o n' b' ≡ part_opening h ns bs)
    (next : Session → List ℕ → List ℕ → LineEffect) (r : Handled) (n'' b'' before after : List ℕ) where
  abbrev opened_session : entries.Opened → Session
  opened_session p = session Events h p.machine.state

  abbrev from : entries.Opened → LineEffect
  from p =
      if eqb p.refusal 0 then next (opened_session p) p.machine.nodes p.machine.buckets
      else pools_kept (stopped (opened_session p) p.refusal) p.machine.nodes p.machine.buckets

  opened_so : LineHandled (from (opened_of o n' b')) r n'' b'' before after → LineHandled (open_then h ns bs next) r n'' b'' before after
  unfolding open_then opened_then with_machine pools_kept stopped part_opening
  opened_so l = subst (λ (p : entries.Opened). LineHandled (from p) r n'' b'' before after) e l

  pub opens_then : o.refusal ≡ None → LineHandled (next (session Events h o.state) n' b') r n'' b'' before after
      → LineHandled (open_then h ns bs next) r n'' b'' before after
  opens_then z l = opened_so (rw z l)

  pub refuses_then : (why : Refusal) → o.refusal ≡ Some why → LineHandled (pools_kept (stopped (session Events h o.state) (refusal_number why)) n' b') r n'' b'' before after
      → LineHandled (open_then h ns bs next) r n'' b'' before after
  refuses_then why z l = opened_so (rw (z, ne_eqb (refusal_number why) 0 (never_0 why)) l)

-- ---- a line where a header line is due, by the stage that it reaches: `own` is done after the header's last line, `other` after an opening without the line

module _ (own other : Session → List ℕ → List ℕ → LineEffect) where
  unfoldable pub staged : Stage → Reached → LineEffect
  staged (NextDue due) t = silent (session (Due due) t.header t.state) t.nodes t.buckets
  staged OpenedBy t = own (session Events t.header t.state) t.nodes t.buckets
  staged OpenedBefore t = other (session Events t.header t.state) t.nodes t.buckets
  staged (OpeningRefused n) t = pools_kept (stopped (session Events t.header t.state) n) t.nodes t.buckets
  staged Incomplete t = pools_kept (stopped (session Events t.header t.state) 10) t.nodes t.buckets

  module _ (s : Session) (ns bs : List ℕ) (F : HeaderStep → LineEffect) where
    -- what is done by what the line says
    pub record BySaid : Type 0 where
      pub next : (due : HeaderLine) (h : Header) → F (Next due h) ≡ silent (session (Due due) h s.state) ns bs
      pub complete : (h : Header) → F (Complete h) ≡ open_then h ns bs own
      pub absent : (h : Header) → F (Absent h) ≡ open_then h ns bs other
      pub missing : F Missing ≡ pools_kept (stopped s 10) ns bs

    abbrev stage_of : HeaderStep → Reached
    stage_of a = header_stage a s.header s.state ns bs

    by_stage : BySaid → (a : HeaderStep) → F a ≡ staged (stage_of a).stage (stage_of a)
    unfolding staged header_stage opened_stage part_opening open_then opened_then with_machine pools_kept stopped
    by_stage f (Next due h) = f.next due h
    by_stage f (Complete h) = f.complete h ∙ sym (stage_opened staged OpenedBy h (part_opening h ns bs))
    by_stage f (Absent h) = f.absent h ∙ sym (stage_opened staged OpenedBefore h (part_opening h ns bs))
    by_stage f Missing = f.missing

    pub header_handled : BySaid → (a : HeaderStep) {t : Reached} {g : Stage} {r : Handled} {n' b' before after : List ℕ} → t ≡ stage_of a → t.stage ≡ g
        → LineHandled (staged g t) r n' b' before after → LineHandled (F a) r n' b' before after
    header_handled f a {r = r} {n' = n'} {b' = b'} {before = before} {after = after} e q l =
        subst (λ (d : LineEffect). LineHandled d r n' b' before after) (sym (by_stage f a))
        (at_stage (λ d. LineHandled d r n' b' before after) staged e q l)

pub header_said : (x : Option EventLine) (s : Session) (ns bs : List ℕ) → BySaid silent (event_effect x) s ns bs (λ a. header_effect a x s ns bs)
unfolding header_effect silent
header_said x s ns bs = record { next = λ due h. refl; complete = λ h. refl; absent = λ h. refl; missing = refl }
