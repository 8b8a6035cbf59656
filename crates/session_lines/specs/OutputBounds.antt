-- How many bytes a session can print: at most `longest_line` for each line of its input (`line_bound`) and `longest_end` at its end (`end_bound`), so a
-- caller can lend room for all of it. Assumes nothing.
use Rattle.std.specs.Prelude.{◌≡◌, refl, List, ◌++◌, Bool, true, false, not, ◌||◌, ℕ, ◌≤◌, ltb, leb, length, drop, replicate, if◌then◌else◌, Option, Some, None}
use Rattle.std.proofs.Common.{arith, ltb-false}
use Rattle.std.specs.Prelude.{Ok, Err}
use Rattle.spec.specs.declared.Refusal.TheVariants.{Spoilt, ShortList}
use Rattle.spec.specs.Machine.{Machine}
use Rattle.spec.specs.Sound.{sound}
use Rattle.spec.specs.Listed.{listed, size_of, head_of}
use Rattle.spec.specs.Entries.{Written, opening, list}
use Rattle.session.specs.declared.EventLine.{EventLine}
use Rattle.session.specs.declared.EventLine.TheVariants.{Start, Step}
use Rattle.session.specs.declared.Header.{Header}
use Rattle.session.specs.declared.HeaderStep.{HeaderStep}
use Rattle.session.specs.declared.HeaderStep.TheVariants.{Next, Complete, Absent, Missing}
use Rattle.session.specs.Header.{optional}
use Rattle.session.specs.Grammar.{InputLine}
use Rattle.session.specs.Transcript.{final_listing}
use Rattle.session.specs.OutputLengths.{longest_line, longest_end, refusal_length, output_length, listing_length}
use Rattle.session_pools.specs.PoolParts.{node_part, bucket_part}
use Rattle.session_state.specs.declared.Phase.{Phase}
use Rattle.session_state.specs.declared.Phase.TheVariants.{Due, Events, Stopped}
use Rattle.session_state.specs.declared.Session.{Session}
use Rattle.session_state.specs.Handling.{LineEffect, session_machine, pools_kept, stopped, with_machine, silent, open_then, reply_effect}
use Rattle.session_state.specs.Handling.{event_effect, listing_effect, header_effect, phase_effect, line_effect, phase_end, end_effect}
use Rattle.session_lines.specs.LinesOutside.{opened_either}

-- ---- a line

-- the opening, and what is done next
open_bound : (most : ℕ) → 28 ≤ most → (next : Session → List ℕ → List ℕ → LineEffect)
    → ((s : Session) (ns bs : List ℕ) → length (next s ns bs).prints ≤ most) → (h : Header) (ns bs : List ℕ)
    → length (open_then h ns bs next).prints ≤ most
unfolding open_then with_machine
open_bound most room next each h ns bs =
    let o = opening h.config (node_part h ns) (bucket_part h bs) in
    opened_either (λ d. length d.prints ≤ most) o h ns bs next each (omega (arith, refusal_length o.refusal))

silent_bound : (s : Session) (ns bs : List ℕ) → length (silent s ns bs).prints ≤ longest_line
unfolding silent pools_kept
silent_bound s ns bs = omega arith

event_bound : (x : Option EventLine) (s : Session) (ns bs : List ℕ) → length (event_effect x s ns bs).prints ≤ longest_line
unfolding event_effect reply_effect with_machine pools_kept stopped
event_bound (Some (Start k call tag)) s ns bs = output_length k _
event_bound (Some (Step k)) s ns bs = output_length k _
event_bound None s ns bs = omega (arith, refusal_length 10)

header_bound : (a : HeaderStep) (x : Option EventLine) (s : Session) (ns bs : List ℕ) → length (header_effect a x s ns bs).prints ≤ longest_line
unfolding header_effect pools_kept stopped
header_bound (Next due h) x s ns bs = omega arith
header_bound (Complete h) x s ns bs = open_bound longest_line (omega arith) silent silent_bound h ns bs
header_bound (Absent h) x s ns bs = open_bound longest_line (omega arith) (event_effect x) (event_bound x) h ns bs
header_bound Missing x s ns bs = omega (arith, refusal_length 10)

pub line_bound : (s : Session) (ns bs : List ℕ) (l : InputLine) → length (line_effect s ns bs l).prints ≤ longest_line
unfolding line_effect phase_effect
line_bound s ns bs l = go s.phase
  where
    go : (p : Phase) → length (phase_effect p s ns bs l).prints ≤ longest_line
    go (Due due) = header_bound _ _ s ns bs
    go Events = event_bound _ s ns bs
    go Stopped = silent_bound s ns bs

-- ---- the end of the input

-- where a list gives a count, at most 64 tags are listed
listing_bound : (y : Machine) (w : List ℕ) → length (final_listing y (list y w).says) ≤ longest_end
unfolding final_listing list
listing_bound y w = go (not (sound y)) (ltb 64 (length (listed y))) (not (leb 64 (length w))) refl
  where
    pick : Bool → Bool → Bool → Written
    pick a b c =
        if a || b then record { says = Err Spoilt; words = w }
        else if c then record { says = Err ShortList; words = w }
        else record { says = Ok (length (listed y)); words = listed y ++ drop (length (listed y)) w }

    go : (a b c : Bool) → ltb 64 (length (listed y)) ≡ b → length (final_listing y (pick a b c).says) ≤ longest_end
    go true b c e = omega (arith, refusal_length 8)
    go false true c e = omega (arith, refusal_length 8)
    go false false true e = omega (arith, refusal_length 9)
    go false false false e = listing_length (size_of y (head_of y)) (listed y) (ltb-false _ _ e)

listing_effect_bound : (s : Session) (ns bs : List ℕ) → length (listing_effect s ns bs).prints ≤ longest_end
unfolding listing_effect pools_kept
listing_effect_bound s ns bs = listing_bound (session_machine s ns bs) (replicate 64 0)

pub end_bound : (s : Session) (ns bs : List ℕ) → length (end_effect s ns bs).prints ≤ longest_end
unfolding end_effect phase_end pools_kept stopped
end_bound s ns bs = go s.phase
  where
    due_end : (a : Bool) → length (if a then open_then s.header ns bs listing_effect else pools_kept (stopped s 10) ns bs).prints ≤ longest_end
    due_end true = open_bound longest_end (omega arith) listing_effect listing_effect_bound s.header ns bs
    due_end false = omega (arith, refusal_length 10)

    go : (p : Phase) → length (phase_end p s ns bs).prints ≤ longest_end
    go (Due due) = due_end (optional due)
    go Events = listing_effect_bound s ns bs
    go Stopped = omega (arith, silent_bound s ns bs)
