-- A recording holds what the session prints: its output lines and its listing are the session's transcript, where the opening is accepted
-- and no line gives 10: `records_what_is_printed`. Since both print the outputs of one run. Assumes nothing.
use Rattle.std.specs.Prelude.{◌≡◌, refl, Bool, true, false, ℕ, replicate, if◌then◌else◌, Option, Some, None, Ok, Err}
use Rattle.std.proofs.Math.Path.{sym, ap}
use Rattle.std.proofs.Common.{◌∙◌, eq-eqb}
use mathlib.Core.List.{List, [], ◌∷◌, ◌++◌, map, append_assoc}
use Rattle.spec.specs.Outputs.{Output, Listing}
use Rattle.spec.specs.Lists.{filter, concat_map}
use Rattle.spec.specs.Machine.{Machine}
use Rattle.spec.specs.Listed.{listed}
use Rattle.spec.specs.Entries.{list}
use Rattle.spec.specs.Schedule.{Event, starts, steps, run}
use Rattle.session.specs.declared.EventLine.{EventLine}
use Rattle.session.specs.declared.EventLine.TheVariants.{Start, Step}
use Rattle.session.specs.Keys.{tag_key}
use Rattle.session.specs.Grammar.{InputLine, input_lines, parse_event_line}
use Rattle.session.specs.Print.{key_line, output_line}
use Rattle.session.specs.Transcript.{add_event, events, all_events, task_in, output_lines, end_lines, ran_lines, event_lines, opened_lines, session_opening}
use Rattle.session.specs.Transcript.{header_lines, lines_transcript, transcript}
use Rattle.recording_laws.specs.HeaderLaws.{session_header, as_session}
use Rattle.recording_laws.specs.ListingLines.{listing_bytes}
use Rattle.recording.specs.Recording.{Role, header_role, event_role, output_role, size_role, listing_role, RecordedLine, input_again, bytes_of, event_pairs}
use Rattle.recording.specs.Recording.{tag_listing, listing_of, listing, ran_recording, recorded_events, Recorded, recorded_lines, lines_of}
use Rattle.recording_laws.specs.Theorems.{Shift, shift_lines}

-- an output line or a listing line
unfoldable pub is_printed : Role → Bool
is_printed header_role = false
is_printed event_role = false
is_printed output_role = true
is_printed size_role = true
is_printed listing_role = true

abbrev printed_lines : List RecordedLine → List RecordedLine
printed_lines rs = filter (λ (r : RecordedLine). is_printed r.role) rs

-- the bytes of these lines alone
unfoldable pub printed_of : List RecordedLine → List ℕ
printed_of rs = bytes_of (filter (λ (r : RecordedLine). is_printed r.role) rs)

printed_append : (rs ss : List RecordedLine) → printed_of (rs ++ ss) ≡ printed_of rs ++ printed_of ss
unfolding printed_of bytes_of filter concat_map
printed_append [] ss = refl
printed_append (r ∷ rs) ss = go (is_printed r.role) (printed_append rs ss)
  where
    -- r and then these, or these alone
    taken : Bool → List RecordedLine → List ℕ
    taken b qs = bytes_of (if b then (r ∷ printed_lines qs) else (printed_lines qs))

    go : (b : Bool) → printed_of (rs ++ ss) ≡ printed_of rs ++ printed_of ss → taken b (rs ++ ss) ≡ taken b rs ++ printed_of ss
    go true ih = ap (λ (b : List ℕ). r.written ++ b) ih ∙ sym (append_assoc r.written (printed_of rs) (printed_of ss))
    go false ih = ih

-- ---- each part

header_silent : (ls : List InputLine) → printed_of (map (input_again header_role) ls) ≡ []
unfolding printed_of bytes_of filter concat_map is_printed input_again
header_silent [] = refl
header_silent (l ∷ ls) = header_silent ls

outputs_printed : (ls : List InputLine) (os : List Output) → printed_of (event_pairs ls (events ls) os) ≡ output_lines (events ls) os
unfolding events add_event event_pairs output_lines printed_of bytes_of filter concat_map is_printed input_again
outputs_printed [] os = refl
outputs_printed (l ∷ ls) os = go (outputs_printed ls) (parse_event_line l)
  where
    pair : ((ps : List Output) → printed_of (event_pairs ls (events ls) ps) ≡ output_lines (events ls) ps) → (e : Event) (ps : List Output)
        → printed_of (event_pairs (l ∷ ls) (e ∷ events ls) ps) ≡ output_lines (e ∷ events ls) ps
    pair ih e [] = refl
    pair ih e (o ∷ ps) = ap (λ (b : List ℕ). output_line (task_in e) o ++ b) (ih ps)

    go : ((ps : List Output) → printed_of (event_pairs ls (events ls) ps) ≡ output_lines (events ls) ps) → (x : Option EventLine)
        → printed_of (event_pairs (l ∷ ls) (add_event x (events ls)) os) ≡ output_lines (add_event x (events ls)) os
    go ih (Some (Start k call tag)) = pair ih (starts k call tag) os
    go ih (Some (Step k)) = pair ih (steps k) os
    go ih None = refl

-- every line of the listing is printed
all_printed : (ts : List ℕ) → printed_lines (tag_listing ts) ≡ tag_listing ts
unfolding tag_listing filter is_printed
all_printed [] = refl
all_printed (t ∷ ts) = ap (λ (rs : List RecordedLine). record { role = listing_role; written = key_line tag_key t } ∷ rs) (all_printed ts)

listing_printed : (y : Machine) (l : Listing) → printed_lines (listing_of y l) ≡ listing_of y l
unfolding listing_of filter is_printed
listing_printed y (Ok n) = rw (all_printed (listed y))
listing_printed y (Err r) = refl

-- ---- the whole

events_printed : (y : Machine) (ls : List InputLine) → all_events ls ≡ true → printed_of (recorded_events y ls) ≡ event_lines y ls
unfolding recorded_events ran_recording event_lines ran_lines end_lines printed_of listing
events_printed y ls e =
    let r = run y (events ls) in
    let z = r.machine in
    let l = (list z (replicate 64 0)).says in
    printed_append (event_pairs ls (events ls) r.outs) (listing z)
    ∙ ap (λ (b : List ℕ). b ++ printed_of (listing z)) (outputs_printed ls r.outs)
    ∙ ap (λ (rs : List RecordedLine). output_lines (events ls) r.outs ++ bytes_of rs) (listing_printed z l)
    ∙ ap (λ (b : List ℕ). output_lines (events ls) r.outs ++ b) (listing_bytes z)
    ∙ ap (λ (b : Bool). output_lines (events ls) r.outs ++ end_lines b z) (sym e)

module _ (input : List ℕ) (s : Shift input) (e : all_events s.rest ≡ true) where
  its_transcript : transcript input ≡ event_lines (session_opening s.header).machine s.rest
  unfolding transcript lines_transcript header_lines opened_lines session_header
  its_transcript = ap header_lines (as_session (input_lines input) ∙ ap session_header s.lines) ∙ rw (eq-eqb _ _ s.accepted)

  pub records_what_is_printed : printed_of (lines_of (recorded_lines input)) ≡ transcript input
  unfolding lines_of
  records_what_is_printed =
      let y = (session_opening s.header).machine in
      let hs = map (input_again header_role) s.own in
      ap (λ (x : Recorded). printed_of (lines_of x)) (shift_lines input s)
      ∙ printed_append hs (recorded_events y s.rest)
      ∙ ap (λ (b : List ℕ). b ++ printed_of (recorded_events y s.rest)) (header_silent s.own)
      ∙ events_printed y s.rest e
      ∙ sym its_transcript
