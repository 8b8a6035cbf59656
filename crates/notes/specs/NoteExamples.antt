-- Examples for two lanes' notes (paper 02, U8): what keeps both lists and what does not, which order comes first, the words of the six answers,
-- the lanes' numbers, and lists given as arrays. Assumes nothing.
use Rattle.std.specs.Prelude.{ℕ, ◌+◌, ◌≡◌, refl, ◌⊎◌, List, [], ◌∷◌, map, length, replicate, Some, None, Ok, Err}
use Rattle.std.proofs.Common.{ap, inl, inr, arith}
use Rattle.spec.specs.declared.Answer.TheVariants.{Yes, No, Full, Done, Lost, Limit}
use Rattle.spec.specs.declared.Call.TheVariants.{Insert, Remove, Contains, Grow, Shrink}
use Rattle.spec.specs.Everything.{everything}
use Rattle.session.specs.Ascii.{codes, ascii}
use Rattle.session.specs.Everything.{session_definitions}
use Rattle.notes.specs.declared.Note.{Note}
use Rattle.notes.specs.declared.Lane.TheVariants.{First as FirstTaken, Second as SecondTaken}
use Rattle.notes.specs.declared.Unfit.TheVariants.{LongerOrResize}
use Rattle.notes.specs.declared.NoteLine.TheVariants.{First, Second}
use Rattle.notes.specs.Orders.{note, Lane, first, second, from_first, from_second, Interleaves, none_left, taking, Right, Sooner, here, there}
use Rattle.notes.specs.Orders.{RightOrder, FirstRight}
use Rattle.notes.specs.Merge.{order, none, searched, refused, list_of, lanes_of, merged}
use Rattle.notes.specs.Text.{parse_answer, last_comma_from, last_comma, noted, parse_noted, parse_note, call_field, note_line}

-- ---- "some order that keeps both lists"

-- the first lane inserted 1 and then 2, the second 3
abbrev pub inserts : ℕ → Note
inserts k = note Insert k Yes

abbrev pub Kept : List Lane → List Note → Type 0
Kept L zs = Interleaves (inserts 1 ∷ inserts 2 ∷ []) (inserts 3 ∷ []) L zs

pub kept :
    Kept (first ∷ second ∷ first ∷ []) (inserts 1 ∷ inserts 3 ∷ inserts 2 ∷ []) × Kept (second ∷ first ∷ first ∷ []) (inserts 3 ∷ inserts 1 ∷ inserts 2 ∷ [])
kept =
    (taking from_first (taking from_second (taking from_first none_left)), taking from_second (taking from_first (taking from_first none_left)))

-- an order has all calls of both lists, and begins with a list's first
kept_length : {xs ys zs : List Note} {L : List Lane} → Interleaves xs ys L zs → (length zs ≡ length xs + length ys) × (length L ≡ length zs)
kept_length none_left = (refl, refl)
kept_length (taking from_first i) = let h = kept_length i in (omega (arith, h.0), omega (arith, h.1))
kept_length (taking from_second i) = let h = kept_length i in (omega (arith, h.0), omega (arith, h.1))

abbrev pub Begins : Note → List Note → Type 0
Begins x [] = ⊥
Begins x (y ∷ ys) = y ≡ x

kept_begins : {xs ys zs : List Note} {L : List Lane} {x : Note} → Interleaves xs ys L (x ∷ zs) → Begins x xs ⊎ Begins x ys
kept_begins (taking from_first i) = inl refl
kept_begins (taking from_second i) = inr refl

kept_rest : {x y : Note} {xs zs : List Note} {L : List Lane} → Interleaves (x ∷ xs) [] L (y ∷ zs) → (M : List Lane) × Interleaves xs [] M zs
kept_rest (taking {L = L} from_first i) = (L, i)

-- one left out, one twice, one invented; the first lane's calls exchanged, at the beginning and behind another
pub left_out : (L : List Lane) → ¬ Kept L (inserts 1 ∷ inserts 2 ∷ [])
left_out L k = let h = (kept_length k).0 in omega arith

pub twice : (L : List Lane) → ¬ Kept L (inserts 1 ∷ inserts 2 ∷ inserts 3 ∷ inserts 3 ∷ [])
twice L k = let h = (kept_length k).0 in omega arith

pub invented : (L : List Lane) → ¬ Kept L (inserts 4 ∷ inserts 1 ∷ inserts 2 ∷ [])
invented L k = go (kept_begins k)
  where
    go : (inserts 1 ≡ inserts 4) ⊎ (inserts 3 ≡ inserts 4) → ⊥
    go (inl e) = let d = ap (λ (x : Note). x.tag) e in omega arith
    go (inr e) = let d = ap (λ (x : Note). x.tag) e in omega arith

pub exchanged : (L : List Lane) → ¬ Kept L (inserts 2 ∷ inserts 1 ∷ inserts 3 ∷ [])
exchanged L k = go (kept_begins k)
  where
    go : (inserts 1 ≡ inserts 2) ⊎ (inserts 3 ≡ inserts 2) → ⊥
    go (inl e) = let d = ap (λ (x : Note). x.tag) e in omega arith
    go (inr e) = let d = ap (λ (x : Note). x.tag) e in omega arith

pub exchanged_behind : (L : List Lane) → ¬ Interleaves (inserts 1 ∷ inserts 2 ∷ inserts 3 ∷ []) [] L (inserts 1 ∷ inserts 3 ∷ inserts 2 ∷ [])
exchanged_behind L k = go (kept_begins (kept_rest k).1)
  where
    go : (inserts 2 ≡ inserts 3) ⊎ ⊥ → ⊥
    go (inl e) = let d = ap (λ (x : Note). x.tag) e in omega arith
    go (inr e) = e

-- the second lane's calls exchanged, and those of both: an order that keeps neither list
pub second_exchanged : (L : List Lane) → ¬ Interleaves [] (inserts 3 ∷ inserts 4 ∷ []) L (inserts 4 ∷ inserts 3 ∷ [])
second_exchanged L k = go (kept_begins k)
  where
    go : ⊥ ⊎ (inserts 3 ≡ inserts 4) → ⊥
    go (inl e) = e
    go (inr e) = let d = ap (λ (x : Note). x.tag) e in omega arith

pub neither_kept :
    (L : List Lane)
    → ¬ Interleaves (inserts 1 ∷ inserts 2 ∷ []) (inserts 3 ∷ inserts 4 ∷ []) L (inserts 2 ∷ inserts 1 ∷ inserts 4 ∷ inserts 3 ∷ [])
neither_kept L k = go (kept_begins k)
  where
    go : (inserts 1 ≡ inserts 2) ⊎ (inserts 3 ≡ inserts 2) → ⊥
    go (inl e) = let d = ap (λ (x : Note). x.tag) e in omega arith
    go (inr e) = let d = ap (λ (x : Note). x.tag) e in omega arith

-- ---- "gives those answers"

pub right : Right [] (inserts 5 ∷ note Insert 5 No ∷ note Contains 5 Yes ∷ note Remove 5 Yes ∷ note Remove 5 No ∷ [])
unfolding everything
right = (refl, (refl, (refl, (refl, (refl, tt)))))

-- a wrong one in the middle, and the last
pub wrong : (¬ Right [] (inserts 5 ∷ note Contains 5 No ∷ note Remove 5 Yes ∷ [])) × (¬ Right [] (inserts 5 ∷ note Remove 5 Yes ∷ note Contains 5 Yes ∷ []))
unfolding everything
wrong = (λ r. (let e = r.1.0 in let z : ◌≡◌ {A = ℕ} 0 1 = cc in omega arith), λ r. (let e = r.1.1.0 in let z : ◌≡◌ {A = ℕ} 0 1 = cc in omega arith))

-- ---- "taking the first lane's call wherever both choices can still succeed"

pub sooner : Sooner (first ∷ second ∷ []) (second ∷ first ∷ []) × Sooner (second ∷ first ∷ second ∷ []) (second ∷ second ∷ first ∷ [])
sooner = (here, there here)

not_second_first : {L M : List Lane} → Sooner (second ∷ L) (first ∷ M) → ⊥
not_second_first = elim [ ]

not_none : Sooner [] [] → ⊥
not_none = elim [ ]

-- not the second lane's at the first difference, whatever comes then; and no order before itself
pub not_sooner : (¬ Sooner (second ∷ first ∷ []) (first ∷ second ∷ [])) × (¬ Sooner (first ∷ second ∷ first ∷ []) (first ∷ first ∷ second ∷ []))
not_sooner = (λ s. not_second_first s, λ s. go s)
  where
    go : Sooner (first ∷ second ∷ first ∷ []) (first ∷ first ∷ second ∷ []) → ⊥
    go (there s) = not_second_first s

pub not_itself : ¬ Sooner (first ∷ []) (first ∷ [])
not_itself (there s) = not_none s

-- both orders of two inserts are right, and the one that takes the second lane's first is not the one to give
pub not_the_first : ¬ FirstRight [] (inserts 1 ∷ []) (inserts 3 ∷ []) (second ∷ first ∷ [])
unfolding everything
not_the_first f = go (f.soonest (first ∷ second ∷ []) other)
  where
    other : RightOrder [] (inserts 1 ∷ []) (inserts 3 ∷ []) (first ∷ second ∷ [])
    other =
        record { calls = inserts 1 ∷ inserts 3 ∷ []; keeps = taking from_first (taking from_second none_left); right = (refl, (refl, tt)) }

    go : (second ∷ first ∷ [] ≡ first ∷ second ∷ []) ⊎ Sooner (second ∷ first ∷ []) (first ∷ second ∷ []) → ⊥
    go (inl e) = let z : ◌≡◌ {A = ℕ} 0 1 = cc in omega arith
    go (inr s) = not_second_first s

-- ---- text

-- the six words, and words with one letter more or less
pub answer_words :
    map (λ s. parse_answer (ascii s)) ("yes" ∷ "no" ∷ "full" ∷ "done" ∷ "lost" ∷ "limit" ∷ "yess" ∷ "ye" ∷ "limits" ∷ "limi" ∷ "" ∷ "Yes" ∷ [])
    ≡ Some Yes ∷ Some No ∷ Some Full ∷ Some Done ∷ Some Lost ∷ Some Limit ∷ None ∷ None ∷ None ∷ None ∷ None ∷ None ∷ []
unfolding everything session_definitions codes ascii parse_answer
answer_words = refl

-- the lanes are 1 and 2; every call and every answer; a call's word with one letter more, and another key
pub notes_read :
    map (λ s. parse_note (ascii s))
    ("note=0,insert,5,yes" ∷ "note=1,insert,5,yes" ∷ "note=2,remove,6,no" ∷ "note=3,insert,5,yes" ∷ "note=1,contains,7,full" ∷ "note=2,grow,limit"
    ∷ "note=1,shrink,lost" ∷ "note=1,inserts,5,yes" ∷ "note=1,grows,done" ∷ "notes=1,insert,5,yes" ∷ "note=1,step,yes" ∷ [])
    ≡ None ∷ Some (First (note Insert 5 Yes)) ∷ Some (Second (note Remove 6 No)) ∷ None ∷ Some (First (note Contains 7 Full))
    ∷ Some (Second (note Grow 0 Limit)) ∷ Some (First (note Shrink 0 Lost)) ∷ None ∷ None ∷ None ∷ None ∷ []
unfolding everything session_definitions codes ascii parse_answer last_comma_from last_comma noted parse_noted parse_note
notes_read = refl

pub notes_printed :
    note_line 1 (note Insert 5 Full) ∷ note_line 2 (note Remove 10 No) ∷ note_line 1 (note Contains 0 Yes) ∷ note_line 2 (note Grow 0 Done)
    ∷ note_line 1 (note Grow 0 Limit) ∷ note_line 2 (note Shrink 0 Lost) ∷ []
    ≡ map ascii ("note=1,insert,5,full\n" ∷ "note=2,remove,10,no\n" ∷ "note=1,contains,0,yes\n" ∷ "note=2,grow,done\n" ∷ "note=1,grow,limit\n"
    ∷ "note=2,shrink,lost\n" ∷ [])
unfolding everything session_definitions codes ascii call_field note_line
notes_printed = refl

-- ---- as the code has it: the lane of each call, then none

pub lanes :
    (lanes_of (first ∷ second ∷ second ∷ []) ≡ Some FirstTaken ∷ Some SecondTaken ∷ Some SecondTaken ∷ replicate 9 None)
    × (lanes_of (replicate 12 second) ≡ replicate 12 (Some SecondTaken))
unfolding lanes_of
lanes = (refl, refl)

pub merged_rows :
    merged (searched (order (second ∷ []))) ∷ merged (searched (order [])) ∷ merged (searched none) ∷ merged (refused 13) ∷ []
    ≡ Ok (Some (Some SecondTaken ∷ replicate 11 None)) ∷ Ok (Some (replicate 12 None)) ∷ Ok None ∷ Err LongerOrResize ∷ []
unfolding lanes_of merged
merged_rows = refl

-- a list of six has six calls, its own; a count over six is a longer list
pub lists :
    map (λ n. length (list_of (record { count = n; note = replicate 6 (inserts 5) }))) (0 ∷ 1 ∷ 5 ∷ 6 ∷ 7 ∷ 8 ∷ 4294967295 ∷ [])
    ≡ 0 ∷ 1 ∷ 5 ∷ 6 ∷ 7 ∷ 7 ∷ 7 ∷ []
unfolding list_of
lists = refl

pub first_two : list_of (record { count = 2; note = inserts 1 ∷ inserts 2 ∷ replicate 4 (inserts 3) }) ≡ inserts 1 ∷ inserts 2 ∷ []
unfolding list_of
first_two = refl
