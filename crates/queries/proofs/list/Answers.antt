use Rattle.std.proofs.Common.{◌≡◌, ◌++◌, ◌+◌, List, ℕ, length, drop, sym, ap, ◌∙◌, arith}
use borrow.Author.Tests.{le-leb}
use Rattle.std.specs.Prelude.{Ok}
use Rattle.spec.specs.Machine.{Machine, machine_of}
use Rattle.spec.specs.Words.{overwrite}
use Rattle.spec.specs.Listed.{listed}
use Rattle.spec.specs.Entries.{Written}
use Rattle.bucket.specs.Bucket.{tags_in}
use Rattle.bucket.proofs.Pad.{tags_of_bucket}
use Rattle.pool.specs.Pool.{write_front}
use Rattle.listing.proofs.Sound.{gathered}
use Rattle.queries.proofs.Laws.{list_spoilt, list_over, list_short, list_goes}
use Rattle.queries.proofs.list.Goals as goal

-- in a sound machine the bucket gathered holds `listed`, whose words go to the front
pub returns-then-not-sound : goal.returns-then-not-sound
returns-then-not-sound c =
    let a = c.args in
    let p = list_spoilt (machine_of a.s a.ns.now a.bs.now) a.out.now (sym c.sound.ensures ∙ c.if-not-sound.true) in
    (sym (ap (λ (z : Written). z.says) p), sym (ap (λ (z : Written). z.words) p))

pub returns-in_default : goal.returns-in_default
returns-in_default c =
    let a = c.args in
    let y : Machine = machine_of a.s a.ns.now a.bs.now in
    let s = sym c.sound.ensures ∙ c.if-not-sound.false in
    let p = list_over y a.out.now s ((gathered y s).over c.in_default.field-0 (sym c.gather.ensures ∙ c.in_default.is)) in
    (sym (ap (λ (z : Written). z.says) p), sym (ap (λ (z : Written). z.words) p))

pub returns-then-out-lt-MOST_TAGS : goal.returns-then-out-lt-MOST_TAGS
returns-then-out-lt-MOST_TAGS c =
    let a = c.args in
    let y : Machine = machine_of a.s a.ns.now a.bs.now in
    let s = sym c.sound.ensures ∙ c.if-not-sound.false in
    let f = (gathered y s).fine c.in-Ok.b (sym c.gather.ensures ∙ c.in-Ok.is) in
    let p = list_short y a.out.now s f.0 c.if-out-lt-MOST_TAGS.true in
    (sym (ap (λ (z : Written). z.says) p), sym (ap (λ (z : Written). z.words) p))

pub returns : goal.returns
unfolding overwrite write_front
returns c =
    let a = c.args in
    let w = a.out.now in
    let y : Machine = machine_of a.s a.ns.now a.bs.now in
    let s = sym c.sound.ensures ∙ c.if-not-sound.false in
    let f = (gathered y s).fine c.in-Ok.b (sym c.gather.ensures ∙ c.in-Ok.is) in
    let room = c.if-out-lt-MOST_TAGS.false in
    let t : c.tags-tags.result.now ≡ listed y = c.tags-tags.ensures.tags ∙ ap tags_in f.1 ∙ tags_of_bucket 1 (listed y) in
    let z : 0 + length (listed y) ≡ length (listed y) = omega arith in
    let o : overwrite w 0 (listed y) ≡ listed y ++ drop (length (listed y)) w = rw z in
    let p = list_goes y w s f.0 room in
    let front : write_front w (listed y) ≡ overwrite w 0 (listed y) = rw (le-leb (length (listed y)) (length w) (omega (arith, f.0, room))) in
    let written = c.write_over.ensures ∙ ap (λ (l : List ℕ). write_front w l) t ∙ front ∙ o in
    (ap Ok (ap length t) ∙ sym (ap (λ (z : Written). z.says) p), written ∙ sym (ap (λ (z : Written). z.words) p))
