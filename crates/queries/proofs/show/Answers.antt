use Rattle.std.proofs.Common.{◌≡◌, ◌≤◌, ◌-◌, ◌+◌, ◌*◌, ℕ, take, drop, sym, ap, ◌∙◌, arith}
use borrow.Author.Tests.{lt-ltb, le-ltb}
use Rattle.spec.specs.Machine.{Machine, machine_of}
use Rattle.spec.specs.Words.{tags, count}
use Rattle.spec.specs.Entries.{show}
use Rattle.pool.proofs.Facts.{numbers_of, bucket_fact}
use Rattle.pool.proofs.At.{few}
use Rattle.queries.proofs.show.Goals as goal

-- each early return is an empty part; the last is the tags of bucket k, where they stand
pub returns-then-not-sound : goal.returns-then-not-sound
unfolding show
returns-then-not-sound c = rw (sym c.sound.ensures ∙ c.if-not-sound.true)

pub returns-then-s-k : goal.returns-then-s-k
unfolding show
returns-then-s-k c = let s = sym c.sound.ensures ∙ c.if-not-sound.false in rw (s, le-ltb _ _ c.if-s-k.true)

pub returns-then-k-ge-MOST_BUCKETS : goal.returns-then-k-ge-MOST_BUCKETS
returns-then-k-ge-MOST_BUCKETS c =
    let a = c.args in
    let n = numbers_of (machine_of a.s a.ns.now a.bs.now) (sym c.sound.ensures ∙ c.if-not-sound.false) in
    absurd (omega (arith, c.if-s-k.false, c.if-k-ge-MOST_BUCKETS.true))

pub returns-then-bs-e : goal.returns-then-bs-e
unfolding count
returns-then-bs-e c =
    let a = c.args in
    let w = a.bs.now in
    let y : Machine = machine_of a.s a.ns.now w in
    let s = sym c.sound.ensures ∙ c.if-not-sound.false in
    let n = numbers_of y s in
    let m : count w a.k ≤ 64 = few w a.k (bucket_fact y s a.k c.if-s-k.false) in
    let e : c.word-n.result ≡ count w a.k = c.word-n.ensures in
    absurd (omega (arith, c.if-bs-e.true, c.if-s-k.false))

pub returns : goal.returns
unfolding show tags count
returns c =
    let a = c.args in
    let w = a.bs.now in
    let y : Machine = machine_of a.s a.ns.now w in
    let s = sym c.sound.ensures ∙ c.if-not-sound.false in
    let n = numbers_of y s in
    let m : count w a.k ≤ 64 = few w a.k (bucket_fact y s a.k c.if-s-k.false) in
    let e : c.word-n.result ≡ count w a.k = c.word-n.ensures in
    let q : 66 * a.k + 2 + c.word-n.result - (66 * a.k + 2) ≡ count w a.k = omega arith in
    rw (s, lt-ltb _ _ c.if-s-k.false) (ap (λ (m : ℕ). take m (drop (66 * a.k + 2) w)) q)
