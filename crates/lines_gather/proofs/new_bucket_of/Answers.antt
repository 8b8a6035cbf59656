use Rattle.std.proofs.Common.{◌≡◌, ◌≤◌, ◌-◌, ◌*◌, ◌<◌, ℕ, List, Bool, true, eqb, length, drop, ap, ◌∙◌, arith}
use borrow.Author.Tests.{ne_eqb}
use Rattle.spec.specs.Lists.{filter, ascending}
use Rattle.spec.specs.Words.{tags}
use Rattle.spec.specs.Sound.{sound_bucket}
use Rattle.spec.specs.Listed.{slot, size_of, tags_of}
use Rattle.spec.specs.Lines.{gathered}
use Rattle.bucket.specs.declared.Bucket.{Bucket}
use Rattle.bucket.specs.Bucket.{tags_in}
use Rattle.bucket_copies.specs.Copies.{split_of}
use Rattle.pool.specs.Pool.{bucket_at}
use Rattle.pool.proofs.At.{tags_here, ascends}
use Rattle.lines_gather.proofs.Gathering.{length_filter, few_tags, makes_one, makes_two}
use Rattle.lines_gather.proofs.new_bucket_of.Goals as goal

-- a bucket that was loaded has the tags of its record
module _ (w : List ℕ) (l : ℕ) (there : 0 < l) (fits : 66 * l ≤ length w) (good : sound_bucket (drop (66 * (l - 1)) w) ≡ true) {b : Bucket}
    (e : b ≡ bucket_at w (l - 1)) where
  loaded : tags_in b.words ≡ tags w (l - 1)
  loaded = ap (λ (x : Bucket). tags_in x.words) e ∙ tags_here w (l - 1) good (omega arith)

  climbs : ascending (tags_in b.words) ≡ true
  climbs = rw loaded (ascends w (l - 1) good)

pub returns-then-c-eq0 : goal.returns-then-c-eq0
unfolding gathered split_of tags_of size_of
returns-then-c-eq0 c = λ s same.
    let a = c.args in
    let w = a.bs.now in
    let m : ℕ = a.c.m - 1 in
    let f : ℕ → Bool = λ k. eqb (slot a.g k c.size_of.result) a.c.i in
    let tags-m = loaded w a.c.m c.requires.0 c.requires.3 c.requires.5 c.load-a.ensures in
    let few : length (filter f (tags_in c.load-a.result.words)) ≤ 64 = rw tags-m (omega (arith, length_filter f (tags w m), few_tags w m c.requires.5)) in
    rw (same, c.if-c-eq0.true, ← c.size_of.ensures, ← tags-m)
    (makes_one c.split-split.result (filter f (tags_in c.load-a.result.words)) few (ap (λ (b : Bucket). b.words) c.split-split.ensures))

-- m and n are both there

pub union-requires : goal.union-requires
union-requires c =
    let a = c.args in
    let there : 0 < a.c.n = let some = c.if-c-eq0.false in omega (arith, some) in (
      climbs a.bs.now a.c.m c.requires.0 c.requires.3 c.requires.5 c.load-a.ensures,
      climbs a.bs.now a.c.n there c.requires.4 (c.requires.6 there) c.load-b.ensures,
    )

pub returns : goal.returns
unfolding gathered tags_of
returns c = λ s same.
    let a = c.args in
    let there : 0 < a.c.n = let some = c.if-c-eq0.false in omega (arith, some) in
    let tags-m = loaded a.bs.now a.c.m c.requires.0 c.requires.3 c.requires.5 c.load-a.ensures in
    let tags-n = loaded a.bs.now a.c.n there c.requires.4 (c.requires.6 there) c.load-b.ensures in
    rw (ne_eqb _ _ c.if-c-eq0.false, ← tags-m, ← tags-n, c.union.ensures) (makes_two c.load-a.result c.load-b.result)
