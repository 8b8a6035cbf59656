use Rattle.std.proofs.Common.{◌≡◌, ◌++◌, ◌∷◌, ◌+◌, ◌∙◌, List, [], ℕ, length, length-append, length-drop, set, arith, refl, sym, ap}
use Rattle.std.proofs.lemmas.List.{take_rest}
use Rattle.laws.specs.Ascending.{ascending_rising}
use Rattle.bucket.proofs.Pad.{padded, pad_push}
use Rattle.bucket_copies.proofs.Laws.{counted, is_full, is_union}
use Rattle.bucket_copies.proofs.Walking.{rising_drop, walk, walk_more, walk_end}
use Rattle.bucket_copies.proofs.union.Goals as goal

pub loop-xs-init : goal.loop-xs-init
unfolding padded
loop-xs-init c = (
  [],
  omega arith,
  refl,
  refl,
  rw c.tags-xs.ensures.tags (ascending_rising _ c.requires.0),
  rw c.tags-ys.ensures.tags (ascending_rising _ c.requires.1),
  rw (c.tags-xs.ensures.tags, c.tags-ys.ensures.tags),
  c.tags-xs.ensures.most,
  c.tags-ys.ensures.most,
)

pub returns-then-len-ge-MOST_TAGS : goal.returns-then-len-ge-MOST_TAGS
returns-then-len-ge-MOST_TAGS c =
    let l = c.loop-xs in
    let more = walk_more l.xs.now l.ys.now l.invariant.0 l.invariant.4 l.invariant.5 (omega arith) in
    let same = ap length l.invariant.6 in
    is_full c.args.a c.args.b (omega arith)

pub loop-xs-preserved : goal.loop-xs-preserved
loop-xs-preserved c =
    let l = c.loop-xs in
    let t = c.next-t.result in
    let acc = l.invariant.0 in
    let w = walk l.xs.now l.ys.now acc l.invariant.4 l.invariant.5 (omega arith) t c.next-t.ensures.next in
    let n : length (acc ++ (t.tag ∷ [])) ≡ l.len + 1 = rw (length-append acc (t.tag ∷ [])) (omega arith) in (
      acc ++ (t.tag ∷ []),
      omega arith,
      ap (λ (o : List ℕ). set o (2 + l.len) t.tag) l.invariant.2 ∙ pad_push (1 ∷ 0 ∷ acc) t.tag (2 + l.len) (omega arith) (omega arith),
      n,
      rw (take_rest l.xs.now t.first) (rising_drop t.first l.xs.now l.invariant.4),
      rw (take_rest l.ys.now t.second) (rising_drop t.second l.ys.now l.invariant.5),
      rw (take_rest l.xs.now t.first, take_rest l.ys.now t.second) (sym w.0 ∙ l.invariant.6),
      rw (take_rest l.xs.now t.first, length-drop t.first l.xs.now) (omega arith),
      rw (take_rest l.ys.now t.second, length-drop t.second l.ys.now) (omega arith),
    )

pub returns : goal.returns
returns c =
    let l = c.loop-xs in
    let all = sym (walk_end l.xs.now l.ys.now l.invariant.0 (omega arith) (omega arith)) ∙ l.invariant.6 in
    is_union c.args.a c.args.b _ l.invariant.0 (omega arith) all (counted l.invariant.0 l.words l.len l.invariant.2 l.invariant.3)
