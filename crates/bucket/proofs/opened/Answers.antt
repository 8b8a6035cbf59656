use Rattle.std.proofs.Common.{rules, ◌≡◌, ap, ◌∙◌, ℕ, length, drop}
use lib.Seq.{paste}
use lib.ListN.{set, replicate}
use Rattle.bucket.specs.Bucket.{tags_in}
use Rattle.bucket.proofs.Pad.{fresh_words, words_bucket}
use Rattle.bucket.proofs.opened.Goals as goal

-- the flag, the count and the copied tags are the words of a changeable bucket
pub returns : goal.returns
returns c =
    let ws = c.args.b.words in
    let len : length ws ≡ 66 = search rules in
    fresh_words 1 ws c.copied.result len
    (c.copied.ensures ∙ ap (λ (n : ℕ). paste (set (set (replicate 66 0) 0 1) 1 n) 2 (drop 2 ws) n) c.count-n.ensures.0)
    ∙ words_bucket 1 (tags_in ws)
