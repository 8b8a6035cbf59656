-- The opening's refusals of a recording's header, each exactly under its condition on the header's numbers: `refusal_1`, `refusal_2`,
-- `refusal_3`, `refusal_11`. For a reader gives the opening's refusal (Conditions), and corollaries has when an opening gives it. Assumes nothing.
use Rattle.std.specs.Prelude.{◌≡◌, ◌↔◌, List, [], Bool, ℕ, ◌*◌, ◌≤◌, leb, if◌then◌else◌}
use Rattle.std.proofs.Math.Path.{refl}
use Rattle.std.proofs.Math.Bool.{true, false}
use Rattle.std.proofs.Common.{arith}
use borrow.Author.Tests.{le-leb, leb-true}
use Rattle.std.proofs.Math.ListN.{length, replicate}
use Rattle.std.proofs.lemmas.List.{length-replicate}
use Rattle.spec.specs.Sound.{within}
use Rattle.laws.specs.Tests.{and_left, and_right, and_i}
use Rattle.corollaries.specs.Tables.{Within, Records, OpeningRefused, is_1, is_2, is_3, is_11, opening_refused}
use Rattle.corollaries.specs.Refusals.{refusal_1 as opening-1, refusal_2 as opening-2, refusal_3 as opening-3, refusal_11 as opening-11}
use Rattle.session.specs.declared.Header.{Header}
use Rattle.session.specs.Transcript.{pool_words, session_opening}
use Rattle.recording.specs.declared.Verdict.TheVariants.{Refusal}
use Rattle.recording.specs.Verdict.{verdict}
use Rattle.recording_laws.specs.Conditions.{FullHeader, opening_refusal}

-- ---- the words that a session opens with are records exactly if their number is within the session's bounds

-- n records of a width, at most `most`, of which an opening takes no more than `limit`
module _ (width most limit n : ℕ) (some : (k : ℕ) → 1 ≤ k → 1 ≤ width * k) (fewer : most ≤ limit) where
  words_within : Records width limit (pool_words width most n) → Within 1 most n
  unfolding pool_words
  words_within r = go (within 1 most n) refl r.words
    where
      go : (b : Bool) → within 1 most n ≡ b → length {A = ℕ} (if b then replicate (width * n) 0 else []) ≡ width * r.number → Within 1 most n
      go true e w = (leb-true 1 n (and_left (leb 1 n) (leb n most) e), leb-true n most (and_right (leb 1 n) (leb n most) e))
      go false e w = absurd (omega (arith, some r.number r.some))

  within_words : Within 1 most n → Records width limit (pool_words width most n)
  unfolding pool_words
  within_words p =
      let e : within 1 most n ≡ true = and_i (leb 1 n) (leb n most) (le-leb 1 n p.0) (le-leb n most p.1) in
      record { number = n; some = p.0; few = omega arith; words = rw e (length-replicate (width * n) 0) }

abbrev nodes_within : (h : Header) → Records 34 64 (pool_words 34 64 h.nodes) → Within 1 64 h.nodes
nodes_within h r = words_within 34 64 64 h.nodes (λ k g. omega arith) (omega arith) r

abbrev within_nodes : (h : Header) → Within 1 64 h.nodes → Records 34 64 (pool_words 34 64 h.nodes)
within_nodes h p = within_words 34 64 64 h.nodes (λ k g. omega arith) (omega arith) p

abbrev buckets_within : (h : Header) → Records 66 1024 (pool_words 66 200 h.buckets) → Within 1 200 h.buckets
buckets_within h r = words_within 66 200 1024 h.buckets (λ k g. omega arith) (omega arith) r

abbrev within_buckets : (h : Header) → Within 1 200 h.buckets → Records 66 1024 (pool_words 66 200 h.buckets)
within_buckets h p = within_words 66 200 1024 h.buckets (λ k g. omega arith) (omega arith) p

-- ---- each refusal

-- the opening's refusal m of the header, and its condition
by_opening : (input : List ℕ) (m : ℕ) → (¬ (m ≡ 0)) × (¬ (m ≡ 10)) × (¬ (m ≡ 12)) → (Why : Header → Type 0)
    → ((h : Header) → (session_opening h).refusal ≡ m ↔ Why h) → verdict input ≡ Refusal m ↔ ((f : FullHeader input) × Why f.header)
by_opening input m d Why iff =
    let g = opening_refusal input m d.0 d.1 d.2 in (
      λ e. let x = g.0 e in (x.0, (iff x.0.header).0 x.1),
      λ y. g.1 (y.0, (iff y.0.header).1 y.1),
    )

-- the conditions, in the order in which they are tested: one holds where all before it fail
abbrev pub TasksRight : Header → Type 0
TasksRight h = Within 1 8 h.config.tasks

abbrev pub NodesRight : Header → Type 0
NodesRight h = Within 1 64 h.nodes

abbrev pub BucketsRight : Header → Type 0
BucketsRight h = Within 1 200 h.buckets

-- it is 1 where no line gives it
abbrev pub VersionRight : Header → Type 0
VersionRight h = Within 1 2 h.config.version

-- the refusal of a header's opening, by its numbers: the four in their order
pub data HeaderRefused (h : Header) (r : ℕ) : Type 0 where
  header_1 : r ≡ 1 → ¬ TasksRight h → HeaderRefused h r
  header_2 : r ≡ 2 → TasksRight h → ¬ NodesRight h → HeaderRefused h r
  header_3 : r ≡ 3 → TasksRight h → NodesRight h → ¬ BucketsRight h → HeaderRefused h r
  header_11 : r ≡ 11 → TasksRight h → NodesRight h → BucketsRight h → ¬ VersionRight h → HeaderRefused h r

pub header_refused : (h : Header) (r : ℕ) → ¬ (r ≡ 0) → (session_opening h).refusal ≡ r ↔ HeaderRefused h r
unfolding session_opening
header_refused h r d =
    let o = opening_refused h.config (pool_words 34 64 h.nodes) (pool_words 66 200 h.buckets) r d in
    (λ e. to (o.0 e), λ x. o.1 (from x))
  where
    Table : Type 0
    Table = OpeningRefused h.config (pool_words 34 64 h.nodes) (pool_words 66 200 h.buckets) r

    to : Table → HeaderRefused h r
    to (is_1 e n) = header_1 e n
    to (is_2 e t n) = header_2 e t (λ w. n (within_nodes h w))
    to (is_3 e t s n) = header_3 e t (nodes_within h s) (λ w. n (within_buckets h w))
    to (is_11 e t s b n) = header_11 e t (nodes_within h s) (buckets_within h b) n

    from : HeaderRefused h r → Table
    from (header_1 e n) = is_1 e n
    from (header_2 e t n) = is_2 e t (λ w. n (nodes_within h w))
    from (header_3 e t s n) = is_3 e t (within_nodes h s) (λ w. n (buckets_within h w))
    from (header_11 e t s b n) = is_11 e t (within_nodes h s) (within_buckets h b) n

module _ (input : List ℕ) where
  -- 1: tasks are not 1 to 8
  pub refusal_1 : verdict input ≡ Refusal 1 ↔ ((f : FullHeader input) × (¬ TasksRight f.header))
  unfolding session_opening
  refusal_1 = by_opening input 1 (omega arith) (λ h. ¬ TasksRight h) (λ h. opening-1 h.config _ _)

  -- 2: tasks are, and nodes are not 1 to 64
  pub refusal_2 : verdict input ≡ Refusal 2 ↔ ((f : FullHeader input) × (TasksRight f.header × (¬ NodesRight f.header)))
  unfolding session_opening
  refusal_2 =
      by_opening input 2 (omega arith) (λ h. TasksRight h × (¬ NodesRight h)) (λ h.
      let o = opening-2 h.config (pool_words 34 64 h.nodes) (pool_words 66 200 h.buckets) in (
        λ e. ((o.0 e).0, λ w. (o.0 e).1 (within_nodes h w)),
        λ x. o.1 (x.0, λ r. x.1 (nodes_within h r)),
      ))

  -- 3: both are right, and buckets are not 1 to 200
  pub refusal_3 : verdict input ≡ Refusal 3 ↔ ((f : FullHeader input) × (TasksRight f.header × NodesRight f.header × (¬ BucketsRight f.header)))
  unfolding session_opening
  refusal_3 =
      by_opening input 3 (omega arith) (λ h. TasksRight h × NodesRight h × (¬ BucketsRight h)) (λ h.
      let o = opening-3 h.config (pool_words 34 64 h.nodes) (pool_words 66 200 h.buckets) in (
        λ e. ((o.0 e).0, nodes_within h (o.0 e).1, λ w. (o.0 e).2 (within_buckets h w)),
        λ x. o.1 (x.0, within_nodes h x.1, λ r. x.2 (buckets_within h r)),
      ))

  -- 11: all three are right, and the version is neither 1 nor 2
  pub refusal_11 : verdict input ≡ Refusal 11
      ↔ ((f : FullHeader input) × (TasksRight f.header × NodesRight f.header × BucketsRight f.header × (¬ VersionRight f.header)))
  unfolding session_opening
  refusal_11 =
      by_opening input 11 (omega arith) (λ h. TasksRight h × NodesRight h × BucketsRight h × (¬ VersionRight h)) (λ h.
      let o = opening-11 h.config (pool_words 34 64 h.nodes) (pool_words 66 200 h.buckets) in (
        λ e. ((o.0 e).0, nodes_within h (o.0 e).1, buckets_within h (o.0 e).2, (o.0 e).3),
        λ x. o.1 (x.0, within_nodes h x.1, within_buckets h x.2, x.3),
      ))
