-- `merge::right` meets its contract: the set answers by whether the tag is inside, and that goes by the calls so far. Assumes nothing.
use Rattle.std.proofs.Common.{rules, suc, ◌≡◌, ◌<◌, ◌≤◌, ◌∙◌, sym, eqb, length, get_or, refl}
use denote.Enum.Bare.{sameb}
use denote.Enum.Declared.{tag_of}
use lib.Dec.{eqb-suc-suc}
use lib.Seq.{drop-cons}
use Rattle.spec.specs.declared.Answer.{Answer}
use Rattle.spec.specs.declared.Answer.TheVariants.{Yes, No, Full, Done, Lost, Limit}
use Rattle.spec.specs.contracts.Answer.{the_type}
use Rattle.spec.specs.Numbers.{answer_number}
use Rattle.laws.specs.Tests.{tf}
use Rattle.merge.proofs.SearchLaws.{past, within}
use Rattle.merge.proofs.right.Goals as goal

-- an answer's number is one more than its place among the answers, so `==` is the test of the numbers
numbered : (a : Answer) → answer_number a ≡ suc (tag_of the_type a)
numbered Yes = refl
numbered No = refl
numbered Full = refl
numbered Done = refl
numbered Lost = refl
numbered Limit = refl

same_number : (a b : Answer) → sameb the_type a b ≡ eqb (answer_number a) (answer_number b)
same_number a b = rw (numbered a, numbered b) (sym (eqb-suc-suc _ _))

pub returns-in_default : goal.returns-in_default
returns-in_default c =
    let out : length c.args.l.now ≤ c.args.k = search rules in
    record { has = λ y. absurd (tf y refl); given = λ S st. past S c.args.l.now c.args.k out }

pub returns : goal.returns
returns c =
    let x = c.in-Some.field-0.now in
    let h : c.args.k < length c.args.l.now = search rules in
    let e : get_or c.args.l.now c.args.k x ≡ x = search rules in
    record {
      has = λ y. h;
      given = λ S st.
          rw (c.eq.ensures ∙ same_number c.said.result x.answer, c.said.ensures, c.toggled-inside.ensures, c.toggled.ensures)
          (within S c.args.l.now c.args.k x (drop-cons c.args.l.now c.args.k x h ∙ rw e) c.args.a.now c.args.b.now st c.requires.0 c.requires.1);
    }
