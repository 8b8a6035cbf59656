-- `merge::fit` meets its contract. Assumes nothing.
use Rattle.std.proofs.Common.{rules, ◌≡◌, ◌<◌, ◌≤◌, length, take, true, false, refl, arith, sym, ◌∙◌}
use Rattle.merge.proofs.Laws.{list_short, list_long, unfit_short}
use Rattle.merge.proofs.fit.Goals as goal
use Rattle.merge.proofs.fit.Goals.{in_default-via-in-Some+else-has_no_resize, in_default-via-in_default}

pub returns-in-Some : goal.returns-in-Some
returns-in-Some c =
    let l = c.args.l.now in
    let len : length l.note ≡ 6 = search rules in
    let got : c.in-Some.calls.now ≡ take l.count l.note = search rules in
    let few : l.count ≤ 6 = search rules in
    (got ∙ sym (list_short l few), unfit_short l few len true (rw (← got) (sym c.if-has_no_resize.true ∙ c.has_no_resize.ensures)))

pub returns-in_default : goal.returns-in_default
returns-in_default c =
    let l = c.args.l.now in
    let len : length l.note ≡ 6 = search rules in
    elim c.in_default.branch [
      | in_default-via-in-Some+else-has_no_resize w ↦
          let got : w.in-Some.calls.now ≡ take l.count l.note = search (rules, w.in-Some.ensures.lookup) in
          let few : l.count ≤ 6 = omega (arith, w.in-Some.ensures.lookup) in
          (refl, unfit_short l few len false (rw (← got) (sym w.if-has_no_resize.false ∙ w.has_no_resize.ensures)))
      | in_default-via-in_default w ↦ let past : 6 < l.count = grind (arith, w.in_default.ensures.lookup) in (refl, list_long l past)
    ]
