use Rattle.std.proofs.Common.{◌≡◌, ◌∙◌, ◌+◌, ◌-◌, ◌<◌, inl, inr, ◌++◌, length, slice_index, map, take, drop, set, sym, ap, arith, ext_get_or, get_or-set_same, get_or-take, get_or-drop}
use Rattle.std.proofs.lemmas.Bool.{cases_eq, cases_lt}
use Rattle.std.proofs.lemmas.List.{length-set, length-map, length-append, length-take-le, length-drop, get_or-map, get_or-set_other, get_or_append_left, get_or-append_right}
use Rattle.m4_eple.proofs.raise.raise.Goals as goal

pub loop-i-preserved : goal.loop-i-preserved
loop-i-preserved c =
    let now = c.loop-i.list in
    let i = c.loop-i.i in
    let inv = c.loop-i.invariant in
    let new = slice_index now i + c.args.by in
    let high : i < length now = omega (arith, c.loop-i-test.true, inv.long, c.requires.within) in
    record {
      long = length-set now i new ∙ inv.long;
      done = λ k below. elim (cases_eq k i) [
        | inl here ↦ ap (slice_index (set now i new)) here ∙ get_or-set_same now i new 0 high ∙ ap (λ x. x + c.args.by) (inv.rest i (omega arith)) ∙ ap (λ j. slice_index c.args.list.now j + c.args.by) (sym here)
        | inr away ↦ get_or-set_other now i k new 0 away ∙ inv.done k (omega (arith, below, away))
      ];
      rest = λ k behind. get_or-set_other now i k new 0 (λ here. absurd (omega (arith, here, behind))) ∙ inv.rest k (omega (arith, behind));
    }

pub returns : goal.returns
returns c =
    let old = c.args.list.now in
    let by = c.args.by in
    let n = c.args.count in
    let front : length (map (λ j. j + by) (take n old)) ≡ n = length-map (take n old) (λ j. j + by) ∙ length-take-le n old c.requires.within in
    let long : length (map (λ j. j + by) (take n old) ++ drop n old) ≡ length old =
    omega (arith, length-append (map (λ j. j + by) (take n old)) (drop n old), front, length-drop n old, c.requires.within) in
    ext_get_or 0 c.loop-i.list (map (λ j. j + by) (take n old) ++ drop n old) (c.loop-i.invariant.long ∙ sym long)
    (λ k below. elim (cases_lt k n) [
      | inl early ↦
          c.loop-i.invariant.done k (omega (arith, early, c.loop-i-test.false))
          ∙ sym (get_or_append_left (map (λ j. j + by) (take n old)) (drop n old) 0 k (omega (arith, early, front))
          ∙ get_or-map (λ j. j + by) (take n old) k 0 0 (omega (arith, early, length-take-le n old c.requires.within)) ∙ ap (λ x. x + by) (get_or-take n old k 0 early))
      | inr late ↦
          let place : n + (k - n) ≡ k = omega (arith, late) in
          c.loop-i.invariant.rest k (omega (arith, late, c.loop-i.auto.i-end))
          ∙ sym (get_or-append_right (map (λ j. j + by) (take n old)) (drop n old) n k 0 front late ∙ get_or-drop n old (k - n) 0 ∙ ap (slice_index old) place)
    ])
