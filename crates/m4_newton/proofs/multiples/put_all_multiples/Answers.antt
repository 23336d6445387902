use Rattle.std.proofs.Common.{◌≡◌, ℕ, ◌+◌, ◌*◌, ◌^◌, ◌<◌, ◌∙◌, ap, refl, sym, subst, arith}
use Rattle.m4_model.specs.Field.{Field, IsCarried, width}
use Rattle.m4_model.specs.Matrix.{row}
use Rattle.m4_field.specs.Fields.{the_field}
use Rattle.m4_field.proofs.WidthLemmas.{width_facts}
use Rattle.m4_mzed.specs.EWindow.{EWindow, content}
use Rattle.m4_mzed.specs.ESeen.{e_shown}
use Rattle.m4_mzed.specs.Rows.{multiples}
use Rattle.m4_newton.specs.Multiples.{HasMultiples}
use Rattle.m4_newton.proofs.PowerLemmas.{more_rows, rows_fit, no_rows}
use Rattle.m4_newton.proofs.multiples.put_all_multiples.Goals as goal

pub loop-t-init : goal.loop-t-init
loop-t-init g c = record { kept = refl; multiples = no_rows (content c.args.m.now) (e_shown c.args.b.now); ticks = omega arith }

pub put_multiples-requires-clause-in_rows : goal.put_multiples-requires-clause-in_rows
put_multiples-requires-clause-in_rows g c =
    let now = c.loop-t.m in
    let field : the_field c.field.result ≡ now.field = c.field.ensures ∙ sym (ap (λ (v : EWindow). v.field) c.loop-t.invariant.kept) in
    let wide : c.width-width.result ≡ width now.field = c.width-width.ensures.width ∙ ap width field in
    let place : c.loop-t.t * c.width-width.result ≡ c.loop-t.t * width now.field = ap (λ k. c.loop-t.t * k) wide in
    let rows : now.rows ≡ (e_shown c.args.b.now).rows * width now.field
    = ap (λ (v : EWindow). v.rows) c.loop-t.invariant.kept ∙ c.requires.rows ∙ ap (λ (F : Field). (e_shown c.args.b.now).rows * width F) (sym (ap (λ (v : EWindow). v.field) c.loop-t.invariant.kept)) in
    let fit = rows_fit c.loop-t.t (e_shown c.args.b.now).rows (width now.field) now.field.degree now.rows (omega (arith, c.loop-t-test.true, c.rows-t-end.ensures.rows))
    (width_facts now.field (subst IsCarried field c.width-width.ensures.field)).room rows in
    omega (arith, fit, place)

pub put_multiples-requires-clause-same_cols : goal.put_multiples-requires-clause-same_cols
put_multiples-requires-clause-same_cols g c = c.requires.same_cols ∙ sym (ap (λ (v : EWindow). v.cols) c.loop-t.invariant.kept)

pub put_multiples-requires-clause-same_field : goal.put_multiples-requires-clause-same_field
put_multiples-requires-clause-same_field g c = c.requires.same_field ∙ sym (ap (λ (v : EWindow). v.field) c.loop-t.invariant.kept)

pub loop-t-preserved : goal.loop-t-preserved
loop-t-preserved g c =
    let now = c.loop-t.m in
    let B = e_shown c.args.b.now in
    let next = c.put_multiples.new.m in
    let t = c.loop-t.t in
    let P : ℕ → Type 0 = λ k. (u : ℕ) → u < now.field.degree → row (content next) (t * k + u) ≡ multiples now.field (2 ^ u) (row B t) in
    let Q : ℕ → Type 0 = λ k. (i : ℕ) → i < t * k → row (content next) i ≡ row (content now) i in
    let wide : c.width-width.result ≡ width now.field
    = c.width-width.ensures.width ∙ ap width (c.field.ensures ∙ sym (ap (λ (v : EWindow). v.field) c.loop-t.invariant.kept)) in
    let is_carried : IsCarried now.field
    = subst IsCarried (c.field.ensures ∙ sym (ap (λ (v : EWindow). v.field) c.loop-t.invariant.kept)) c.width-width.ensures.field in
    let more = more_rows c.args.m.now now next B t is_carried c.loop-t.invariant.kept c.put_multiples.ensures.kept
    (subst P wide c.put_multiples.ensures.powers) (subst Q wide c.put_multiples.ensures.before) c.loop-t.invariant.multiples in
    record { kept = more.0; multiples = more.1; ticks = omega (arith, c.tick.ensures, c.loop-t.invariant.ticks) }

pub returns-clause-kept : goal.returns-clause-kept
returns-clause-kept g c = c.loop-t.invariant.kept

pub returns-clause-multiples : goal.returns-clause-multiples
returns-clause-multiples g c =
    let P : ℕ → Type 0 = HasMultiples (content c.loop-t.m) (e_shown c.args.b.now) in
    subst P (omega (arith, c.rows-t-end.ensures.rows, c.loop-t-test.false, c.loop-t.auto.t-end)) c.loop-t.invariant.multiples

pub returns-clause-ticks : goal.returns-clause-ticks
returns-clause-ticks g c = omega (arith, c.loop-t.invariant.ticks, c.rows-t-end.ensures.rows, c.loop-t-test.false, c.loop-t.auto.t-end)
