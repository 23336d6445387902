use Rattle.std.proofs.Common.{◌≡◌, ℕ, ◌*◌, ◌<◌, ◌≤◌, sym, ap, ◌∙◌, arith}
use Rattle.std.proofs.lemmas.List.Elements.{All-from_get_or}
use Rattle.m4_model.specs.Field.{width}
use Rattle.m4_model.specs.Matrix.{row, with_row}
use Rattle.m4_field.specs.Fields.{the_field}
use Rattle.m4_mzd.specs.Rows.{sum_from}
use Rattle.m4_mzd.specs.Seen.{shown}
use Rattle.m4_mzd.specs.Window.{content, showing}
use Rattle.m4_mzed.specs.Rows.{packed_multiples}
use Rattle.m4_mzed.proofs.AddedRows.{nothing_added}
use Rattle.m4_mzed.proofs.IndexLemmas.{AreBits}
use Rattle.m4_mzed.proofs.ProductLemmas.{multiples_one}
use Rattle.m4_mzed.proofs.row.add_scaled.Goals as goal

pub returns-then-x-eq1 : goal.returns-then-x-eq1
returns-then-x-eq1 c =
    let F = the_field c.args.f.now in
    let W = c.args.bits.now in
    let r = c.args.r in
    let zs = row (shown c.args.from.now) c.args.s in
    let bits : AreBits zs = All-from_get_or (λ b. b < 2) zs 0 (λ j within. c.rows-from.ensures.matrix.elements c.args.s j c.requires.in_from (let l = c.rows-from.ensures.matrix.width c.args.s c.requires.in_from in omega (arith, l, within))) in
    let one : packed_multiples F c.args.cols c.args.x zs ≡ zs = ap (λ x. packed_multiples F c.args.cols x zs) c.if-x-eq1.true ∙ multiples_one F c.width.ensures.field c.args.cols zs c.requires.source bits in
    c.add_tail.ensures
    ∙ ap (λ k. showing W (with_row (content W) r (sum_from (c.args.c * k) (row (content W) r) zs))) c.width.ensures.width
    ∙ ap (λ l. showing W (with_row (content W) r (sum_from (c.args.c * width F) (row (content W) r) l))) (sym one)

times_le : (a b k n : ℕ) → a ≤ b → n ≡ b * k → a * k ≤ n
times_le a b k n le is = let m : a * k ≤ b * k = grind arith in omega (arith, m, is)

pub returns-else-x-ne0 : goal.returns-else-x-ne0
returns-else-x-ne0 c =
    let F = the_field c.args.f.now in
    let W = c.args.bits.now in
    let r = c.args.r in
    let zs = row (shown c.args.from.now) c.args.s in
    let none : c.args.x ≡ 0 = let t = c.if-x-ne0.false in omega (arith, t) in
    nothing_added F c.width.ensures.field c.args.cols (c.args.c * width F) r zs W c.rows-rows.ensures.shape c.requires.in_rows
    (times_le c.args.c c.args.cols (width F) W.cols c.requires.in_cols c.requires.wide)
    (c.rows-from.ensures.matrix.width c.args.s c.requires.in_from ∙ c.requires.same_cols)
    ∙ ap (λ x. showing W (with_row (content W) r (sum_from (c.args.c * width F) (row (content W) r) (packed_multiples F c.args.cols x zs)))) (sym none)
