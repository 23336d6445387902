use Rattle.std.proofs.Common.{◌≡◌, ◌<◌, ◌+◌, length, arith, ap, sym, ◌∙◌, if◌then◌else◌, [], ◌∷◌, length-append}
use Rattle.m4_model.specs.Matrix.{row, at}
use Rattle.m4_text.proofs.Columns.{columns_so_far, columns_begin, column_passed, column_found}
use Rattle.m4_text.proofs.jcf_write.count_ones_in.Goals as goal
use Rattle.m4_text.proofs.jcf_write.count_ones_in.Goals.{then-get, else-get}

pub loop-c-init : goal.loop-c-init
loop-c-init c = record { counted = sym (ap length (columns_begin (row c.args.m.now c.args.r))); few = omega arith }

pub loop-c-preserved : goal.loop-c-preserved
loop-c-preserved c =
    let entries = row c.args.m.now c.args.r in
    let shape = c.cols-c-end.ensures in
    let inside : c.loop-c.c < length entries = omega (arith, shape.matrix.width c.args.r c.requires, shape.cols) in
    elim c.if-get.branch [
      | then-get w ↦
          let one : at c.args.m.now c.args.r c.loop-c.c ≡ 1 = c.get.ensures.value ∙ ap (λ b. if b then 1 else 0) w.if-get.true in
          let found = column_found entries c.loop-c.c inside one in
          let counted : c.if-get.count ≡ length (columns_so_far entries (c.loop-c.c + 1)) =
          omega (arith, w.count-is, c.loop-c.invariant.counted, ap length found, length-append (columns_so_far entries c.loop-c.c) ((c.loop-c.c + 1) ∷ [])) in
          record { counted = counted; few = omega (arith, w.count-is) }
      | else-get w ↦
          let zero : at c.args.m.now c.args.r c.loop-c.c ≡ 0 = c.get.ensures.value ∙ ap (λ b. if b then 1 else 0) w.if-get.false in
          let passed = column_passed entries c.loop-c.c inside zero in
          record { counted = w.count-is ∙ c.loop-c.invariant.counted ∙ ap length (sym passed); few = omega (arith, w.count-is) }
    ]
