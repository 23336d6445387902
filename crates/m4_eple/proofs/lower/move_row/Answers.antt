use Rattle.std.proofs.Common.{◌≡◌, ◌∙◌, ◌+◌, ◌-◌, ◌<◌, ℕ, List, [], length, replicate, ap, arith, get_or-set_same}
use Rattle.m4_model.specs.Matrix.{Matrix, row, with_row}
use Rattle.m4_mzd.specs.Parts.{part, with_part}
use Rattle.std.proofs.lemmas.List.{length-set}
use Rattle.m4_mzed.specs.EWindow.{EWindow, content, showing}
use Rattle.m4_mzed.specs.ESeen.{e_shown}
use Rattle.m4_trsm.proofs.RowSteps.{row_twice}
use Rattle.m4_eple.proofs.MoveLemmas.{part-zeros}
use Rattle.m4_eple.proofs.lower.move_row.Goals as goal

pub returns-clause-moved : goal.returns-clause-moved
returns-clause-moved c =
    let A = c.args.a.now in
    let S = c.args.spare.now in
    let i = c.args.i in
    let r = c.args.r in
    let left = c.args.left in
    let count = c.args.count in
    let mine = row (content A) i in
    let high : 0 < length S.entries = omega (arith, c.rows-spare.ensures.matrix.height, c.requires.one_row) in
    let zeros = replicate (left - r) 0 in
    let first : row (content c.copy_row.new.self) 0 ≡ mine =
    ap (λ (w : EWindow). row (content w) 0) c.copy_row.ensures ∙ get_or-set_same S.entries 0 _ [] high ∙ ap (λ (M : Matrix). row M i) c.see.ensures in
    let second : row (content c.clear_row.new.self) 0 ≡ replicate A.cols 0 =
    let long : 0 < length c.copy_row.new.self.entries =
    let same = ap (λ (w : EWindow). length w.entries) c.copy_row.ensures in omega (arith, same, length-set S.entries 0 (row (e_shown c.see.result) i), high) in
    ap (λ (w : EWindow). row (content w) 0) c.clear_row.ensures ∙ get_or-set_same c.copy_row.new.self.entries 0 _ [] long
    ∙ ap (λ (n : ℕ). replicate n 0) (ap (λ (w : EWindow). w.cols) c.copy_row.ensures ∙ c.requires.same_cols) in
    let one : c.copy_part.new.self ≡ showing A (with_row (content A) i (with_part r (part left count mine) mine)) =
    c.copy_part.ensures ∙ ap (λ (l : List ℕ). showing A (with_row (content A) i (with_part r (part left count l) mine)))
    (ap (λ (M : Matrix). row M 0) c.see-2.ensures ∙ first) in
    c.copy_part-2.ensures
    ∙ ap (λ (l : List ℕ). showing c.copy_part.new.self (with_row (content c.copy_part.new.self) i (with_part (r + count) (part 0 (left - r) l) (row (content c.copy_part.new.self) i))))
    (ap (λ (M : Matrix). row M 0) c.see-3.ensures ∙ second)
    ∙ ap (λ (l : List ℕ). showing c.copy_part.new.self (with_row (content c.copy_part.new.self) i (with_part (r + count) l (row (content c.copy_part.new.self) i))))
    (part-zeros (left - r) A.cols (omega (arith, c.requires.room)))
    ∙ ap (λ (w : EWindow). showing w (with_row (content w) i (with_part (r + count) zeros (row (content w) i)))) one
    ∙ row_twice A i (with_part r (part left count mine) mine) (with_part (r + count) zeros) (omega (arith, c.rows-rows.ensures.matrix.height, c.requires.in_rows))
