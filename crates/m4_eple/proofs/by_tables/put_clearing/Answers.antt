use Rattle.std.proofs.Common.{◌≡◌, ◌<◌, ◌+◌, ◌^◌, ℕ, List, length, replicate, get_or, set, refl, sym, ◌∙◌, ap, ap₂, subst, arith, bit_xor}
use Rattle.std.specs.Int.Bits.{xor_lt}
use Rattle.m4_model.specs.Field.{Field}
use Rattle.m4_model.specs.Matrix.{row}
use Rattle.m4_mzd.specs.Rows.{sum_from}
use Rattle.m4_mzed.specs.EWindow.{EWindow, content}
use Rattle.m4_mzed.specs.ESeen.{e_shown}
use Rattle.m4_mzed.specs.Rows.{multiples}
use Rattle.m4_trsm.proofs.Triangles.{one_element}
use Rattle.m4_eple.specs.Clearing.{IsClearing}
use Rattle.m4_eple.proofs.ClearingLemmas.{clearing_made, row_written, rows_written, still_showing}
use Rattle.m4_eple.proofs.by_tables.put_clearing.Goals as goal

pub put-requires-clause-element : goal.put-requires-clause-element
put-requires-clause-element c =
    let over = ap (λ (w : EWindow). w.field) c.add_tail.ensures ∙ ap (λ (w : EWindow). w.field) c.clear_row.ensures in
    subst (λ (F : Field). 1 < 2 ^ F.degree) (sym over) (one_element c.args.part.now.field c.rows-rows.ensures.matrix.over_field)

pub put-requires-2-clause-element : goal.put-requires-2-clause-element
put-requires-2-clause-element c =
    let over = ap (λ (w : EWindow). w.field) c.put.ensures ∙ ap (λ (w : EWindow). w.field) c.add_tail.ensures ∙ ap (λ (w : EWindow). w.field) c.clear_row.ensures in
    xor_lt c.put.new.self.field.degree c.get-held.result c.args.inverse c.get-held.ensures.element
    (subst (λ (F : Field). c.args.inverse < 2 ^ F.degree) (sym over) c.requires.element)

pub returns-clause-kept : goal.returns-clause-kept
returns-clause-kept c =
    let W = c.args.part.now in
    let first = still_showing W W c.clear_row.new.self _ refl c.clear_row.ensures in
    let second = still_showing W c.clear_row.new.self c.add_tail.new.self _ first c.add_tail.ensures in
    let third = still_showing W c.add_tail.new.self c.put.new.self _ second c.put.ensures in
    still_showing W c.put.new.self c.put-2.new.self _ third c.put-2.ensures

pub returns-clause-clearing : goal.returns-clause-clearing
returns-clause-clearing c =
    let W = c.args.part.now in
    let xs = row (e_shown c.args.a.now) c.args.r in
    let n = length xs in
    let r = c.args.r in
    let k = c.args.c in
    let inverse = c.args.inverse in
    let U = c.clear_row.new.self in
    let V = c.add_tail.new.self in
    let T = c.put.new.self in
    let S = c.put-2.new.self in
    let wide : n ≡ W.cols = c.rows-rows_of_a.ensures.matrix.width r c.requires.in_rows ∙ c.requires.same_cols in
    let tall : length W.entries ≡ 1 = c.rows-rows.ensures.matrix.height ∙ c.requires.one_row in
    let u_tall : length U.entries ≡ 1 = rows_written W U 0 _ c.clear_row.ensures ∙ tall in
    let v_tall : length V.entries ≡ 1 = rows_written U V 0 _ c.add_tail.ensures ∙ u_tall in
    let t_tall : length T.entries ≡ 1 = rows_written V T 0 _ c.put.ensures ∙ v_tall in
    let over : U.field ≡ W.field = ap (λ (w : EWindow). w.field) c.clear_row.ensures in
    let sum = sum_from (k + 1) (replicate n 0) (multiples W.field inverse xs) in
    let cleared : row (content U) 0 ≡ replicate n 0 = row_written W U 0 _ c.clear_row.ensures (omega (arith, tall)) ∙ ap (λ (j : ℕ). replicate j 0) (sym wide) in
    let added : row (content V) 0 ≡ sum
    = row_written U V 0 _ c.add_tail.ensures (omega (arith, u_tall)) ∙ ap₂ (λ (ys : List ℕ) (F : Field). sum_from (k + 1) ys (multiples F inverse xs)) cleared over in
    let one : row (content T) 0 ≡ set sum k 1 = row_written V T 0 _ c.put.ensures (omega (arith, v_tall)) ∙ ap (λ (ys : List ℕ). set ys k 1) added in
    let made : row (content S) 0 ≡ set (set sum k 1) r (bit_xor (get_or (set sum k 1) r 0) inverse)
    = row_written T S 0 _ c.put-2.ensures (omega (arith, t_tall))
    ∙ ap (λ (x : ℕ). set (row (content T) 0) r (bit_xor x inverse)) c.get-held.ensures.value
    ∙ ap (λ (ys : List ℕ). set ys r (bit_xor (get_or ys r 0) inverse)) one in
    subst (IsClearing W.field inverse r k xs) (sym made)
    (clearing_made W.field inverse r k xs c.requires.behind (omega (arith, wide, c.requires.in_cols)))
