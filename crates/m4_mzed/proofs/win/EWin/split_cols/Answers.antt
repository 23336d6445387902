use Rattle.std.proofs.Common.{◌-◌, ◌*◌, ◌/◌, ◌+◌, ℕ, [], take, drop, map, refl, sym, ap, subst, ◌∙◌}
use Rattle.m4_model.specs.Matrix.{Matrix}
use Rattle.m4_field.specs.Fields.{the_field}
use Rattle.m4_model.specs.Field.{width}
use Rattle.m4_mzd.specs.Seen.{shown}
use Rattle.m4_mzd.specs.Window.{Window}
use Rattle.m4_mzd.specs.Window.{content as bit_content}
use Rattle.m4_mzed.specs.EWindow.{content}
use Rattle.m4_mzed.specs.Owned.{e_matrix}
use Rattle.m4_mzed.specs.PackedIn.{IsPackedIn}
use Rattle.m4_mzed.proofs.PartLemmas.{packed_left, packed_right, elements_left, elements_right}
use Rattle.m4_mzed.proofs.SeenLemmas.{as_window, packed_as_window, packed_as_matrix}
use Rattle.m4_mzed.specs.declared.win.EWin.{EWin}
use Rattle.m4_mzed.proofs.win.EWin.split_cols.Goals as goal

abbrev left_of : EWin → ℕ → Window
left_of v b = let w = as_window (shown v.bits) in record w { cols = b; bits = map (take b) w.bits; past = map (λ _. []) w.past }

abbrev right_of : EWin → ℕ → Window
right_of v b = let w = as_window (shown v.bits) in record w { skip = w.skip + b / 64; cols = w.cols - b; bits = map (drop b) w.bits }

pub invariant_of-result : goal.invariant_of-result
invariant_of-result c =
    let v = c.args.self in
    let F = the_field v.field in
    let P : Matrix → Type 0 = IsPackedIn F c.args.c in
    record {
      packed = subst P (sym (c.split_cols.ensures.left ∙ ap (λ b. bit_content (left_of v b)) c.first_bit.ensures))
          (packed_as_matrix F c.args.c (left_of v (c.args.c * width F))
          (packed_left F v.cols (as_window (shown v.bits)) (packed_as_window F v.cols (shown v.bits) v.packed) c.args.c (left_of v (c.args.c * width F)) c.requires.within refl));
    }

pub invariant_of-result-2 : goal.invariant_of-result-2
invariant_of-result-2 c =
    let v = c.args.self in
    let F = the_field v.field in
    let P : Matrix → Type 0 = IsPackedIn F (v.cols - c.args.c) in
    record {
      packed = subst P (sym (c.split_cols.ensures.right ∙ ap (λ b. bit_content (right_of v b)) c.first_bit.ensures))
          (packed_as_matrix F (v.cols - c.args.c) (right_of v (c.args.c * width F))
          (packed_right F v.cols (as_window (shown v.bits)) (packed_as_window F v.cols (shown v.bits) v.packed) c.args.c (right_of v (c.args.c * width F)) c.requires.within refl));
    }

pub returns-clause-left : goal.returns-clause-left
returns-clause-left c =
    let v = c.args.self in
    let F = the_field v.field in
    ap (e_matrix F c.args.c) (c.split_cols.ensures.left ∙ ap (λ b. bit_content (left_of v b)) c.first_bit.ensures)
    ∙ ap content (elements_left F v.cols (as_window (shown v.bits)) (packed_as_window F v.cols (shown v.bits) v.packed) c.args.c (left_of v (c.args.c * width F)) c.requires.within refl)

pub returns-clause-right : goal.returns-clause-right
returns-clause-right c =
    let v = c.args.self in
    let F = the_field v.field in
    ap (e_matrix F (v.cols - c.args.c)) (c.split_cols.ensures.right ∙ ap (λ b. bit_content (right_of v b)) c.first_bit.ensures)
    ∙ ap content (elements_right F v.cols (as_window (shown v.bits)) (packed_as_window F v.cols (shown v.bits) v.packed) c.args.c (right_of v (c.args.c * width F)) c.requires.within refl)
