use Rattle.std.proofs.Common.{◌-◌, take, drop, map, subst, ap, ◌∙◌}
use Rattle.m4_model.specs.Matrix.{Matrix, IsMatrix}
use Rattle.m4_mzd.proofs.CutLemmas.{cut_out-is}
use Rattle.m4_mzed.proofs.SeenLemmas.{seen_matrix}
use Rattle.m4_mzed.proofs.mzed.Mzed.win.Goals as goal

pub returns : goal.returns
returns c =
    let rect = c.args.rect in
    let n = rect.c1 - rect.c0 in
    let matrix : IsMatrix c.args.self.now = subst IsMatrix c.all.ensures (seen_matrix c.all.result) in
    c.narrow.ensures
    ∙ ap (λ (A : Matrix). record A { cols = n; entries = map (take n) A.entries }) c.split_cols.ensures.right
    ∙ ap (λ (A : Matrix). record A { cols = n; entries = map (take n) (map (drop rect.c0) A.entries) }) c.split_rows-2.ensures.below
    ∙ ap (λ (A : Matrix). record A { rows = A.rows - rect.r0; cols = n; entries = map (take n) (map (drop rect.c0) (drop rect.r0 A.entries)) }) c.split_rows.ensures.above
    ∙ ap (λ (A : Matrix). record A { rows = rect.r1 - rect.r0; cols = n; entries = map (take n) (map (drop rect.c0) (drop rect.r0 (take rect.r1 A.entries))) }) c.all.ensures
    ∙ cut_out-is c.args.self.now rect matrix c.requires.inside
