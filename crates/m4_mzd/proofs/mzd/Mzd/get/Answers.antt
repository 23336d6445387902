use Rattle.std.proofs.Common.{◌≡◌, sym, ap, ◌∙◌}
use Rattle.m4_model.specs.Matrix.{at}
use Rattle.m4_bits.specs.Bits.{bit}
use Rattle.m4_bits.proofs.BitsLemmas.{bit-lt}
use Rattle.m4_area.specs.Rectangle.{Rectangle}
use Rattle.m4_area.specs.Rows.{row_of}
use Rattle.m4_mzd.proofs.BitRows.{bit_from_test}
use Rattle.m4_mzd.proofs.HeldLemmas.{at_held}
use Rattle.m4_mzd.proofs.mzd.Mzd.get.Goals as goal
use Rattle.m4_mzd.proofs.mzd.Mzd.get.Goals.{After-get_bit}

-- the entry is the bit that was read
entry : (c : After-get_bit) → at c.args.self.now c.args.r c.args.c ≡ bit c.row.result.now c.args.c
entry c =
    at_held c.self.inside.words c.self.inside.cols c.args.r c.args.c c.args.self.now c.self.view_is c.self.invariant c.requires.in_rows c.requires.in_cols
    ∙ ap (λ row. bit row c.args.c) (sym (c.row.ensures.words ∙ ap (λ (v : Rectangle). row_of v.words c.args.r) c.words.ensures))

pub returns-clause-one : goal.returns-clause-one
returns-clause-one c = (λ is. entry c ∙ c.get_bit.ensures.0 is, λ one. c.get_bit.ensures.1 (sym (entry c) ∙ one))

pub returns-clause-value : goal.returns-clause-value
returns-clause-value c =
    entry c ∙ bit_from_test c.get_bit.result (bit c.row.result.now c.args.c) (bit-lt c.row.result.now c.args.c) c.get_bit.ensures
