use Rattle.std.proofs.Common.{◌≡◌, ◌*◌, ◌∙◌, sym, ap, subst, w64}
use Rattle.std.specs.Int.{from_le_bytes}
use Rattle.std.proofs.lemmas.Nat.{from_le_bytes-to_le_bytes_8}
use Rattle.m4_model.specs.Field.{gf2, width}
use Rattle.m4_model.specs.Matrix.{Matrix, matrix_of}
use Rattle.m4_field.specs.Fields.{the_field}
use Rattle.m4_mzed.specs.Owned.{e_matrix}
use Rattle.m4_mzed.specs.PackedIn.{IsPackedIn}
use Rattle.m4_gen.specs.Source.{masked_bit}
use Rattle.m4_gen.proofs.GeneratedLemmas.{filled_bits, filled_packed, filled_shows}
use Rattle.m4_gen.proofs.matrix.generate.Goals.{After-put_all}
use Rattle.m4_gen.proofs.matrix.generate.Goals as goal

-- the matrix of bits
bits_are : (c : After-put_all) → c.put_all.new.self ≡ matrix_of gf2 c.args.rows (c.args.cols * width (the_field c.args.field))
    (masked_bit (c.args.cols * width (the_field c.args.field)) c.element_bits.result c.args.seed)
bits_are c =
    filled_bits (the_field c.args.field) c.args.rows c.args.cols c.width.result c.element_bits.result c.args.seed c.from_seed-source.result
    c.all_mut-whole.result.0 c.fill.new.whole c.in_ok-bits.bits c.put_all.new.self c.width.ensures.width c.in_ok-bits.ensures c.all_mut-whole.ensures.content
    (c.from_seed-source.ensures ∙ ap (from_le_bytes w64) c.to_le_bytes.ensures ∙ from_le_bytes-to_le_bytes_8 c.args.seed c.ranges.seed.fits)
    c.fill.ensures c.put_all.ensures

pub of_packed-requires : goal.of_packed-requires
of_packed-requires c =
    let P : Matrix → Type 0 = λ B. IsPackedIn (the_field c.args.field) c.args.cols B in
    subst P (sym (bits_are (goal.at.of_packed-requires c).After-put_all))
    (filled_packed (the_field c.args.field) c.width.ensures.field c.args.rows c.args.cols c.element_bits.result c.args.seed c.element_bits.ensures)

pub returns : goal.returns
returns c =
    c.of_packed.ensures ∙ ap (λ (B : Matrix). e_matrix (the_field c.args.field) c.args.cols B) (bits_are (goal.at.returns c).After-put_all)
    ∙ filled_shows (the_field c.args.field) c.width.ensures.field c.args.rows c.args.cols c.element_bits.result c.args.seed c.element_bits.ensures
