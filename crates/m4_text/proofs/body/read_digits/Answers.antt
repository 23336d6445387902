use Rattle.std.proofs.Common.{◌≡◌, ◌*◌, List, ℕ, length, take, drop, arith, subst}
use Rattle.m4_bits.specs.Digits.{digits_of}
use Rattle.m4_text.proofs.WordRows.{digits_cut, digits_read, window_more}
use Rattle.m4_text.proofs.body.read_digits.Goals as goal

pub loop-w-preserved : goal.loop-w-preserved
loop-w-preserved c =
    let digits = c.args.digits.now in
    let w = c.loop-w.w in
    let whole = c.args.whole.now in
    let cut = digits_cut digits (64 * w) c.min-end.result c.min-end.ensures in
    let spelled : take 64 (drop (64 * w) digits) ≡ digits_of c.in-Some.word (length (take 64 (drop (64 * w) digits))) =
    subst (λ (l : List ℕ). l ≡ digits_of c.in-Some.word (length l)) cut c.in-Some.ensures.word in
    record {
      digits = digits_read digits w c.in-Some.word _ c.loop-w.invariant.digits spelled;
      window = window_more whole c.loop-w.whole c.set_word.new.self c.args.r digits w c.in-Some.word
          (omega (arith, c.cols.ensures.shape.matrix.height)) (omega (arith, c.cols.ensures.shape.matrix.width c.args.r c.requires.in_rows))
          c.loop-w.invariant.window c.set_word.ensures spelled;
    }
