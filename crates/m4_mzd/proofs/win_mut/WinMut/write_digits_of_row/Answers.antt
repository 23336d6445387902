use Rattle.std.proofs.Common.{◌<◌, ℕ, length, sym, arith, ◌==◌, if◌then◌else◌}
use Rattle.std.proofs.lemmas.List.{length-map, get_or-map}
use Rattle.m4_mzd.specs.Rows.{bits_of_digits}
use Rattle.m4_mzd.proofs.ListedLemmas.{begun_more}
use Rattle.m4_mzd.proofs.win_mut.WinMut.write_digits_of_row.Goals as goal

pub loop-c-preserved : goal.loop-c-preserved
loop-c-preserved c =
    let digits = c.args.digits.now in
    let shape = c.cols-c-end.ensures.shape in
    let f : ℕ → ℕ = λ byte. if byte == 49 then 1 else 0 in
    let inside : c.loop-c.c < length digits = omega (arith, c.cols-c-end.ensures.cols, c.requires.wide, c.loop-c-test.true) in
    record {
      so_far = begun_more c.args.self.now c.loop-c.self c.put.new.self c.args.r c.loop-c.c _ (bits_of_digits digits)
          (omega (arith, shape.matrix.height, c.requires.in_rows))
          (omega (arith, length-map digits f))
          (omega (arith, shape.matrix.width c.args.r c.requires.in_rows, c.cols-c-end.ensures.cols, c.loop-c-test.true))
          (sym (get_or-map f digits c.loop-c.c 0 0 inside)) c.loop-c.invariant.so_far c.put.ensures;
      all = c.cols-c-end.ensures.cols;
    }
