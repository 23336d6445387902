use Rattle.std.proofs.Common.{refl, arith, ◌≡◌, ◌∙◌, length}
use Rattle.m4_mzd.specs.Window.{content}
use Rattle.m4_mzd.specs.Parts.{with_words}
use Rattle.m4_mzd.proofs.PairLemmas.{copied_all}
use Rattle.m4_mzd.proofs.PlaceLemmas.{words_more, length-with_words}
use Rattle.m4_mzd.proofs.win_mut.WinMut.set_words.Goals as goal

pub loop-r-init : goal.loop-r-init
loop-r-init c = record { so_far = refl; all = c.rows-r-end.ensures.rows }

pub set_word-requires : goal.set_word-requires
set_word-requires c = rw c.loop-r.invariant.so_far (record {
  in_rows = omega (arith, c.rows-r-end.ensures.rows, c.loop-r-test.true);
  in_words = c.requires.in_words;
})

pub loop-r-preserved : goal.loop-r-preserved
loop-r-preserved c = record {
  so_far = words_more c.args.self.now c.loop-r.self c.set_word.new.self c.args.w c.loop-r.r c.args.words.now c.rows-r-end.ensures.shape
      (omega (arith, c.rows-r-end.ensures.rows, c.loop-r-test.true)) c.loop-r.invariant.so_far c.set_word.ensures;
  all = c.rows-r-end.ensures.rows;
}

pub returns : goal.returns
returns c =
    let rows = (with_words c.args.w c.args.words.now (content c.args.self.now)).entries in
    let many : length rows ≡ c.args.self.now.rows = length-with_words c.args.w c.args.words.now (content c.args.self.now) in
    c.loop-r.invariant.so_far
    ∙ copied_all c.args.self.now rows c.loop-r.r
    (omega (arith, many, c.rows-r-end.ensures.rows, c.loop-r.auto.r-end, c.loop-r-test.false))
    (omega (arith, c.rows-r-end.ensures.shape.matrix.height, c.rows-r-end.ensures.rows, c.loop-r.auto.r-end, c.loop-r-test.false))
