use Rattle.std.proofs.Common.{IfOk, IfErr, sym, subst, subst₂}
use Rattle.m4_model.specs.Matrix.{Matrix}
use Rattle.m4_text.specs.Place.{GoesWrong, IsBareOf}
use Rattle.m4_text.specs.Reading.{ReadsLines}
use Rattle.m4_text.proofs.body.read_lines.Goals as goal

pub returns : goal.returns
returns c =
    let bytes = c.args.bytes.now in
    record {
      ok = subst₂ (λ (a b : Matrix). IfOk c.read_window-end.result (ReadsLines bytes a b)) c.all_mut-whole.ensures.content (sym c.put_all.ensures) c.read_window-end.ensures.ok;
      err = subst (λ (a : Matrix). IfErr c.read_window-end.result (GoesWrong (IsBareOf a.rows a.cols) bytes)) c.all_mut-whole.ensures.content c.read_window-end.ensures.err;
    }
