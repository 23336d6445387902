use Rattle.std.proofs.Common.{ℕ, List, ◌++◌, Err, IfErr, sym, ◌∙◌, ap, subst}
use Rattle.m4_etext.specs.FormFaults.{IsFaultOfAllIn}
use Rattle.m4_etext.specs.FormReading.{Fed, StandsForText}
use Rattle.m4_etext.proofs.FormReaders.{headed_feed_fails, bare_feed_fails, bits_feed_fails}
use Rattle.m4_etext.proofs.form_reader.Reader.feed.Goals.{in-OfHeaded, in-OfBare, in-OfJcf+in-Ok, in-OfJcf+in-Err}
use Rattle.m4_etext.proofs.form_reader.Reader.feed.Goals as goal

pub returns-clause-err : goal.returns-clause-err
returns-clause-err c =
    let r : Fed = record { form = c.self.inside.form; part = c.self.inside.part } in
    let piece = c.args.piece.now in
    subst (λ (r : Fed). IfErr c.match-self.result (λ fault. (bytes : List ℕ) → StandsForText r bytes → IsFaultOfAllIn r.form (bytes ++ piece) fault)) c.self.view_is
    (elim c.match-self.branch [
      | in-OfHeaded w ↦ headed_feed_fails r w.in-OfHeaded.reader _ piece w.feed.result c.match-self.result w.in-OfHeaded.is c.self.invariant w.in-OfHeaded.reader-is w.result-is w.feed.ensures.err
      | in-OfBare w ↦ bare_feed_fails r w.in-OfBare.reader _ piece w.feed-in-OfBare.result c.match-self.result w.in-OfBare.is c.self.invariant w.in-OfBare.reader-is w.result-is w.feed-in-OfBare.ensures.err
      | in-OfJcf+in-Ok w ↦
          subst (λ x. IfErr x (λ fault. (bytes : List ℕ) → StandsForText r bytes → IsFaultOfAllIn r.form (bytes ++ piece) fault)) (sym w.result-is) tt
      | in-OfJcf+in-Err w ↦
          bits_feed_fails r w.in-OfJcf.reader _ w.feed-in-OfJcf.new.self piece w.in-Err.fault c.match-self.result w.in-OfJcf.is c.self.invariant w.in-OfJcf.reader-is
          (w.result-is ∙ ap Err w.over_bits.ensures) w.in-Err.ensures.stands w.in-Err.ensures.err
    ])
