use Rattle.std.proofs.Common.{◌∙◌, arith}
use Rattle.std.proofs.lemmas.Result.{err_from_is_err_and}
use Rattle.m4_cmd.proofs.FileLemmas.{fed_step, refused_step}
use Rattle.m4_cmd.proofs.files.feed_rest.Goals as goal

pub returns-in_err-feed-clause-fails : goal.returns-in_err-feed-clause-fails
returns-in_err-feed-clause-fails g c =
    let s = g.S.Shelf.stock in
    let p = err_from_is_err_and c.from_residual-in_err-feed.result c.from_residual-in_err-feed.ensures.1 in
    rw (p.1, p.2) (
      c.in_ok-count.ensures.kept ∙ c.loop-fed.invariant.kept,
      refused_step (s c.args.shelf.now) (s c.loop-fed.shelf) (s c.read.new.self) (g.S.Shelf.started c.loop-fed.shelf) (g.S.Shelf.started c.read.new.self) (g.S.Shelf.rest c.args.shelf.now)
          (g.S.Shelf.rest c.loop-fed.shelf) (g.S.Shelf.rest c.read.new.self) (g.S.Shelf.faults c.args.shelf.now) (g.S.Shelf.faults c.loop-fed.shelf) (g.S.Shelf.faults c.read.new.self)
          c.args.reader.now.form c.loop-fed.fed c.in_ok-count.count c.loop-fed.reader c.read.new.into c.loop-fed.invariant c.in_ok-count.ensures.rest.0 c.in_err-feed.field-0.0
          c.in_err-feed.ensures.err,
    )

pub loop-fed-preserved : goal.loop-fed-preserved
loop-fed-preserved g c =
    let s = g.S.Shelf.stock in
    fed_step (s c.args.shelf.now) (s c.loop-fed.shelf) (s c.read.new.self) (g.S.Shelf.started c.loop-fed.shelf) (g.S.Shelf.started c.read.new.self) (g.S.Shelf.rest c.args.shelf.now)
    (g.S.Shelf.rest c.loop-fed.shelf) (g.S.Shelf.rest c.read.new.self) (g.S.Shelf.faults c.args.shelf.now) (g.S.Shelf.faults c.loop-fed.shelf) (g.S.Shelf.faults c.read.new.self)
    c.args.reader.now.form c.loop-fed.fed c.in_ok-count.count c.loop-fed.reader c.read.new.into c.loop-fed.invariant c.in_ok-count.ensures.rest.0
    c.feed.new.self c.in_ok-count.ensures.stock c.in_ok-count.ensures.started c.in_ok-count.ensures.kept c.in_ok-feed.ensures.form
    (let within = c.in_ok-count.ensures.count in let long = c.read.auto.into in omega (arith, within, long)) c.in_ok-feed.ensures.stands c.in_ok-feed.ensures.ok
