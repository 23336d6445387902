use Rattle.std.proofs.Common.{◌⊎◌, ◌+◌, ◌<◌, ◌++◌, ℕ, List, length, take, drop, inl, inr, sym, ◌∙◌, ap, subst, subst₂, arith}
use Rattle.std.proofs.lemmas.Result.{err_from_is_err_and}
use Rattle.std.proofs.lemmas.List.{take_rest}
use Rattle.m4_model.specs.declared.form.Form.TheVariants.{Bare}
use Rattle.m4_model.specs.Headed.{Bits}
use Rattle.m4_etext.specs.Pieces.{Stops}
use Rattle.m4_etext.specs.declared.fault.TextFault.TheVariants.{Bad}
use Rattle.m4_etext.specs.BareRows.{KeptRows, StandsForFirst, StandsForRows}
use Rattle.m4_etext.specs.FormFaults.{IsFaultOfAllIn}
use Rattle.m4_etext.proofs.BareMoves.{parted_whole, first_past, first_more, first_ended, first_wrong}
use Rattle.m4_etext.proofs.first_line.FirstLine.feed.Goals.{then-taken-gt0-via-then-taken-gt0, then-taken-gt0-via-else-taken-gt0+then-taken-gt-MOST_COLS}
use Rattle.m4_etext.proofs.first_line.FirstLine.feed.Goals as goal

pub returns-then-taken-gt0-clause-err : goal.returns-then-taken-gt0-clause-err
returns-then-taken-gt0-clause-err c = λ bytes stands.
    let t = c.take_lines-taken in
    let many : (0 < t.result.row) ⊎ (65536 < t.result.place) = elim c.then-taken-gt0.branch [
      | then-taken-gt0-via-then-taken-gt0 w ↦ inl (omega (arith, w.if-taken-gt0.true))
      | then-taken-gt0-via-else-taken-gt0+then-taken-gt-MOST_COLS w ↦ inr (omega (arith, w.if-taken-gt-MOST_COLS.true))
    ] in
    first_past c.self.inside.digits t.new.m c.self.inside.cols t.result.row t.result.place t.result.len c.args.piece.now t.ensures.field t.ensures.shape_rows t.ensures.shape_cols t.ensures.read many
    bytes (subst (λ (x : KeptRows). StandsForFirst x bytes) (sym c.self.view_is) stands)

pub returns-then-taken-piece-clause-more : goal.returns-then-taken-piece-clause-more
returns-then-taken-piece-clause-more c = λ bytes stands.
    let t = c.take_lines-taken in
    first_more c.self.inside.digits t.new.m c.self.inside.cols t.result.row t.result.place t.result.len c.args.piece.now t.ensures.field t.ensures.shape_rows t.ensures.shape_cols t.ensures.read
    (omega arith) (omega arith) (omega arith) bytes (subst (λ (x : KeptRows). StandsForFirst x bytes) (sym c.self.view_is) stands)

pub returns-then-piece-taken-ne10-clause-err : goal.returns-then-piece-taken-ne10-clause-err
returns-then-piece-taken-ne10-clause-err c = λ bytes stands.
    let t = c.take_lines-taken in
    let within = t.ensures.within in
    let inside : t.result.len < length c.args.piece.now = omega (arith, within) in
    subst (λ (p : ℕ). IsFaultOfAllIn Bare (bytes ++ c.args.piece.now) (Bad p)) (sym c.from.ensures)
    (first_wrong c.self.inside.digits t.new.m c.self.inside.cols t.result.row t.result.place t.result.len c.args.piece.now t.ensures.field t.ensures.shape_rows t.ensures.shape_cols t.ensures.read
    (omega arith) (omega arith) inside
    (subst₂ (λ m n. Stops Bits m n t.result.row t.result.place (drop t.result.len c.args.piece.now)) (sym t.ensures.shape_rows) (sym t.ensures.shape_cols) (t.ensures.stops inside))
    (λ end. omega (arith, end)) bytes (subst (λ (x : KeptRows). StandsForFirst x bytes) (sym c.self.view_is) stands))

pub returns-in_err-feed-clause-err : goal.returns-in_err-feed-clause-err
returns-in_err-feed-clause-err c =
    let t = c.take_lines-taken in
    let piece = c.args.piece.now in
    let len = t.result.len in
    let within = t.ensures.within in
    let p = err_from_is_err_and c.from_residual-in_err-feed.result c.from_residual-in_err-feed.ensures.1 in
    rw (p.1, p.2) (λ bytes stands.
    subst (λ (l : List ℕ). IsFaultOfAllIn Bare l c.in_err-feed.field-0.0) (ap (λ l. (bytes ++ take (len + 1) piece) ++ l) (take_rest piece (len + 1)) ∙ parted_whole bytes piece (len + 1))
    (c.in_err-feed.ensures.err (bytes ++ take (len + 1) piece)
    (first_ended c.self.inside.digits t.new.m c.self.inside.cols t.result.row t.result.place t.result.len piece t.ensures.field t.ensures.shape_rows t.ensures.shape_cols t.ensures.read
    (omega arith) (omega arith) (omega (arith, within)) (omega arith) c.in_ok-rows.rows c.in_ok-rows.ensures bytes (subst (λ (x : KeptRows). StandsForFirst x bytes) (sym c.self.view_is) stands))))

pub returns-clause-more : goal.returns-clause-more
returns-clause-more c = λ bytes stands.
    let t = c.take_lines-taken in
    let piece = c.args.piece.now in
    let len = t.result.len in
    let within = t.ensures.within in
    subst (λ (l : List ℕ). StandsForRows c.feed.new.self l) (ap (λ l. (bytes ++ take (len + 1) piece) ++ l) (take_rest piece (len + 1)) ∙ parted_whole bytes piece (len + 1))
    (c.in_ok-feed.ensures.ok (bytes ++ take (len + 1) piece)
    (first_ended c.self.inside.digits t.new.m c.self.inside.cols t.result.row t.result.place t.result.len piece t.ensures.field t.ensures.shape_rows t.ensures.shape_cols t.ensures.read
    (omega arith) (omega arith) (omega (arith, within)) (omega arith) c.in_ok-rows.rows c.in_ok-rows.ensures bytes (subst (λ (x : KeptRows). StandsForFirst x bytes) (sym c.self.view_is) stands)))
