use Rattle.std.proofs.Common.{◌≡◌, ◌+◌, ◌-◌, ◌*◌, ap, ap₂, ◌∙◌, arith}
use Rattle.m4_model.specs.Text.{words_per_row}
use Rattle.m4_mzd.specs.Span.{Span}
use Rattle.m4_strassen.proofs.RoomLemmas.{level_words-windows, four_cut}
use Rattle.m4_strassen.proofs.level.Level.carve.Goals as goal

pub carve-s-requires-clause-enough : goal.carve-s-requires-clause-enough
carve-s-requires-clause-enough c =
    let cut = c.args.cut in
    let all = level_words-windows cut.m cut.l cut.n c.requires.whole_inner c.requires.whole_cols in
    omega (arith, all, c.requires.enough)

pub carve-t-requires-clause-enough : goal.carve-t-requires-clause-enough
carve-t-requires-clause-enough c =
    let cut = c.args.cut in
    let all = level_words-windows cut.m cut.l cut.n c.requires.whole_inner c.requires.whole_cols in
    let left : c.carve-s.new.self.left ≡ c.args.room.now.left - cut.m * words_per_row cut.l = ap (λ (r : Span). r.left) c.carve-s.ensures.left in
    omega (arith, all, c.requires.enough, left)

pub carve-p-requires-clause-enough : goal.carve-p-requires-clause-enough
carve-p-requires-clause-enough c =
    let cut = c.args.cut in
    let all = level_words-windows cut.m cut.l cut.n c.requires.whole_inner c.requires.whole_cols in
    let first : c.carve-s.new.self.left ≡ c.args.room.now.left - cut.m * words_per_row cut.l = ap (λ (r : Span). r.left) c.carve-s.ensures.left in
    let left : c.carve-t.new.self.left ≡ c.carve-s.new.self.left - cut.l * words_per_row cut.n = ap (λ (r : Span). r.left) c.carve-t.ensures.left in
    omega (arith, all, c.requires.enough, first, left)

pub carve-u-requires-clause-enough : goal.carve-u-requires-clause-enough
carve-u-requires-clause-enough c =
    let cut = c.args.cut in
    let all = level_words-windows cut.m cut.l cut.n c.requires.whole_inner c.requires.whole_cols in
    let first : c.carve-s.new.self.left ≡ c.args.room.now.left - cut.m * words_per_row cut.l = ap (λ (r : Span). r.left) c.carve-s.ensures.left in
    let second : c.carve-t.new.self.left ≡ c.carve-s.new.self.left - cut.l * words_per_row cut.n = ap (λ (r : Span). r.left) c.carve-t.ensures.left in
    let left : c.carve-p.new.self.left ≡ c.carve-t.new.self.left - cut.m * words_per_row cut.n = ap (λ (r : Span). r.left) c.carve-p.ensures.left in
    omega (arith, all, c.requires.enough, first, second, left)

pub returns-clause-words : goal.returns-clause-words
returns-clause-words c =
    let cut = c.args.cut in
    ap₂ (λ x y. x + y) (ap₂ (λ x y. x + y) (ap₂ (λ x y. x + y)
    (ap₂ (λ m n. m * words_per_row n) c.carve-s.ensures.rows c.carve-s.ensures.cols)
    (ap₂ (λ m n. m * words_per_row n) c.carve-t.ensures.rows c.carve-t.ensures.cols))
    (ap₂ (λ m n. m * words_per_row n) c.carve-p.ensures.rows c.carve-p.ensures.cols))
    (ap₂ (λ m n. m * words_per_row n) c.carve-u.ensures.rows c.carve-u.ensures.cols)
    ∙ level_words-windows cut.m cut.l cut.n c.requires.whole_inner c.requires.whole_cols

pub returns-clause-left : goal.returns-clause-left
returns-clause-left c =
    let cut = c.args.cut in
    four_cut c.args.room.now c.carve-s.new.self c.carve-t.new.self c.carve-p.new.self c.carve-u.new.self
    (cut.m * words_per_row cut.l) (cut.l * words_per_row cut.n) (cut.m * words_per_row cut.n) (cut.m * words_per_row cut.n) _
    c.carve-s.ensures.left c.carve-t.ensures.left c.carve-p.ensures.left c.carve-u.ensures.left
    (level_words-windows cut.m cut.l cut.n c.requires.whole_inner c.requires.whole_cols)
