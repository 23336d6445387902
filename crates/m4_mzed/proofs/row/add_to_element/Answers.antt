use Rattle.std.proofs.Common.{◌≡◌, ℕ, ◌+◌, ◌*◌, ◌/◌, ◌%◌, ◌^◌, ◌<◌, [], get_or, cond, nat_eq, refl, sym, ◌∙◌, ap, subst, arith, bit_xor}
use Rattle.std.specs.Int.{bit_at}
use Rattle.std.proofs.lemmas.List.{get_or-set_same}
use Rattle.m4_model.specs.Matrix.{row, at, with_row}
use Rattle.m4_mzd.specs.Window.{Window, content, showing, IsWindow}
use Rattle.m4_mzd.specs.Rows.{with_word}
use Rattle.m4_field.specs.Fields.{the_field}
use Rattle.m4_model.specs.Field.{width}
use Rattle.m4_field.proofs.WidthLemmas.{width_facts}
use Rattle.m4_mzed.proofs.ElementLemmas.{added_bit, shifted_fits}
use Rattle.m4_mzed.proofs.row.add_to_element.Goals as goal

-- over plain variables
written : (k m c d r j t word shifted : ℕ) (w next : Window) → m * k ≡ 64 → 0 < k → j ≡ k → t ≡ d → IsWindow w → r < w.rows → d < 2 ^ k
    → ((i : ℕ) → i < 64 → bit_at word i ≡ at (content w) r (c * j / 64 * 64 + i)) → shifted ≡ t * 2 ^ (c * j % 64) % 2 ^ 64
    → next ≡ showing w (with_row (content w) r (with_word (c * j / 64) (bit_xor word shifted) (row (content w) r)))
    → (p : ℕ) → p < w.cols → at (content next) r p ≡ bit_xor (at (content w) r p) (bit_at (cond (nat_eq (p / k) c) d 0) (p % k))
written k m c d r j t word shifted w next whole some is from shape below small reads shift wrote p inside =
    let P : ℕ → Type 0 = λ j. ((i : ℕ) → i < 64 → bit_at word i ≡ at (content w) r (c * j / 64 * 64 + i)) → shifted ≡ t * 2 ^ (c * j % 64) % 2 ^ 64
    → next ≡ showing w (with_row (content w) r (with_word (c * j / 64) (bit_xor word shifted) (row (content w) r)))
    → at (content next) r p ≡ bit_xor (at (content w) r p) (bit_at (cond (nat_eq (p / k) c) d 0) (p % k)) in
    subst P (sym is) (λ reads' shift' wrote'.
    let value : shifted ≡ d * 2 ^ (c * k % 64) = shift' ∙ ap (λ n. n * 2 ^ (c * k % 64) % 2 ^ 64) from ∙ shifted_fits k m whole some c d small in
    ap (λ (v : Window). at (content v) r p) wrote'
    ∙ ap (λ l. get_or l p 0) (get_or-set_same w.bits r (with_word (c * k / 64) (bit_xor word shifted) (row (content w) r)) [] (let h = shape.matrix.height in omega (arith, h, below)))
    ∙ ap (λ n. get_or (with_word (c * k / 64) (bit_xor word n) (row (content w) r)) p 0) value
    ∙ added_bit k m whole some c d w.cols (row (content w) r) word p small (shape.matrix.width r below) reads' inside) reads shift wrote

pub returns-clause-entries : goal.returns-clause-entries
returns-clause-entries c =
    let F = the_field c.args.f.now in
    let f = width_facts F c.args.f.now.carried in
    written (width F) (64 / width F) c.args.c c.args.d c.args.r c.width.result c.from.result c.word.result _ c.args.bits.now c.set_word.new.self f.whole f.some c.width.ensures.width c.from.ensures
    c.rows-rows.ensures.shape c.requires.in_rows c.requires.element c.word.ensures refl c.set_word.ensures
