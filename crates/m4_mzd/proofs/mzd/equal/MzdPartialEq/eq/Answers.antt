use Rattle.std.proofs.Common.{ℕ, ◌<◌, true, false, refl, sym, ap, ◌∙◌, arith}
use Rattle.std.proofs.lemmas.Bool.{true≢false}
use Rattle.m4_bits.specs.Bits.{bit}
use Rattle.m4_area.specs.Rectangle.{Rectangle}
use Rattle.m4_area.specs.Rows.{row_of}
use Rattle.m4_mzd.proofs.EqualLemmas.{same_bits, same_from_bits, told}
use Rattle.m4_mzd.proofs.mzd.equal.MzdPartialEq.eq.Goals as goal

pub returns-then-not-have_same_bits-clause-same : goal.returns-then-not-have_same_bits-clause-same
returns-then-not-have_same_bits-clause-same c =
    let r = c.loop-r.r in
    let below : r < c.args.self.now.rows = omega (arith, c.rows-r-end.ensures.rows, c.loop-r-test.true) in
    let mine = c.row.ensures.words ∙ ap (λ (v : Rectangle). row_of v.words r) c.words-mine.ensures in
    let theirs = c.row-in-loop-r.ensures.words ∙ ap (λ (v : Rectangle). row_of v.words r) c.words-theirs.ensures in (
      λ no. absurd (true≢false (sym no)),
      λ same. c.if-not-have_same_bits.ensures.1 (λ j.
          ap (λ l. bit l j) mine ∙ same_bits c.self.view_is c.self.invariant c.other.view_is c.other.invariant same r j below ∙ sym (ap (λ l. bit l j) theirs)),
    )

pub returns-then-not-have_same_bits-clause-test : goal.returns-then-not-have_same_bits-clause-test
returns-then-not-have_same_bits-clause-test c =
    told c.args.self.now c.args.other.now false (c.rows.ensures.over_gf2 ∙ sym c.rows-2.ensures.over_gf2) (returns-then-not-have_same_bits-clause-same c)

pub returns-clause-same : goal.returns-clause-same
returns-clause-same c =
    let mine = λ (i j : ℕ). ap (λ (v : Rectangle). bit (row_of v.words i) j) c.words-mine.ensures in
    let theirs = λ (i j : ℕ). ap (λ (v : Rectangle). bit (row_of v.words i) j) c.words-theirs.ensures in (
      λ yes. same_from_bits c.self.view_is c.self.invariant c.other.view_is c.other.invariant
          (omega (arith, c.rows.ensures.rows, c.rows-2.ensures.rows, c.if-rows.false))
          (omega (arith, c.cols.ensures.cols, c.cols-else-rows.ensures.cols, c.if-cols.false))
          (λ i j below. sym (mine i j)
          ∙ c.loop-r.invariant.same i j (omega (arith, c.rows-r-end.ensures.rows, c.loop-r.auto.r-end, c.loop-r-test.false))
          ∙ theirs i j),
      λ same. refl,
    )

pub returns-clause-test : goal.returns-clause-test
returns-clause-test c =
    told c.args.self.now c.args.other.now true (c.rows.ensures.over_gf2 ∙ sym c.rows-2.ensures.over_gf2) (returns-clause-same c)
