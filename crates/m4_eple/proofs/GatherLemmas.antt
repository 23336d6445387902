-- A window of one word a row, and the words of its rows.
use Rattle.std.proofs.Common.{◌≡◌, ℕ, ◌+◌, ◌*◌, ◌/◌, ◌%◌, ◌<◌, ◌≤◌, ◌==◌, if◌then◌else◌, refl, sym, ◌∙◌, subst, arith, List, length, get_or}
use Rattle.std.specs.Int.{bit_at}
use Rattle.std.proofs.lemmas.Bool.{eq-eqb}
use Rattle.m4_model.specs.Field.{gf2}
use Rattle.m4_model.specs.Matrix.{Matrix, HasShape, at}
use Rattle.m4_model.proofs.ShapeLemmas.{same_entries, same_from_entries}
use Rattle.m4_mzd.specs.Parts.{with_words}
use Rattle.m4_mzd.specs.Window.{Window, content}
use Rattle.m4_ple.specs.Words.{word_matrix}
use Rattle.m4_ple.proofs.WordLemmas.{at-words, HasShape-words}

module _ (A : Matrix) (words : List ℕ) (m cols : ℕ) (a : HasShape gf2 m cols A) (long : length words ≡ m) (narrow : cols ≤ 64) where
  -- words with the entries for bits show the matrix
  pub gathered : ((i j : ℕ) → i < length words → j < 64 → bit_at (get_or words i 0) j ≡ at A (0 + i) (0 * 64 + j)) → word_matrix cols words ≡ A
  gathered bits =
      same_entries (subst (λ n. HasShape gf2 n cols (word_matrix cols words)) long (HasShape-words cols words)) a
      (λ i j in_rows in_cols. at-words cols words i j (omega (arith, in_rows, long)) in_cols ∙ bits i j (omega (arith, in_rows, long)) (omega (arith, in_cols, narrow))
      ∙ (let row : 0 + i ≡ i = omega arith in let column : 0 * 64 + j ≡ j = omega arith in λ k. at A (row k) (column k)))

-- words written to a window are what it shows
pub scattered : (V : Window) (words : List ℕ) → length words ≡ V.rows → V.cols ≤ 64 → with_words 0 words (content V) ≡ word_matrix V.cols words
scattered V words long narrow =
    sym (same_from_entries (subst (λ n. HasShape gf2 n V.cols (word_matrix V.cols words)) long (HasShape-words V.cols words))
    (λ i j. if j / 64 == 0 then bit_at (get_or words i 0) (j % 64) else at (content V) i j)
    (λ i j in_rows in_cols.
    let low : j / 64 ≡ 0 = omega (arith, in_cols, narrow) in
    let same : j % 64 ≡ j = omega (arith, in_cols, narrow) in
    at-words V.cols words i j (omega (arith, in_rows, long)) in_cols ∙ sym (rw (eq-eqb (j / 64) 0 low, same) refl)))
