-- The entries of tables of which one slot was filled.
use Rattle.std.proofs.Common.{ltb, leb, ◌≡◌, ◌≢◌, ℕ, ◌+◌, ◌-◌, ◌*◌, ◌^◌, ◌<◌, ◌≤◌, inl, inr, cond, ◌&&◌, false, length, take, sym, ◌∙◌, ap, arith}
use Rattle.std.proofs.Math.Nat.{mul-le-mul_right}
use Rattle.std.proofs.lemmas.Bool.{cases_lt, cond-true, cond-false, le-leb, lt-leb, lt-ltb, le-ltb, and_from, and_left, and_right}
use Rattle.std.proofs.lemmas.List.{length-take-le, get_or-take, ext_get_or}
use Rattle.m4_model.specs.Matrix.{Matrix, IsMatrix, row, at}
use Rattle.m4_model.proofs.MatrixLemmas.{length-row-table, at-table}
use Rattle.m4_gray.specs.Slots.{Slots, entry, filled}

-- what replaces the entries of a slot
abbrev entries_of : Matrix → ℕ → Matrix → ℕ → ℕ → ℕ
entries_of A r0 S i j =
    cond ((leb r0 i && ltb i (r0 + S.rows)) && (leb 0 j && ltb j (0 + S.cols))) (at S (i - r0) (j - 0)) (at A i j)

-- ---- the slot has the rows that it was filled with
pub entry-filled_same : (t : Slots) (slot x : ℕ) (S : Matrix) → slot * 2 ^ t.k + S.rows ≤ t.entries.rows → S.cols ≤ t.entries.cols
    → x < S.rows → length (row S x) ≡ S.cols → entry (filled t slot S) S.cols slot x ≡ row S x
entry-filled_same t slot x S room wide below long =
    let A = t.entries in
    let r0 = slot * 2 ^ t.k in
    let i = r0 + x in
    let g = entries_of A r0 S in
    let in_rows : i < A.rows = omega (arith, room, below) in
    let whole = row (filled t slot S).entries i in
    let width : length whole ≡ A.cols = length-row-table A.rows A.cols g i in_rows in
    let cut : length (take S.cols whole) ≡ S.cols = length-take-le S.cols whole (omega (arith, width, wide)) in
    ext_get_or 0 _ _ (cut ∙ sym long) (λ j inside.
    let in_cols : j < S.cols = omega (arith, inside, cut) in
    let same_row : i - r0 ≡ x = omega arith in
    let same_col : j - 0 ≡ j = omega arith in
    get_or-take S.cols whole j 0 in_cols
    ∙ at-table A.rows A.cols g i j in_rows (omega (arith, in_cols, wide))
    ∙ cond-true ((leb r0 i && ltb i (r0 + S.rows)) && (leb 0 j && ltb j (0 + S.cols))) (at S (i - r0) (j - 0)) (at A i j)
    (and_from _ _ (and_from _ _ (le-leb r0 i (omega arith)) (lt-ltb i (r0 + S.rows) (omega (arith, below))))
    (and_from _ _ (le-leb 0 j (omega arith)) (lt-ltb j (0 + S.cols) (omega (arith, in_cols)))))
    ∙ (λ n. at S (same_row n) (same_col n)))

-- ---- every other slot has the entries that it had
apart : (k slot s x height : ℕ) → s ≢ slot → x < 2 ^ k → height ≤ 2 ^ k
    → (slot * 2 ^ k ≤ s * 2 ^ k + x) → (s * 2 ^ k + x < slot * 2 ^ k + height) → ⊥
apart k slot s x height other below few from before =
    elim (cases_lt s slot) [
      | inl earlier ↦
          let next : s + 1 ≤ slot = omega (arith, earlier) in
          let all : (s + 1) * 2 ^ k ≤ slot * 2 ^ k = mul-le-mul_right (2 ^ k) next in
          omega (arith, all, below, from)
      | inr not_earlier ↦
          let next : slot + 1 ≤ s = omega (arith, not_earlier, other) in
          let all : (slot + 1) * 2 ^ k ≤ s * 2 ^ k = mul-le-mul_right (2 ^ k) next in
          omega (arith, all, few, before)
    ]

pub entry-filled_other : (t : Slots) (slot s x cols : ℕ) (S : Matrix) → IsMatrix t.entries → S.rows ≤ 2 ^ t.k → cols ≤ t.entries.cols
    → s ≢ slot → x < 2 ^ t.k → s * 2 ^ t.k + x < t.entries.rows → entry (filled t slot S) cols s x ≡ entry t cols s x
entry-filled_other t slot s x cols S matrix few wide other below in_rows =
    let A = t.entries in
    let r0 = slot * 2 ^ t.k in
    let i = s * 2 ^ t.k + x in
    let g = entries_of A r0 S in
    let whole = row (filled t slot S).entries i in
    let width : length whole ≡ A.cols = length-row-table A.rows A.cols g i in_rows in
    let same : length (row A i) ≡ A.cols = matrix.width i in_rows in
    let high = leb r0 i && ltb i (r0 + S.rows) in
    let outside : high ≡ false = elim (cases_lt i r0) [
      | inl above ↦ and_left (leb r0 i) (ltb i (r0 + S.rows)) (lt-leb r0 i above)
      | inr from ↦ elim (cases_lt i (r0 + S.rows)) [
        | inl before ↦ absurd (apart t.k slot s x S.rows other below few from before)
        | inr past ↦ and_right (leb r0 i) (ltb i (r0 + S.rows)) (le-ltb i (r0 + S.rows) past)
      ]
    ] in
    ap (take cols)
    (ext_get_or 0 _ _ (width ∙ sym same) (λ j inside.
    let in_cols : j < A.cols = omega (arith, inside, width) in
    at-table A.rows A.cols g i j in_rows in_cols
    ∙ cond-false (high && (leb 0 j && ltb j (0 + S.cols))) (at S (i - r0) (j - 0)) (at A i j)
    (and_left high (leb 0 j && ltb j (0 + S.cols)) outside)))
