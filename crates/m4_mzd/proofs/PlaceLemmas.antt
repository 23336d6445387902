-- Entries that are copied to another place of a row, and words that are written down a column.
use Rattle.std.proofs.Common.{◌≡◌, ℕ, ◌+◌, ◌-◌, ◌*◌, ◌/◌, ◌%◌, ◌<◌, ◌≤◌, inl, inr, cond, List, [], ◌++◌, length, get_or, set, take, drop, map, sym, ◌∙◌, ap, arith, eqb}
use Rattle.std.specs.List.{range_with_len}
use Rattle.std.specs.Int.{bit_at}
use Rattle.std.proofs.lemmas.Nat.Bits.{bit_at-zero}
use Rattle.std.proofs.lemmas.Bool.{cases_eq, cases_lt}
use Rattle.std.proofs.lemmas.List.{length-append, length-take-le, length-drop, get_or_append_left, get_or-append_right, get_or-take, get_or-drop, get_or_past, get_or-set_same, get_or-set_other}
use Rattle.m4_model.specs.Matrix.{Matrix, IsMatrix, row, at}
use Rattle.m4_model.proofs.MatrixLemmas.{length-table, row-table}
use Rattle.m4_bits.specs.Bits.{bit}
use Rattle.m4_bits.specs.Shift.{AreCopied}
use Rattle.m4_mzd.specs.Window.{Window, IsWindow, content}
use Rattle.m4_mzd.specs.Rows.{with_word}
use Rattle.m4_mzd.specs.Parts.{part, with_part, with_words}
use Rattle.m4_mzd.proofs.PairLemmas.{copied, copied_more}
use Rattle.m4_mzd.proofs.WriteLemmas.{Holds, Wrote}

pub length-part : (c n : ℕ) (xs : List ℕ) → c + n ≤ length xs → length (part c n xs) ≡ n
length-part c n xs within = length-take-le n (drop c xs) (omega (arith, length-drop c xs))

-- the entries of a row with others in place of its own
module _ (c : ℕ) (ys xs : List ℕ) (room : c + length ys ≤ length xs) where
  front_long : length (take c xs) ≡ c
  front_long = length-take-le c xs (omega arith)

  both_long : length (take c xs ++ ys) ≡ c + length ys
  both_long = omega (arith, length-append (take c xs) ys, front_long)

  pub length-with_part : length (with_part c ys xs) ≡ length xs
  length-with_part = omega (arith, length-append (take c xs ++ ys) (drop (c + length ys) xs), both_long, length-drop (c + length ys) xs)

  pub get_or-with_part_before : (j : ℕ) → j < c → get_or (with_part c ys xs) j 0 ≡ get_or xs j 0
  get_or-with_part_before j before =
      get_or_append_left (take c xs ++ ys) (drop (c + length ys) xs) 0 j (omega (arith, both_long))
      ∙ get_or_append_left (take c xs) ys 0 j (omega (arith, front_long)) ∙ get_or-take c xs j 0 before

  pub get_or-with_part_within : (j : ℕ) → c ≤ j → j < c + length ys → get_or (with_part c ys xs) j 0 ≡ get_or ys (j - c) 0
  get_or-with_part_within j from below =
      get_or_append_left (take c xs ++ ys) (drop (c + length ys) xs) 0 j (omega (arith, both_long))
      ∙ get_or-append_right (take c xs) ys c j 0 front_long from

  pub get_or-with_part_past : (j : ℕ) → c + length ys ≤ j → get_or (with_part c ys xs) j 0 ≡ get_or xs j 0
  get_or-with_part_past j past =
      let at : c + length ys + (j - (c + length ys)) ≡ j = omega arith in
      get_or-append_right (take c xs ++ ys) (drop (c + length ys) xs) (c + length ys) j 0 both_long past
      ∙ get_or-drop (c + length ys) xs (j - (c + length ys)) 0 ∙ ap (λ k. get_or xs k 0) at

-- a row in which entries of another were copied
pub wrote_part : (cols others c d n : ℕ) (old src new xs ys : List ℕ) → Holds cols old xs → Holds others src ys → c + n ≤ cols → d + n ≤ others
    → length new ≡ length old → AreCopied old new src c d n → Wrote cols old new (with_part c (part d n ys) xs)
wrote_part cols others c d n old src new xs ys h g room enough long is =
    let some = part d n ys in
    let many : length some ≡ n = length-part d n ys (omega (arith, g.entries_long)) in
    let fits : c + length some ≤ length xs = omega (arith, many, h.entries_long) in
    record {
      holds = record {
        long = long ∙ h.long;
        entries_long = length-with_part c some xs fits ∙ h.entries_long;
        bits = λ j inside. elim (cases_lt j c) [
          | inl before ↦ get_or-with_part_before c some xs fits j before ∙ h.bits j inside ∙ sym (is.before j before)
          | inr from ↦ elim (cases_lt j (c + n)) [
            | inl within ↦
                let there : c + (j - c) ≡ j = omega arith in
                get_or-with_part_within c some xs fits j from (omega (arith, many))
                ∙ get_or-take n (drop d ys) (j - c) 0 (omega arith) ∙ get_or-drop d ys (j - c) 0
                ∙ g.bits (d + (j - c)) (omega arith)
                ∙ sym (ap (bit new) (sym there) ∙ is.copied (j - c) (omega arith))
            | inr past ↦ get_or-with_part_past c some xs fits j (omega (arith, many)) ∙ h.bits j inside ∙ sym (is.after j past)
          ]
        ];
      };
      kept = λ j past. is.after j (omega arith);
    }

-- a row that is written where the first n rows are as they are to be
pub row_step : (first now next : Window) (rows : List (List ℕ)) (n : ℕ) (f : List ℕ → List ℕ) → n < length rows → n < length first.bits → now ≡ copied first rows n
    → next ≡ record now { bits = set now.bits n (f (get_or now.bits n [])) } → f (get_or first.bits n []) ≡ get_or rows n [] → next ≡ copied first rows (n + 1)
row_step first now next rows n f below within is written made =
    let kept : get_or (take n rows ++ drop n first.bits) n [] ≡ get_or first.bits n [] =
    get_or-append_right (take n rows) (drop n first.bits) n n [] (length-take-le n rows (omega arith)) (omega arith)
    ∙ get_or-drop n first.bits (n - n) [] ∙ ap (λ k. get_or first.bits k []) (omega arith) in
    let row : f (get_or now.bits n []) ≡ get_or rows n [] = ap (λ (x : Window). f (get_or x.bits n [])) is ∙ ap f kept ∙ made in
    copied_more first now next rows n below within is (written ∙ ap {B = Window} (λ l. record now { bits = set now.bits n l }) row)

-- one word more down a column
pub length-with_words : (w : ℕ) (words : List ℕ) (A : Matrix) → length (with_words w words A).entries ≡ A.rows
length-with_words w words A = length-table A.rows A.cols (λ i j. cond (eqb (j / 64) w) (bit_at (get_or words i 0) (j % 64)) (at A i j))

word_of_row : (A : Matrix) (w r : ℕ) (words : List ℕ) → IsMatrix A → r < A.rows → with_word w (get_or words r 0) (row A r) ≡ get_or (with_words w words A).entries r []
word_of_row A w r words is below =
    ap (λ n. map (λ j. cond (eqb (j / 64) w) (bit_at (get_or words r 0) (j % 64)) (get_or (row A r) j 0)) (range_with_len 0 n)) (is.width r below)
    ∙ sym (row-table A.rows A.cols (λ i j. cond (eqb (j / 64) w) (bit_at (get_or words i 0) (j % 64)) (at A i j)) r below)

pub words_more : (first now next : Window) (w r : ℕ) (words : List ℕ) → IsWindow first → r < first.rows → now ≡ copied first (with_words w words (content first)).entries r
    → next ≡ record now { bits = set now.bits r (with_word w (get_or words r 0) (get_or now.bits r [])) }
    → next ≡ copied first (with_words w words (content first)).entries (r + 1)
words_more first now next w r words shape below is written =
    let rows = (with_words w words (content first)).entries in
    let many : length rows ≡ first.rows = length-with_words w words (content first) in
    row_step first now next rows r (with_word w (get_or words r 0)) (omega (arith, many)) (omega (arith, shape.matrix.height)) is written
    (word_of_row (content first) w r words shape.matrix below)

-- past the last row there is no entry
pub at_past : (A : Matrix) (i j : ℕ) → IsMatrix A → A.rows ≤ i → at A i j ≡ 0
at_past A i j is past = ap (λ l. get_or l j 0) (get_or_past A.entries i [] (omega (arith, is.height)))

-- words that were read down a column, the first k of them
pub record ReadTo (A : Matrix) (r w k : ℕ) (words : List ℕ) : Type 0 where
  pub done : (i j : ℕ) → i < k → j < 64 → bit_at (get_or words i 0) j ≡ at A (r + i) (w * 64 + j)

pub read_more : (A : Matrix) (r w k word : ℕ) (words : List ℕ) → k < length words → ((j : ℕ) → j < 64 → bit_at word j ≡ at A (r + k) (w * 64 + j))
    → ReadTo A r w k words → ReadTo A r w (k + 1) (set words k word)
read_more A r w k word words within read so_far = record {
  done = λ i j below small. elim (cases_eq i k) [
    | inl here ↦ rw here (ap (λ x. bit_at x j) (get_or-set_same words k word 0 within) ∙ read j small)
    | inr away ↦ ap (λ x. bit_at x j) (get_or-set_other words k i word 0 away) ∙ so_far.done i j (omega (arith, away)) small
  ];
}

pub read_all : (A : Matrix) (r w k : ℕ) (read words : List ℕ) → IsMatrix A → (k < length words → A.rows ≤ r + k) → ReadTo A r w k read
    → ((i : ℕ) → k ≤ i → get_or words i 0 ≡ 0) → ((i : ℕ) → i < k → get_or words i 0 ≡ get_or read i 0)
    → (i j : ℕ) → i < length words → j < 64 → bit_at (get_or words i 0) j ≡ at A (r + i) (w * 64 + j)
read_all A r w k read words is all so_far zeros kept i j inside small =
    elim (cases_lt i k) [
      | inl first ↦ ap (λ x. bit_at x j) (kept i first) ∙ so_far.done i j first small
      | inr past ↦
          let end : A.rows ≤ r + k = all (omega arith) in
          ap (λ x. bit_at x j) (zeros i past) ∙ bit_at-zero j ∙ sym (at_past A (r + i) (w * 64 + j) is (omega arith))
    ]
