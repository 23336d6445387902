-- A table of all multiples of one row.
use Rattle.std.proofs.Common.{◌≡◌, ℕ, ◌+◌, ◌-◌, ◌*◌, ◌/◌, ◌%◌, ◌^◌, ◌<◌, ◌≤◌, inl, inr, List, [], length, get_or, map, take, sym, ◌∙◌, ap, ap₂, subst, arith, bit_xor}
use Rattle.std.specs.Prelude.{min, nat_le}
use Rattle.std.specs.List.{All}
use Rattle.std.specs.Int.Bits.{xor_comm, xor_shifted}
use Rattle.std.proofs.Math.Nat.{div-lt_iff_lt-mul}
use Rattle.std.proofs.lemmas.Nat.{pow-add}
use Rattle.std.proofs.Math.Seq.{take-nil}
use Rattle.std.proofs.Math.Pow.{pow_mono}
use Rattle.std.proofs.lemmas.Bool.{cases_lt, cond-true, cond-false, le-leb, lt-leb}
use Rattle.std.proofs.lemmas.List.{length-map, length-take-le, get_or-map, get_or_past}
use Rattle.m4_model.specs.Field.{Field, IsCarried, IsElement, mul}
use Rattle.m4_model.specs.Matrix.{Matrix, IsMatrix, row, row_sum, with_row}
use Rattle.m4_model.specs.Shapes.{replace}
use Rattle.m4_gray.specs.Slots.{Slots}
use Rattle.m4_gray.proofs.EntryLemmas.{entry-filled_same}
use Rattle.m4_mzd.specs.declared.rect.Rect.{Rect}
use Rattle.m4_mzd.specs.declared.mzd.around.Around.{Around}
use Rattle.m4_mzed.specs.EWindow.{EWindow, content, showing}
use Rattle.m4_mzed.specs.Taken.{IsAround}
use Rattle.m4_newton.proofs.WindowLemmas.{still_around}
use Rattle.m4_mzed.specs.Rows.{multiples}
use Rattle.m4_newton.specs.Entries.{AreEntries, AreBoth}
use Rattle.m4_newton.specs.NjTables.{IsNjTable, filled_of, Filled, entries_for}
use Rattle.m4_mul.proofs.PlainLemmas.{row_sum_assoc}
use Rattle.m4_newton.proofs.EntryLemmas.{multiples_one, multiples_sum, row_elements}

-- the parts of a table over a field of a degree up to 8, and above
pub both_low : (old new : EWindow) (xs : List ℕ) → old.field.degree ≤ 8 → AreEntries old new xs 0 0 (2 ^ old.field.degree) → AreBoth old new xs
both_low old new xs small are = record {
  kept = are.kept;
  low = λ x below.
      let least : min old.field.degree 8 ≡ old.field.degree = omega (arith, small) in
      let place : 0 + x ≡ x = omega arith in
      let one : x * 2 ^ 0 ≡ x = omega arith in
      ap (row (content new)) (sym place) ∙ are.entries x (let P : ℕ → Type 0 = λ k. x < 2 ^ k in subst P least below) ∙ ap (λ k. multiples old.field k xs) one;
  high = λ x large. absurd (omega (arith, large, small));
}

pub both_high : (old mid new : EWindow) (xs : List ℕ) → 8 < old.field.degree → AreEntries old mid xs 0 0 (2 ^ 8) → AreEntries mid new xs 256 8 (2 ^ (old.field.degree - 8)) → AreBoth old new xs
both_high old mid new xs large first second = record {
  kept = second.kept ∙ ap (λ (v : EWindow). showing v (content new)) first.kept;
  low = λ x below.
      let least : min old.field.degree 8 ≡ 8 = omega (arith, large) in
      let place : 0 + x ≡ x = omega arith in
      let one : x * 2 ^ 0 ≡ x = omega arith in
      let small : x < 2 ^ 8 = let P : ℕ → Type 0 = λ k. x < 2 ^ k in subst P least below in
      second.before x (omega (arith, small)) ∙ ap (row (content mid)) (sym place) ∙ first.entries x small ∙ ap (λ k. multiples old.field k xs) one;
  high = λ x _ below. second.entries x below ∙ ap (λ (v : EWindow). multiples v.field (x * 2 ^ 8) xs) first.kept;
}

-- a row of which the first entries were replaced
replaced_row : (E S : Matrix) (i : ℕ) → S.rows ≤ E.rows → S.cols ≤ E.cols → i < S.rows → length (row S i) ≡ S.cols → take S.cols (row (replace E 0 0 S) i) ≡ row S i
replaced_row E S i rows cols below long =
    let T : Slots = record { k = 0; count = 1; entries = E } in
    let none : 0 ≡ 0 * 2 ^ 0 = omega arith in
    let place : i ≡ 0 * 2 ^ 0 + i = omega arith in
    (λ j. take S.cols (row (replace E (none j) 0 S) (place j)))
    ∙ entry-filled_same T 0 i S (omega (arith, rows)) cols below long

-- a table that was filled
module _ (E N : Matrix) (part new : EWindow) (xs : List ℕ) (is : IsCarried E.field) (rows : E.rows ≡ entries_for E.field.degree) (some_rows : 1 < E.rows)
    (low_rows : 2 ^ min E.field.degree 8 ≤ E.rows) (high_rows : 8 < E.field.degree → 256 + 2 ^ (E.field.degree - 8) ≤ E.rows)
    (part_field : part.field ≡ E.field) (part_rows : part.rows ≡ E.rows) (part_cols : part.cols ≤ E.cols) (long : length xs ≡ part.cols)
    (both : AreBoth part new xs) (back : N ≡ replace E 0 0 (content new)) (all : multiples E.field 1 xs ≡ xs) (one_small : 1 < 2 ^ min E.field.degree 8) where
  new_cols : new.cols ≡ part.cols
  new_cols = ap (λ (v : EWindow). v.cols) both.kept

  new_rows : new.rows ≡ E.rows
  new_rows = ap (λ (v : EWindow). v.rows) both.kept ∙ part_rows

  taken : (i x : ℕ) → i < E.rows → row (content new) i ≡ multiples part.field x xs → take part.cols (row N i) ≡ multiples E.field x xs
  taken i x below is =
      let wide : length (row (content new) i) ≡ new.cols = ap length is ∙ length-map xs (λ y. mul part.field y x) ∙ long ∙ sym new_cols in
      ap₂ (λ n (M : Matrix). take n (row M i)) (sym new_cols) back
      ∙ replaced_row E (content new) i (omega (arith, new_rows)) (omega (arith, new_cols, part_cols)) (omega (arith, below, new_rows)) wide
      ∙ is ∙ ap (λ (F : Field). multiples F x xs) part_field

  pub first_is : take part.cols (row N 1) ≡ xs
  first_is = taken 1 1 some_rows (both.low 1 (let P : Field → Type 0 = λ F. 1 < 2 ^ min F.degree 8 in subst P (sym part_field) one_small)) ∙ all

  pub table_filled : IsNjTable N part.cols
  table_filled =
      let field : N.field ≡ E.field = ap (λ (M : Matrix). M.field) back in
      let P : Field → Type 0 = λ F. (x : ℕ) → x < 2 ^ min F.degree 8 → take part.cols (row N x) ≡ multiples F x (take part.cols (row N 1)) in
      let Q : Field → Type 0 = λ F. (x : ℕ) → 8 < F.degree → x < 2 ^ (F.degree - 8) → take part.cols (row N (256 + x)) ≡ multiples F (x * 2 ^ 8) (take part.cols (row N 1)) in
      record {
        carried = subst IsCarried (sym field) is;
        rows = ap (λ (M : Matrix). M.rows) back ∙ rows ∙ ap (λ (F : Field). entries_for F.degree) (sym field);
        few = omega (arith, ap (λ (M : Matrix). M.cols) back, part_cols);
        low = subst P (sym field) (λ x below.
            taken x x (omega (arith, below, low_rows)) (both.low x (let R : Field → Type 0 = λ F. x < 2 ^ min F.degree 8 in subst R (sym part_field) below)) ∙ ap (multiples E.field x) (sym first_is));
        high = subst Q (sym field) (λ x large below.
            taken (256 + x) (x * 2 ^ 8) (omega (arith, below, high_rows large))
            (both.high x (let R : Field → Type 0 = λ F. 8 < F.degree in subst R (sym part_field) large) (let R : Field → Type 0 = λ F. x < 2 ^ (F.degree - 8) in subst R (sym part_field) below))
            ∙ ap (multiples E.field (x * 2 ^ 8)) (sym first_is));
      }

-- ---- an entry of the table added to a row
row_narrow : (E : Matrix) (n i : ℕ) → get_or (map (take n) E.entries) i [] ≡ take n (row E i)
row_narrow E n i = elim (cases_lt i (length E.entries)) [
  | inl within ↦ get_or-map (take n) E.entries i [] [] within
  | inr past ↦ get_or_past (map (take n) E.entries) i [] (omega (arith, past, length-map E.entries (take n))) ∙ sym (ap (take n) (get_or_past E.entries i [] past) ∙ take-nil n)
]

pub high_small : (d x : ℕ) → 8 < d → x < 2 ^ d → x / 256 < 2 ^ (d - 8)
high_small d x large small =
    let e : d ≡ (d - 8) + 8 = omega (arith, large) in
    let P : ℕ → Type 0 = λ k. x < k in
    (div-lt_iff_lt-mul (let z : 0 < 256 = omega arith in z)).1 (subst P (ap (λ k. 2 ^ k) e ∙ pow-add 2 (d - 8) 8) small)

pub many_entries : (d : ℕ) → 8 < d → entries_for d ≡ 256 + 2 ^ (d - 8)
many_entries d large = cond-false (nat_le d 8) (2 ^ d) (256 + 2 ^ (d - 8)) (lt-leb d 8 large)

pub few_entries : (d : ℕ) → d ≤ 8 → entries_for d ≡ 2 ^ d
few_entries d small = cond-true (nat_le d 8) (2 ^ d) (256 + 2 ^ (d - 8)) (le-leb d 8 small)

module _ (E N : Matrix) (filled : ℕ) (told : Filled) (dst : EWindow) (inv : IsNjTable E filled) (view : filled_of E filled ≡ told) (shape : IsMatrix N) (dst_shape : IsMatrix (content dst))
    (narrowed : N ≡ record E { cols = filled; entries = map (take filled) E.entries }) (field : dst.field ≡ told.field) where
  over : E.field ≡ dst.field
  over = ap (λ (t : Filled). t.field) view ∙ sym field

  first_row : take filled (row E 1) ≡ told.row
  first_row = ap (λ (t : Filled). t.row) view

  carried : IsCarried dst.field
  carried = subst IsCarried over inv.carried

  -- entry i, which is the row times x
  entry_row : (i x : ℕ) → take filled (row E i) ≡ multiples E.field x (take filled (row E 1)) → row N i ≡ multiples dst.field x told.row
  entry_row i x is = ap (λ (M : Matrix). row M i) narrowed ∙ row_narrow E filled i ∙ is ∙ ap₂ (λ (F : Field) ys. multiples F x ys) over first_row

  entry : (i x : ℕ) → i < E.rows → take filled (row E i) ≡ multiples E.field x (take filled (row E 1)) → multiples dst.field 1 (row N i) ≡ multiples dst.field x told.row
  entry i x below is =
      let P : Field → Type 0 = λ F. All (IsElement F) (row N i) in
      multiples_one dst.field carried (row N i) (subst P (ap (λ (M : Matrix). M.field) narrowed ∙ over) (row_elements N i shape (omega (arith, below, ap (λ (M : Matrix). M.rows) narrowed))))
      ∙ entry_row i x is

  pub low_added : (next : EWindow) (r x : ℕ) → E.field.degree ≤ 8 → x < 2 ^ dst.field.degree
      → next ≡ showing dst (with_row (content dst) r (row_sum (row (content dst) r) (multiples dst.field 1 (row N x))))
      → next ≡ showing dst (with_row (content dst) r (row_sum (row (content dst) r) (multiples dst.field x told.row)))
  low_added next r x small element written =
      let least : min E.field.degree 8 ≡ E.field.degree = omega (arith, small) in
      let P : Field → Type 0 = λ F. x < 2 ^ F.degree in
      let Q : ℕ → Type 0 = λ k. x < 2 ^ k in
      let below : x < 2 ^ E.field.degree = subst P (sym over) element in
      written ∙ ap (λ ys. showing dst (with_row (content dst) r (row_sum (row (content dst) r) ys)))
      (entry x x (omega (arith, below, inv.rows, few_entries E.field.degree small)) (inv.low x (subst Q (sym least) below)))

  pub high_added : (next : EWindow) (r x : ℕ) → 8 < E.field.degree → x < 2 ^ dst.field.degree → r < dst.rows → length told.row ≡ dst.cols
      → next ≡ showing dst (with_row (content dst) r (row_sum (row_sum (row (content dst) r) (row N (x % 256))) (row N (256 + x / 256))))
      → next ≡ showing dst (with_row (content dst) r (row_sum (row (content dst) r) (multiples dst.field x told.row)))
  high_added next r x large element below long written =
      let F = dst.field in
      let xs = row (content dst) r in
      let ys = multiples F (x % 256) told.row in
      let zs = multiples F (x / 256 * 2 ^ 8) told.row in
      let least : min E.field.degree 8 ≡ 8 = omega (arith, large) in
      let Q : ℕ → Type 0 = λ k. x % 256 < 2 ^ k in
      let P : Field → Type 0 = λ G. x < 2 ^ G.degree in
      let small : x / 256 < 2 ^ (E.field.degree - 8) = high_small E.field.degree x large (subst P (sym over) element) in
      let wide : length xs ≡ dst.cols = dst_shape.width r below in
      let ys_long : length ys ≡ length xs = length-map told.row (λ y. mul F y (x % 256)) ∙ long ∙ sym wide in
      let zs_long : length zs ≡ length xs = length-map told.row (λ y. mul F y (x / 256 * 2 ^ 8)) ∙ long ∙ sym wide in
      let all : bit_xor (x % 256) (x / 256 * 2 ^ 8) ≡ x
      = xor_comm (x % 256) (x / 256 * 2 ^ 8) ∙ xor_shifted (x / 256) 8 (x % 256) (omega arith) ∙ (let e : x / 256 * 2 ^ 8 + x % 256 ≡ x = omega arith in e) in
      written
      ∙ ap₂ (λ us vs. showing dst (with_row (content dst) r (row_sum (row_sum xs us) vs)))
      (entry_row (x % 256) (x % 256) (inv.low (x % 256) (subst Q (sym least) (omega arith)))) (entry_row (256 + x / 256) (x / 256 * 2 ^ 8) (inv.high (x / 256) large small))
      ∙ ap (λ us. showing dst (with_row (content dst) r us)) (row_sum_assoc xs ys zs ys_long zs_long ∙ ap (row_sum xs) (multiples_sum F carried (x % 256) (x / 256 * 2 ^ 8) told.row ∙ ap (λ k. multiples F k told.row) all))

-- the length of the row
pub filled_long : (E : Matrix) (filled : ℕ) → IsMatrix E → 1 < E.rows → filled ≤ E.cols → length (take filled (row E 1)) ≡ filled
filled_long E filled is some few = length-take-le filled (row E 1) (omega (arith, is.width 1 some, few))

pub some_entries : (d : ℕ) → 1 ≤ d → 1 < entries_for d
some_entries d some = elim (cases_lt 8 d) [
  | inl large ↦ omega (arith, many_entries d large)
  | inr small ↦ (let m = pow_mono {i = 1} {j = d} some in omega (arith, few_entries d (omega (arith, small)), m))
]

-- a window that was taken out of the table
pub still_out : (around : Around) (part next : EWindow) (rect : Rect) (A : Matrix) (xs : List ℕ) → ((B : Matrix) → IsAround around (showing part B) rect A) → AreBoth part next xs → IsAround around next rect A
still_out around part next rect A xs whatever both = still_around around part next rect A whatever both.kept

pub low_room : (d : ℕ) → 2 ^ min d 8 ≤ entries_for d
low_room d = elim (cases_lt 8 d) [
  | inl large ↦ (let least : min d 8 ≡ 8 = omega (arith, large) in let e = ap (λ k. 2 ^ k) least in omega (arith, e, many_entries d large))
  | inr small ↦ (let least : min d 8 ≡ d = omega (arith, small) in let e = ap (λ k. 2 ^ k) least in omega (arith, e, few_entries d (omega (arith, small))))
]

pub one_low : (d : ℕ) → 1 ≤ d → 1 < 2 ^ min d 8
one_low d some = let m = pow_mono {i = 1} {j = min d 8} (omega (arith, some)) in omega (arith, m)

-- what is known where a table was filled, over plain variables
pub record WasFilled (E N : Matrix) (part new : EWindow) (B : Matrix) (r : ℕ) : Type 0 where
  pub table : IsCarried E.field
  pub rows : E.rows ≡ entries_for E.field.degree
  pub part_field : part.field ≡ E.field
  pub part_rows : part.rows ≡ E.rows
  pub part_cols : part.cols ≤ E.cols
  pub matrix : IsMatrix B
  pub field : B.field ≡ E.field
  pub cols : B.cols ≡ part.cols
  pub below : r < B.rows
  pub both : AreBoth part new (row B r)
  pub back : N ≡ replace E 0 0 (content new)

module _ (E N : Matrix) (part new : EWindow) (B : Matrix) (r : ℕ) (g : WasFilled E N part new B r) where
  all_of_row : multiples E.field 1 (row B r) ≡ row B r
  all_of_row =
      let P : Field → Type 0 = λ F. All (IsElement F) (row B r) in
      multiples_one E.field g.table (row B r) (subst P g.field (row_elements B r g.matrix g.below))

  long : length (row B r) ≡ part.cols
  long = g.matrix.width r g.below ∙ g.cols

  high_room : 8 < E.field.degree → 256 + 2 ^ (E.field.degree - 8) ≤ E.rows
  high_room large = omega (arith, g.rows, many_entries E.field.degree large)

  pub row_is : take part.cols (row N 1) ≡ row B r
  row_is =
      first_is E N part new (row B r) g.table g.rows (omega (arith, g.rows, some_entries E.field.degree g.table.degree_low)) (omega (arith, g.rows, low_room E.field.degree)) high_room
      g.part_field g.part_rows g.part_cols long g.both g.back all_of_row (one_low E.field.degree g.table.degree_low)

  pub is_table : IsNjTable N part.cols
  is_table =
      table_filled E N part new (row B r) g.table g.rows (omega (arith, g.rows, some_entries E.field.degree g.table.degree_low)) (omega (arith, g.rows, low_room E.field.degree)) high_room
      g.part_field g.part_rows g.part_cols long g.both g.back all_of_row (one_low E.field.degree g.table.degree_low)
