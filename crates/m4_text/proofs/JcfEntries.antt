-- The entries of JCF, one after the other, and the matrix that they tell.
use Rattle.std.proofs.Common.{◌≡◌, ℕ, ◌+◌, ◌-◌, ◌<◌, ◌≤◌, Bool, cond, List, [], ◌∷◌, ◌++◌, length, get_or, set, Some, refl, sym, ◌∙◌, ap, ap₂, subst, arith, ◌⊎◌, inl, inr, append_assoc, length-append, get_or-set_same, get_or-set_other}
use Rattle.std.proofs.lemmas.Bool.{cases_eq}
use Rattle.std.proofs.lemmas.List.{length-set, map-append}
use Rattle.std.proofs.lemmas.List.Sums.{sum_by_push}
use Rattle.m4_model.specs.Field.{gf2}
use Rattle.m4_model.specs.Matrix.{Matrix, IsMatrix, row, at, with_entry}
use Rattle.m4_model.specs.Jcf.{Token, Entry, entry, rows_begun, Takes, SpellsEntries, HasEntry}
use Rattle.m4_text.specs.Tokens.{judged_from, token_at, IsNextToken, begun_with, IsCell, LacksCell, RefusesEntry}
use Rattle.m4_text.proofs.JcfHeaders.{no_entries}
use Rattle.m4_text.proofs.Bodies.{AreBits-row, AreRows-matrix}
use Rattle.m4_text.proofs.Rows.{IsMatrix-with_row}

-- one entry more
pub begun_more : (es : List Entry) (e : Entry) → rows_begun (es ++ e ∷ []) ≡ begun_with (rows_begun es) e
begun_more es e = sum_by_push (λ (x : Entry). cond x.next_row 1 0) es e

-- a place in a list with one more item is the last, or one of the list
pub push_split : {X : Type 0} (xs ys zs : List X) (x y : X) → xs ++ y ∷ [] ≡ ys ++ x ∷ zs
    → ((ys ≡ xs) × (x ≡ y) × (zs ≡ [])) ⊎ ((ws : List X) × (xs ≡ ys ++ x ∷ ws))
push_split [] [] zs x y e = inl (refl, cc, cc)
push_split [] (z ∷ ys) zs x y e = absurd (omega (arith, ap length e, length-append ys (x ∷ zs)))
push_split (w ∷ xs) [] zs x y e = inr (xs, cc)
push_split (w ∷ xs) (z ∷ ys) zs x y e =
    let head : w ≡ z = cc in
    let rest : xs ++ y ∷ [] ≡ ys ++ x ∷ zs = cc in
    elim (push_split xs ys zs x y rest) [
      | inl last ↦ inl (ap₂ (λ h t. h ∷ t) (sym head) last.0, last.1, last.2)
      | inr inside ↦ inr (inside.0, ap₂ (λ h t. h ∷ t) head inside.1)
    ]

-- a place in a list is one in the list with one more item
pub push_place : {X : Type 0} (xs ys zs : List X) (x y : X) → xs ≡ ys ++ x ∷ zs → xs ++ y ∷ [] ≡ ys ++ x ∷ (zs ++ y ∷ [])
push_place xs ys zs x y e = ap (λ w. w ++ y ∷ []) e ∙ append_assoc ys (x ∷ zs) (y ∷ [])

-- tokens that spell entries, and one more
pub spells_more : (m n : ℕ) (words : List Token) (es : List Entry) (t : Token) (e : Entry) → SpellsEntries m n words es
    → entry t.bytes ≡ Some e → Takes m n es e → SpellsEntries m n (words ++ t ∷ []) (es ++ e ∷ [])
spells_more m n words es t e far is taken = record {
  spelled = map-append (λ (w : Token). entry w.bytes) words (t ∷ [])
      ∙ ap₂ (λ x y. x ++ y ∷ []) far.spelled is
      ∙ sym (map-append (λ (x : Entry). Some x) es (e ∷ []));
  taken = λ others after x split.
      elim (push_split es others after x e split) [
        | inl last ↦ subst (λ o. Takes m n o x) (sym last.0) (subst (Takes m n es) (sym last.1) taken)
        | inr inside ↦ far.taken others inside.0 x inside.1
      ];
}

-- an entry that stands among entries and one more
pub has_more : (es : List Entry) (e : Entry) (row column i j : ℕ) → begun_with (rows_begun es) e ≡ row + 1 → e.column ≡ column + 1
    → HasEntry (es ++ e ∷ []) i j → HasEntry es i j ⊎ ((i ≡ row) × (j ≡ column))
has_more es e row column i j in_row in_column (others, after, x, split, here, there) =
    elim (push_split es others after x e split) [
      | inl last ↦
          let count : rows_begun (es ++ e ∷ []) ≡ i + 1 = ap₂ (λ o y. rows_begun (o ++ y ∷ [])) (sym last.0) (sym last.1) ∙ here in
          let wide : e.column ≡ j + 1 = ap (λ (y : Entry). y.column) (sym last.1) ∙ there in
          inr (omega (arith, count, begun_more es e, in_row), omega (arith, wide, in_column))
      | inr inside ↦ inl (others, inside.0, x, inside.1, here, there)
    ]

pub has_kept : (es : List Entry) (e : Entry) (i j : ℕ) → HasEntry es i j → HasEntry (es ++ e ∷ []) i j
has_kept es e i j (others, after, x, split, here, there) =
    (others, after ++ e ∷ [], x, push_place es others after x e split, here, there)

pub has_last : (es : List Entry) (e : Entry) (row column : ℕ) → begun_with (rows_begun es) e ≡ row + 1 → e.column ≡ column + 1
    → HasEntry (es ++ e ∷ []) row column
has_last es e row column in_row in_column = (es, [], e, refl, begun_more es e ∙ in_row, in_column)

-- a matrix with another entry
pub at_entry : (A : Matrix) (r c x : ℕ) → r < length A.entries → c < length (row A r) → at (with_entry A r c x) r c ≡ x
at_entry A r c x in_rows in_cols =
    ap (λ (l : List ℕ). get_or l c 0) (get_or-set_same A.entries r (set (row A r) c x) [] in_rows)
    ∙ get_or-set_same (row A r) c x 0 in_cols

pub at_other : (A : Matrix) (r c x i j : ℕ) → r < length A.entries → ((i ≡ r) × (j ≡ c) → ⊥) → at (with_entry A r c x) i j ≡ at A i j
at_other A r c x i j in_rows other =
    elim (cases_eq i r) [
      | inl same ↦
          ap (λ k. get_or (get_or (set A.entries r (set (row A r) c x)) k []) j 0) same
          ∙ ap (λ (l : List ℕ). get_or l j 0) (get_or-set_same A.entries r (set (row A r) c x) [] in_rows)
          ∙ get_or-set_other (row A r) c j x 0 (λ there. other (same, there))
          ∙ ap (λ k. get_or (get_or A.entries k []) j 0) (sym same)
      | inr apart ↦ ap (λ (l : List ℕ). get_or l j 0) (get_or-set_other A.entries r i (set (row A r) c x) [] apart)
    ]

-- the entry 1 in a matrix over GF(2)
pub IsMatrix-with_one : (A : Matrix) (r c : ℕ) → IsMatrix A → A.field ≡ gf2 → r < A.rows → IsMatrix (with_entry A r c 1)
IsMatrix-with_one A r c matrix field in_rows =
    let bits = AreBits-row A.cols A.entries r (AreRows-matrix A matrix field) (omega (arith, matrix.height)) in
    IsMatrix-with_row A r (set (row A r) c 1) matrix field (record {
      width = length-set (row A r) c 1 ∙ bits.width;
      elements = λ j below.
          elim (cases_eq j c) [
            | inl same ↦
                let read : get_or (set (row A r) c 1) j 0 ≡ 1 =
                ap (λ k. get_or (set (row A r) c 1) k 0) same ∙ get_or-set_same (row A r) c 1 0 (omega (arith, bits.width)) in
                omega (arith, read)
            | inr other ↦ subst (λ x. x < 2) (sym (get_or-set_other (row A r) c j 1 0 other)) (bits.elements j below)
          ];
    })

-- Entries are read up to a place, and the matrix has their ones beside those of the old.
pub record EntriesSoFar (bytes : List ℕ) (long : Bool) (start place begun : ℕ) (old A : Matrix) : Type 0 where
  pub words : List Token
  pub entries : List Entry
  pub split : judged_from bytes long start ≡ words ++ judged_from bytes long place
  pub spelled : SpellsEntries old.rows old.cols words entries
  pub count : rows_begun entries ≡ begun
  pub few : begun ≤ old.rows
  pub within : place ≤ length bytes
  pub matrix : IsMatrix A
  pub over_gf2 : A.field ≡ gf2
  pub rows : A.rows ≡ old.rows
  pub cols : A.cols ≡ old.cols
  pub kept : (i j : ℕ) → i < old.rows → j < old.cols → at A i j ≡ 1 → HasEntry entries i j ⊎ (at old i j ≡ 1)
  pub ones : (i j : ℕ) → HasEntry entries i j → at A i j ≡ 1

-- before the first entry
pub entries_begin : (bytes : List ℕ) (long : Bool) (start : ℕ) (old : Matrix) → start ≤ length bytes → IsMatrix old → old.field ≡ gf2
    → EntriesSoFar bytes long start start 0 old old
entries_begin bytes long start old within matrix field = record {
  words = [];
  entries = [];
  split = refl;
  spelled = no_entries old.rows old.cols;
  count = refl;
  few = omega arith;
  within = within;
  matrix = matrix;
  over_gf2 = field;
  rows = refl;
  cols = refl;
  kept = λ i j in_rows in_cols one. inr one;
  ones = λ i j (others, after, e, split, here, there). absurd (omega (arith, ap length split, length-append others (e ∷ after)));
}

-- the entry of a cell is taken
takes_cell : (m n : ℕ) (es : List Entry) (token : List ℕ) (row column : ℕ) (cell : IsCell token (rows_begun es) m n row column)
    → Takes m n es cell.e
takes_cell m n es token row column cell =
    let count : rows_begun (es ++ cell.e ∷ []) ≡ row + 1 = begun_more es cell.e ∙ cell.in_row in
    record {
      counted = omega (arith, cell.in_column);
      in_cols = omega (arith, cell.in_column, cell.in_cols);
      begun = omega (arith, count);
      in_rows = omega (arith, count, cell.in_rows);
    }

-- one entry more
pub entries_go_on : (bytes : List ℕ) (long : Bool) (start place begun from end row column : ℕ) (old A new : Matrix)
    → EntriesSoFar bytes long start place begun old A → IsNextToken bytes long place from end
    → IsCell (token_at bytes from end).bytes begun old.rows old.cols row column → new ≡ with_entry A row column 1
    → EntriesSoFar bytes long start end (row + 1) old new
entries_go_on bytes long start place begun from end r c old A new far next cell_found is =
    let t = token_at bytes from end in
    let cell = subst (λ b. IsCell t.bytes b old.rows old.cols r c) (sym far.count) cell_found in
    let es = far.entries in
    let e = cell.e in
    let in_entries : r < length A.entries = omega (arith, far.matrix.height, far.rows, cell.in_rows) in
    let in_row : c < length (row A r) = omega (arith, far.matrix.width r (omega (arith, far.rows, cell.in_rows)), far.cols, cell.in_cols) in
    subst (EntriesSoFar bytes long start end (r + 1) old) (sym is) (record {
      words = far.words ++ t ∷ [];
      entries = es ++ e ∷ [];
      split = far.split ∙ ap (λ w. far.words ++ w) next.next ∙ sym (append_assoc far.words (t ∷ []) (judged_from bytes long end));
      spelled = spells_more old.rows old.cols far.words es t e far.spelled cell.spelled
          (takes_cell old.rows old.cols es t.bytes r c cell);
      count = begun_more es e ∙ cell.in_row;
      few = omega (arith, cell.in_rows);
      within = next.within;
      matrix = IsMatrix-with_one A r c far.matrix far.over_gf2 (omega (arith, far.rows, cell.in_rows));
      over_gf2 = far.over_gf2;
      rows = far.rows;
      cols = far.cols;
      kept = λ i j in_rows in_cols one.
          elim (cases_eq i r) [
            | inl same_row ↦
                elim (cases_eq j c) [
                  | inl same_column ↦
                      inl (subst (λ k. HasEntry (es ++ e ∷ []) k j) (sym same_row)
                      (subst (λ k. HasEntry (es ++ e ∷ []) r k) (sym same_column) (has_last es e r c cell.in_row cell.in_column)))
                  | inr other ↦
                      elim (far.kept i j in_rows in_cols (sym (at_other A r c 1 i j in_entries (λ both. other both.1)) ∙ one)) [
                        | inl has ↦ inl (has_kept es e i j has)
                        | inr was ↦ inr was
                      ]
                ]
            | inr other ↦
                elim (far.kept i j in_rows in_cols (sym (at_other A r c 1 i j in_entries (λ both. other both.0)) ∙ one)) [
                  | inl has ↦ inl (has_kept es e i j has)
                  | inr was ↦ inr was
                ]
          ];
      ones = λ i j has.
          elim (has_more es e r c i j cell.in_row cell.in_column has) [
            | inl before ↦
                elim (cases_eq i r) [
                  | inl same_row ↦
                      elim (cases_eq j c) [
                        | inl same_column ↦
                            ap₂ (λ k l. at (with_entry A r c 1) k l) same_row same_column ∙ at_entry A r c 1 in_entries in_row
                        | inr other ↦ at_other A r c 1 i j in_entries (λ both. other both.1) ∙ far.ones i j before
                      ]
                  | inr other ↦ at_other A r c 1 i j in_entries (λ both. other both.0) ∙ far.ones i j before
                ]
            | inr here ↦ ap₂ (λ k l. at (with_entry A r c 1) k l) here.0 here.1 ∙ at_entry A r c 1 in_entries in_row
          ];
    })

-- an entry that isn't taken
pub entry_wrong : (bytes : List ℕ) (long : Bool) (start place begun from end : ℕ) (old A : Matrix)
    → EntriesSoFar bytes long start place begun old A → IsNextToken bytes long place from end
    → LacksCell (token_at bytes from end).bytes begun old.rows old.cols → RefusesEntry bytes long start old.rows old.cols from
entry_wrong bytes long start place begun from end old A far next lacks = record {
  before = far.words;
  token = token_at bytes from end;
  after = judged_from bytes long end;
  entries = far.entries;
  split = far.split ∙ ap (λ w. far.words ++ w) next.next;
  spelled = far.spelled;
  wrong = λ e is takes.
      let count = begun_more far.entries e in
      let now : begun_with begun e ≡ rows_begun (far.entries ++ e ∷ []) = ap (λ b. begun_with b e) (sym far.count) ∙ sym count in
      lacks (begun_with begun e - 1) (e.column - 1) (record {
        e = e;
        spelled = is;
        in_row = omega (arith, now, takes.begun);
        in_column = omega (arith, takes.counted);
        in_rows = omega (arith, now, takes.begun, takes.in_rows);
        in_cols = omega (arith, takes.counted, takes.in_cols);
      });
  here = refl;
}
