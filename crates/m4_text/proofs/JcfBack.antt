-- The text of a matrix, read back: most of it of JCF.
use Rattle.std.proofs.Common.{◌≡◌, ℕ, zero, suc, ◌+◌, ◌*◌, ◌^◌, ◌<◌, ◌≤◌, Bool, true, false, if◌then◌else◌, cond, ◌||◌, ◌&&◌, nat_lt, nat_le, ◌==◌, List, [], ◌∷◌, ◌++◌, length, get_or, map, flat_map, codes, decimal, Some, None, option_map, refl, sym, ◌∙◌, ap, ap₂, subst, arith, ◌⊎◌, inl, inr, append_assoc, length-append}
use Rattle.std.specs.Char.{IsAsciiDigit}
use Rattle.std.specs.Option.{IsSome}
use Rattle.std.specs.List.{AllByRecursion, sum_by}
use Rattle.std.specs.Str.{all_ascii_digits}
use Rattle.std.specs.Str.Parse.{digits_value}
use Rattle.std.proofs.lemmas.Bool.{ne_eqb, eq-eqb, lt-leb, lt-ltb, le-leb, and_right, and_from, cases_eq}
use Rattle.std.proofs.lemmas.List.{map-append}
use Rattle.std.proofs.lemmas.List.Sums.{sum_by-cons, sum_by-append}
use Rattle.std.proofs.lemmas.Fmt.{decimal_nonempty, length-decimal-le, digits_decimal, digits_value-decimal}
use Rattle.std.proofs.lemmas.Str.Parse.{IsNumeralModel, numerals_by_value, tells_all_ascii_digits}
use Rattle.m4_model.specs.Matrix.{Matrix, at}
use Rattle.m4_model.specs.Text.{InLimits}
use Rattle.m4_model.specs.Jcf.{Token, tokens, tokens_from, is_white, number, Entry, entry, rows_begun, HasJcfHeader, ReadsJcf, nonzero_columns, line_of_columns, nonzeros, jcf_header, jcf_text, CanBeJcf}
use Rattle.m4_model.specs.declared.form.Form.{Form}
use Rattle.m4_model.specs.Texts.{can_hold, text_as, ReadsAs}
use Rattle.m4_model.specs.declared.form.Form.TheVariants.{Headed, Bare, Jcf, Hex}
use Rattle.m4_text.proofs.Numbers.{AreDigits, AreDigits-decimal}
use Rattle.m4_text.proofs.Columns.{few_columns}
use Rattle.m4_text.proofs.Once.{small}
use Rattle.m4_text.proofs.TokenLemmas.{BeginsWhite, AreBlack, first_token, tokens_white, tokens_none}

-- Wherever the bytes stand, their tokens are these.
abbrev Words : List ℕ → List (List ℕ) → Type 0
Words bytes words = (p : ℕ) → map (λ (t : Token). t.bytes) (tokens_from p bytes) ≡ words

words_none : Words [] []
words_none p = ap (map (λ (t : Token). t.bytes)) (tokens_none p)

words_white : (byte : ℕ) (bytes : List ℕ) (words : List (List ℕ)) → is_white byte ≡ true → Words bytes words → Words (byte ∷ bytes) words
words_white byte bytes words white spelled p = ap (map (λ (t : Token). t.bytes)) (tokens_white p byte bytes white) ∙ spelled (p + 1)

-- Bytes that are one token.
record IsWord (w : List ℕ) : Type 0 where
  some : 0 < length w
  black : AreBlack w

words_more : (w rest : List ℕ) (words : List (List ℕ)) → IsWord w → BeginsWhite rest → Words rest words → Words (w ++ rest) (w ∷ words)
words_more [] rest words is white spelled p = absurd (omega (arith, is.some))
words_more (b ∷ w) rest words is white spelled p =
    ap (map (λ (t : Token). t.bytes)) (first_token p b w rest is.black.0 is.black.1 white)
    ∙ ap (λ l. (b ∷ w) ∷ l) (spelled (p + suc (length w)))

-- digits are no white space
black_digit : (byte : ℕ) → IsAsciiDigit byte → is_white byte ≡ false
black_digit byte digit =
    ap₂ (λ x y. x || y) (ne_eqb byte 32 (λ e. omega (arith, digit.0, e)))
    (and_right (nat_le 9 byte) (nat_le byte 13) (lt-leb byte 13 (omega (arith, digit.0))))

black_digits : (ds : List ℕ) → AreDigits ds → AreBlack ds
black_digits [] all = tt
black_digits (d ∷ ds) all = (black_digit d all.0, black_digits ds all.1)

decimal_word : (n : ℕ) → n < 2 ^ 64 → IsWord (decimal n)
decimal_word n small = record { some = decimal_nonempty n small; black = black_digits (decimal n) (AreDigits-decimal n small) }

signed_word : (n : ℕ) → n < 2 ^ 64 → IsWord (45 ∷ decimal n)
signed_word n small = record { some = omega arith; black = (refl, black_digits (decimal n) (AreDigits-decimal n small)) }

-- a decimal is its number, and an entry with and without a sign
own : IsNumeralModel (λ ds. all_ascii_digits ds ≡ true) (digits_value 10)
own = numerals_by_value (λ ds. all_ascii_digits ds ≡ true) tells_all_ascii_digits

number_decimal : (n : ℕ) → n < 10 ^ 18 → number (decimal n) ≡ Some n
number_decimal n small =
    let word : n < 2 ^ 64 = omega arith in
    let most : length (decimal n) ≤ 18 = length-decimal-le 18 n (omega arith) small word in
    let test : (all_ascii_digits (decimal n) && (nat_lt 0 (length (decimal n)) && nat_le (length (decimal n)) 18)) ≡ true =
    and_from _ _ (digits_decimal own n word) (and_from _ _ (lt-ltb 0 _ (decimal_nonempty n word)) (le-leb _ 18 most)) in
    ap (λ b. if b then Some (digits_value 10 (decimal n)) else None) test ∙ ap Some (digits_value-decimal own n word)

entry_signed : (n : ℕ) → n < 10 ^ 18 → entry (45 ∷ decimal n) ≡ Some (record { next_row = true; column = n })
entry_signed n small = ap (option_map (λ c. record { next_row = true; column = c })) (number_decimal n small)

entry_digits : (ds : List ℕ) (n : ℕ) → AreDigits ds → 0 < length ds → number ds ≡ Some n
    → entry ds ≡ Some (record { next_row = false; column = n })
entry_digits [] n all some is = absurd (omega (arith, some))
entry_digits (d ∷ ds) n all some is =
    ap (λ b. if b then option_map (λ c. record { next_row = true; column = c }) (number ds)
    else option_map (λ c. record { next_row = false; column = c }) (number (d ∷ ds)))
    (ne_eqb d 45 (λ e. omega (arith, all.0.0, e)))
    ∙ ap (option_map (λ c. record { next_row = false; column = c })) is

entry_decimal : (n : ℕ) → n < 10 ^ 18 → entry (decimal n) ≡ Some (record { next_row = false; column = n })
entry_decimal n small =
    let word : n < 2 ^ 64 = omega arith in
    entry_digits (decimal n) n (AreDigits-decimal n word) (decimal_nonempty n word) (number_decimal n small)

-- Columns that are small.
abbrev AreSmall : List ℕ → Type 0
AreSmall columns = AllByRecursion (λ c. c < 10 ^ 18) columns

small_columns : (k : ℕ) (es : List ℕ) → k + length es < 10 ^ 18 → AreSmall (nonzero_columns k es)
unfolding nonzero_columns
small_columns k [] few = tt
small_columns k (x ∷ es) few = by_test (x == 0) (small_columns (k + 1) es (omega (arith, few)))
  where
    by_test : (b : Bool) → AreSmall (nonzero_columns (k + 1) es) → AreSmall (if b then nonzero_columns (k + 1) es else k ∷ nonzero_columns (k + 1) es)
    by_test true rest = rest
    by_test false rest = (omega (arith, few), rest)

-- the tokens of a row, and its entries
row_words : List ℕ → List (List ℕ)
row_words [] = []
row_words (c ∷ cs) = (45 ∷ decimal c) ∷ map decimal cs

row_entries : List ℕ → List Entry
row_entries [] = []
row_entries (c ∷ cs) = record { next_row = true; column = c } ∷ map (λ d. record { next_row = false; column = d }) cs

further_white : (cs tail : List ℕ) → BeginsWhite (flat_map (λ d. codes " " ++ decimal d) cs ++ 10 ∷ tail)
further_white [] tail = refl
further_white (c ∷ cs) tail = refl

further_words : (cs tail : List ℕ) (words : List (List ℕ)) → AreSmall cs → Words tail words
    → Words (flat_map (λ d. codes " " ++ decimal d) cs ++ 10 ∷ tail) (map decimal cs ++ words)
further_words [] tail words small spelled = words_white 10 tail words refl spelled
further_words (c ∷ cs) tail words small spelled =
    let rest = flat_map (λ d. codes " " ++ decimal d) cs in
    let word : c < 2 ^ 64 = omega (arith, small.0) in
    let more : Words (decimal c ++ (rest ++ 10 ∷ tail)) (decimal c ∷ (map decimal cs ++ words)) =
    words_more (decimal c) (rest ++ 10 ∷ tail) (map decimal cs ++ words) (decimal_word c word) (further_white cs tail)
    (further_words cs tail words small.1 spelled) in
    subst (λ w. Words (32 ∷ w) (map decimal (c ∷ cs) ++ words)) (sym (append_assoc (decimal c) rest (10 ∷ tail)))
    (words_white 32 (decimal c ++ (rest ++ 10 ∷ tail)) _ refl more)

row_text : (cs tail : List ℕ) (words : List (List ℕ)) → AreSmall cs → Words tail words → Words (line_of_columns cs ++ tail) (row_words cs ++ words)
unfolding row_words
row_text [] tail words small spelled = spelled
row_text (c ∷ cs) tail words small spelled =
    let rest = flat_map (λ d. codes " " ++ decimal d) cs in
    let word : c < 2 ^ 64 = omega (arith, small.0) in
    let parts : (45 ∷ decimal c) ++ (rest ++ 10 ∷ tail) ≡ line_of_columns (c ∷ cs) ++ tail =
    sym (ap (λ w. 45 ∷ w) (append_assoc (decimal c) (rest ++ 10 ∷ []) tail ∙ ap (λ w. decimal c ++ w) (append_assoc rest (10 ∷ []) tail))) in
    subst (λ w. Words w (row_words (c ∷ cs) ++ words)) parts
    (words_more (45 ∷ decimal c) (rest ++ 10 ∷ tail) (map decimal cs ++ words) (signed_word c word) (further_white cs tail)
    (further_words cs tail words small.1 spelled))

-- the tokens of rows
rows_text : (rows : List (List ℕ)) → AllByRecursion (λ es. length es ≤ 65536) rows
    → Words (flat_map (λ es. line_of_columns (nonzero_columns 1 es)) rows) (flat_map (λ es. row_words (nonzero_columns 1 es)) rows)
rows_text [] short = words_none
rows_text (es ∷ rows) short =
    row_text (nonzero_columns 1 es) _ _ (small_columns 1 es (omega (arith, short.0))) (rows_text rows short.1)

-- a number with white space behind it
number_word : (n white : ℕ) (rest : List ℕ) (words : List (List ℕ)) → n < 10 ^ 18 → is_white white ≡ true → Words rest words
    → Words (decimal n ++ white ∷ rest) (decimal n ∷ words)
number_word n white rest words small is spelled =
    words_more (decimal n) (white ∷ rest) words (decimal_word n (omega arith)) is (words_white white rest words is spelled)

-- the tokens of a header and what stands behind it
header_words : (m n ones : ℕ) (rest : List ℕ) (words : List (List ℕ)) → m < 10 ^ 18 → n < 10 ^ 18 → ones < 10 ^ 18 → Words rest words
    → Words (jcf_header m n ones ++ rest) (decimal m ∷ decimal n ∷ (50 ∷ []) ∷ decimal ones ∷ words)
header_words m n ones rest words rows cols few spelled =
    let fourth = number_word ones 10 rest words few refl spelled in
    let third = words_more (50 ∷ []) (10 ∷ (decimal ones ++ 10 ∷ rest)) _ (record { some = omega arith; black = (refl, tt) }) refl
    (words_white 10 (decimal ones ++ 10 ∷ rest) _ refl fourth) in
    let second = number_word n 32 _ _ cols refl third in
    let first = number_word m 32 _ _ rows refl second in
    let parts : decimal m ++ 32 ∷ (decimal n ++ 32 ∷ 50 ∷ 10 ∷ (decimal ones ++ 10 ∷ rest)) ≡ jcf_header m n ones ++ rest = simp append_assoc in
    subst (λ w. Words w (decimal m ∷ decimal n ∷ (50 ∷ []) ∷ decimal ones ∷ words)) parts first

-- tokens spell the entries of rows
row_spelled : (cs : List ℕ) → AreSmall cs → map entry (row_words cs) ≡ map (λ (e : Entry). Some e) (row_entries cs)
unfolding row_words row_entries
row_spelled [] small = refl
row_spelled (c ∷ cs) small = ap₂ (λ h t. h ∷ t) (entry_signed c small.0) (rest cs small.1)
  where
    rest : (ds : List ℕ) → AreSmall ds
        → map entry (map decimal ds) ≡ map (λ (e : Entry). Some e) (map (λ d. record { next_row = false; column = d }) ds)
    rest [] few = refl
    rest (d ∷ ds) few = ap₂ (λ h t. h ∷ t) (entry_decimal d few.0) (rest ds few.1)

rows_spelled : (rows : List (List ℕ)) → AllByRecursion (λ es. length es ≤ 65536) rows
    → map entry (flat_map (λ es. row_words (nonzero_columns 1 es)) rows) ≡ map (λ (e : Entry). Some e) (flat_map (λ es. row_entries (nonzero_columns 1 es)) rows)
rows_spelled [] short = refl
rows_spelled (es ∷ rows) short =
    map-append entry (row_words (nonzero_columns 1 es)) _
    ∙ ap₂ (λ x y. x ++ y) (row_spelled (nonzero_columns 1 es) (small_columns 1 es (omega (arith, short.0)))) (rows_spelled rows short.1)
    ∙ sym (map-append (λ (e : Entry). Some e) (row_entries (nonzero_columns 1 es)) _)

-- A place in a list.
abbrev Has : {X : Type 0} → List X → X → Type 0
Has {X} xs x = (before after : List X) × (xs ≡ before ++ x ∷ after)

-- An entry that doesn't go to the next row.
abbrev further_entry : ℕ → Entry
further_entry c = record { next_row = false; column = c }

-- rows that entries begin
begun_cons : (e : Entry) (es : List Entry) → rows_begun (e ∷ es) ≡ (if e.next_row then 1 else 0) + rows_begun es
begun_cons e es = sum_by-cons (λ (x : Entry). cond x.next_row 1 0) e es

begun_both : (xs ys : List Entry) → rows_begun (xs ++ ys) ≡ rows_begun xs + rows_begun ys
begun_both xs ys = sum_by-append (λ (x : Entry). cond x.next_row 1 0) xs ys

begun_further : (cs : List ℕ) → rows_begun (map further_entry cs) ≡ 0
begun_further [] = refl
begun_further (c ∷ cs) = begun_cons (further_entry c) (map further_entry cs) ∙ ap (λ n. 0 + n) (begun_further cs)

-- a place among mapped items
map_place : (cs : List ℕ) (o a : List Entry) (e : Entry) → map further_entry cs ≡ o ++ e ∷ a
    → (b d : List ℕ) × (c : ℕ) × (cs ≡ b ++ c ∷ d) × (e ≡ further_entry c) × (o ≡ map further_entry b)
map_place [] o a e split = absurd (omega (arith, ap length split, length-append o (e ∷ a)))
map_place (c ∷ cs) [] a e split = let head : further_entry c ≡ e = cc (split) in ([], cs, c, refl, sym head, refl)
map_place (c ∷ cs) (x ∷ o) a e split =
    let head : further_entry c ≡ x = cc (split) in
    let rest : map further_entry cs ≡ o ++ e ∷ a = cc (split) in
    let (b, d, f, parts, is, front) = map_place cs o a e rest in
    (c ∷ b, d, f, ap (λ w. c ∷ w) parts, is, ap₂ (λ h t. h ∷ t) (sym head) front)

-- an entry of a row stands in one of its columns, and in the first row that begins
row_place : (cs : List ℕ) (o a : List Entry) (e : Entry) → row_entries cs ≡ o ++ e ∷ a
    → Has cs e.column × (rows_begun (o ++ e ∷ []) ≡ 1)
unfolding row_entries
row_place [] o a e split = absurd (omega (arith, ap length split, length-append o (e ∷ a)))
row_place (c ∷ cs) [] a e split =
    let head : record { next_row = true; column = c } ≡ e = cc (split) in (
      ([], cs, ap (λ (x : Entry). x.column ∷ cs) head),
      begun_cons e [] ∙ ap (λ (x : Entry). (if x.next_row then 1 else 0) + 0) (sym head),
    )
row_place (c ∷ cs) (x ∷ o) a e split =
    let head : record { next_row = true; column = c } ≡ x = cc (split) in
    let rest : map further_entry cs ≡ o ++ e ∷ a = cc (split) in
    let (b, d, f, parts, is, front) = map_place cs o a e rest in
    let none : rows_begun (o ++ e ∷ []) ≡ 0 =
    ap₂ (λ p y. rows_begun (p ++ y ∷ [])) front is ∙ ap rows_begun (sym (map-append further_entry b (f ∷ []))) ∙ begun_further (b ++ f ∷ []) in (
      (c ∷ b, d, ap (λ w. c ∷ w) parts ∙ ap (λ (y : Entry). c ∷ (b ++ y.column ∷ d)) (sym is)),
      begun_cons x (o ++ e ∷ []) ∙ ap₂ (λ (y : Entry) n. (if y.next_row then 1 else 0) + n) (sym head) none,
    )

row_has : (cs b d : List ℕ) (c : ℕ) → cs ≡ b ++ c ∷ d
    → (o a : List Entry) × (e : Entry) × (row_entries cs ≡ o ++ e ∷ a) × (rows_begun (o ++ e ∷ []) ≡ 1) × (e.column ≡ c)
unfolding row_entries
row_has cs [] d c split = ([], map further_entry d, record { next_row = true; column = c }, ap row_entries split, begun_cons (record { next_row = true; column = c }) [], refl)
row_has cs (x ∷ b) d c split =
    let first : Entry = record { next_row = true; column = x } in (
      first ∷ map further_entry b,
      map further_entry d,
      further_entry c,
      ap row_entries split ∙ ap (λ w. first ∷ w) (map-append further_entry b (c ∷ d)),
      begun_cons first (map further_entry b ++ further_entry c ∷ [])
          ∙ ap (λ n. 1 + n) (ap rows_begun (sym (map-append further_entry b (c ∷ []))) ∙ begun_further (b ++ c ∷ [])),
      refl,
    )

row_begins : (c : ℕ) (cs : List ℕ) → rows_begun (row_entries (c ∷ cs)) ≡ 1
unfolding row_entries
row_begins c cs = begun_cons (record { next_row = true; column = c }) (map further_entry cs) ∙ ap (λ n. 1 + n) (begun_further cs)

-- columns are those of entries that aren't 0
column_entry : (k : ℕ) (es b d : List ℕ) (c : ℕ) → nonzero_columns k es ≡ b ++ c ∷ d
    → (j : ℕ) × (j < length es) × (c ≡ k + j) × (get_or es j 0 ≡ 0 → ⊥)
unfolding nonzero_columns
column_entry k [] b d c split = absurd (omega (arith, ap length split, length-append b (c ∷ d)))
column_entry k (x ∷ es) b d c split =
    elim (cases_eq x 0) [
      | inl zero_entry ↦
          let rest = sym (ap (λ t. if t then nonzero_columns (k + 1) es else k ∷ nonzero_columns (k + 1) es) (eq-eqb x 0 zero_entry)) ∙ split in
          let (j, inside, here, other) = column_entry (k + 1) es b d c rest in
          (suc j, omega arith, omega (arith, here), other)
      | inr other ↦
          let rest = sym (ap (λ t. if t then nonzero_columns (k + 1) es else k ∷ nonzero_columns (k + 1) es) (ne_eqb x 0 other)) ∙ split in
          by_front (λ b' tail. column_entry (k + 1) es b' d c tail) b rest other
    ]
  where
    by_front : ((b' : List ℕ) → nonzero_columns (k + 1) es ≡ b' ++ c ∷ d → (j : ℕ) × (j < length es) × (c ≡ k + 1 + j) × (get_or es j 0 ≡ 0 → ⊥))
        → (b : List ℕ) → k ∷ nonzero_columns (k + 1) es ≡ b ++ c ∷ d → (x ≡ 0 → ⊥)
        → (j : ℕ) × (j < length (x ∷ es)) × (c ≡ k + j) × (get_or (x ∷ es) j 0 ≡ 0 → ⊥)
    by_front later [] e other = let head : k ≡ c = cc (e) in (0, omega arith, omega (arith, head), other)
    by_front later (y ∷ b) e other =
        let tail : nonzero_columns (k + 1) es ≡ b ++ c ∷ d = cc (e) in
        let (j, inside, here, apart) = later b tail in
        (suc j, omega arith, omega (arith, here), apart)

entry_column : (k : ℕ) (es : List ℕ) (j : ℕ) → j < length es → (get_or es j 0 ≡ 0 → ⊥) → Has (nonzero_columns k es) (k + j)
unfolding nonzero_columns
entry_column k [] j inside other = absurd (omega (arith, inside))
entry_column k (x ∷ es) zero inside other =
    let here : k ≡ k + 0 = omega arith in (
      [],
      nonzero_columns (k + 1) es,
      ap (λ t. if t then nonzero_columns (k + 1) es else k ∷ nonzero_columns (k + 1) es) (ne_eqb x 0 other)
          ∙ ap (λ h. h ∷ nonzero_columns (k + 1) es) here,
    )
entry_column k (x ∷ es) (suc j) inside other =
    let (b, d, split) = entry_column (k + 1) es j (omega (arith, inside)) other in
    let far : k + 1 + j ≡ k + suc j = omega arith in
    let parts : nonzero_columns (k + 1) es ≡ b ++ (k + suc j) ∷ d = split ∙ ap (λ c. b ++ c ∷ d) far in
    elim (cases_eq x 0) [
      | inl zero_entry ↦
          (b, d, ap (λ t. if t then nonzero_columns (k + 1) es else k ∷ nonzero_columns (k + 1) es) (eq-eqb x 0 zero_entry) ∙ parts)
      | inr apart ↦
          (k ∷ b, d, ap (λ t. if t then nonzero_columns (k + 1) es else k ∷ nonzero_columns (k + 1) es) (ne_eqb x 0 apart) ∙ ap (λ w. k ∷ w) parts)
    ]

-- a place in two lists end to end
append_place : {X : Type 0} (xs ys o a : List X) (e : X) → xs ++ ys ≡ o ++ e ∷ a
    → ((a' : List X) × (xs ≡ o ++ e ∷ a')) ⊎ ((o' : List X) × (o ≡ xs ++ o') × (ys ≡ o' ++ e ∷ a))
append_place [] ys o a e split = inr (o, refl, split)
append_place (x ∷ xs) ys [] a e split = let head : x ≡ e = cc (split) in inl (xs, ap (λ h. h ∷ xs) head)
append_place (x ∷ xs) ys (y ∷ o) a e split =
    let head : x ≡ y = cc (split) in
    let rest : xs ++ ys ≡ o ++ e ∷ a = cc (split) in
    elim (append_place xs ys o a e rest) [
      | inl (a', f) ↦ inl (a', ap₂ (λ h t. h ∷ t) head f)
      | inr (o', f, g) ↦ inr (o', ap₂ (λ h t. h ∷ t) (sym head) f, g)
    ]

-- Rows of zeros stand only last.
abbrev AreZero : List (List ℕ) → Type 0
AreZero rows = AllByRecursion (λ es. nonzero_columns 1 es ≡ []) rows

abbrev AreStacked : List (List ℕ) → Type 0
AreStacked [] = Unit {0}
AreStacked (es ∷ rows) = (nonzero_columns 1 es ≡ [] → AreZero rows) × AreStacked rows

zero_entries : (rows : List (List ℕ)) → AreZero rows → flat_map (λ es. row_entries (nonzero_columns 1 es)) rows ≡ []
unfolding row_entries
zero_entries [] zeros = refl
zero_entries (es ∷ rows) zeros = ap₂ (λ x y. row_entries x ++ y) zeros.0 (zero_entries rows zeros.1)

zero_at : (rows : List (List ℕ)) (k : ℕ) → AreZero rows → nonzero_columns 1 (get_or rows k []) ≡ []
unfolding nonzero_columns
zero_at [] k zeros = refl
zero_at (es ∷ rows) zero zeros = zeros.0
zero_at (es ∷ rows) (suc k) zeros = zero_at rows k zeros.1

-- the columns of a row are none, or they begin a row
columns_or_not : (cs : List ℕ) → (cs ≡ []) ⊎ (rows_begun (row_entries cs) ≡ 1)
columns_or_not [] = inl refl
columns_or_not (c ∷ cs) = inr (row_begins c cs)

-- an entry of rows stands in one of them
rows_place : (rows : List (List ℕ)) (o a : List Entry) (e : Entry) → AreStacked rows
    → flat_map (λ es. row_entries (nonzero_columns 1 es)) rows ≡ o ++ e ∷ a
    → (k : ℕ) × (k < length rows) × Has (nonzero_columns 1 (get_or rows k [])) e.column × (rows_begun (o ++ e ∷ []) ≡ k + 1)
rows_place [] o a e stacked split = absurd (omega (arith, ap length split, length-append o (e ∷ a)))
rows_place (es ∷ rows) o a e stacked split =
    let cs = nonzero_columns 1 es in
    elim (append_place (row_entries cs) (flat_map (λ fs. row_entries (nonzero_columns 1 fs)) rows) o a e split) [
      | inl (a', here) ↦ let (has, count) = row_place cs o a' e here in (0, omega arith, has, count)
      | inr (o', front, there) ↦
          let (k, below, has, count) = rows_place rows o' a e stacked.1 there in
          elim (columns_or_not cs) [
            | inl none ↦
                let empty = sym (zero_entries rows (stacked.0 none)) ∙ there in
                absurd (omega (arith, ap length empty, length-append o' (e ∷ a)))
            | inr one ↦
                let parts : rows_begun (o ++ e ∷ []) ≡ rows_begun (row_entries cs) + rows_begun (o' ++ e ∷ []) =
                ap (λ w. rows_begun (w ++ e ∷ [])) front ∙ ap rows_begun (append_assoc (row_entries cs) o' (e ∷ [])) ∙ begun_both (row_entries cs) (o' ++ e ∷ []) in
                (suc k, omega arith, has, omega (arith, parts, one, count))
          ]
    ]

rows_have : (rows : List (List ℕ)) (k c : ℕ) → AreStacked rows → k < length rows → Has (nonzero_columns 1 (get_or rows k [])) c
    → (o a : List Entry) × (e : Entry) × (flat_map (λ es. row_entries (nonzero_columns 1 es)) rows ≡ o ++ e ∷ a)
    × (rows_begun (o ++ e ∷ []) ≡ k + 1) × (e.column ≡ c)
rows_have [] k c stacked below has = absurd (omega (arith, below))
rows_have (es ∷ rows) zero c stacked below (b, d, has) =
    let rest = flat_map (λ fs. row_entries (nonzero_columns 1 fs)) rows in
    let (o, a, e, split, count, is) = row_has (nonzero_columns 1 es) b d c has in
    (o, a ++ rest, e, ap (λ w. w ++ rest) split ∙ append_assoc o (e ∷ a) rest, count, is)
rows_have (es ∷ rows) (suc k) c stacked below has =
    let cs = nonzero_columns 1 es in
    let (o, a, e, split, count, is) = rows_have rows k c stacked.1 (omega (arith, below)) has in
    elim (columns_or_not cs) [
      | inl none ↦
          let empty = sym (zero_at rows k (stacked.0 none)) ∙ has.2 in
          absurd (omega (arith, ap length empty, length-append has.0 (c ∷ has.1)))
      | inr one ↦ (
        row_entries cs ++ o,
        a,
        e,
        ap (λ w. row_entries cs ++ w) split ∙ sym (append_assoc (row_entries cs) o (e ∷ a)),
        ap rows_begun (append_assoc (row_entries cs) o (e ∷ [])) ∙ begun_both (row_entries cs) (o ++ e ∷ []) ∙ added one count,
        is,
      )
    ]
  where
    added : {x y : ℕ} → x ≡ 1 → y ≡ k + 1 → x + y ≡ suc k + 1
    added one count = omega arith

-- what holds of each row by its number holds of all
by_number : (P : List ℕ → Type 0) (rows : List (List ℕ)) → ((i : ℕ) → i < length rows → P (get_or rows i [])) → AllByRecursion P rows
by_number P [] each = tt
by_number P (es ∷ rows) each = (each 0 (omega arith), by_number P rows (λ i below. each (suc i) (omega (arith, below))))

stacked_by_number : (rows : List (List ℕ))
    → ((i j : ℕ) → i < j → j < length rows → nonzero_columns 1 (get_or rows i []) ≡ [] → nonzero_columns 1 (get_or rows j []) ≡ [])
    → AreStacked rows
stacked_by_number [] held = tt
stacked_by_number (es ∷ rows) held = (
  λ none. by_number (λ fs. nonzero_columns 1 fs ≡ []) rows (λ i below. held 0 (suc i) (omega arith) (omega (arith, below)) none),
  stacked_by_number rows (λ i j less below. held (suc i) (suc j) (omega (arith, less)) (omega (arith, below))),
)

-- a matrix within the limits has few ones
few_ones : (rows : List (List ℕ)) → AllByRecursion (λ es. length es ≤ 65536) rows
    → sum_by (λ es. length (nonzero_columns 1 es)) rows ≤ length rows * 65536
few_ones [] short = omega arith
few_ones (es ∷ rows) short =
    omega (arith, sum_by-cons (λ (fs : List ℕ). length (nonzero_columns 1 fs)) es rows, few_columns 1 es, short.0, few_ones rows short.1)

-- the first of tokens with these bytes
first_of_words : (ts : List Token) (w : List ℕ) (ws : List (List ℕ)) → map (λ (t : Token). t.bytes) ts ≡ w ∷ ws
    → (t : Token) × (rest : List Token) × (ts ≡ t ∷ rest) × (t.bytes ≡ w) × (map (λ (u : Token). u.bytes) rest ≡ ws)
first_of_words [] w ws e = absurd (omega (arith, ap length e))
first_of_words (t ∷ ts) w ws e =
    let head : t.bytes ≡ w = cc (e) in
    let rest : map (λ (u : Token). u.bytes) ts ≡ ws = cc (e) in
    (t, ts, refl, head, rest)

entries_by_bytes : (ts : List Token) → map (λ (t : Token). entry t.bytes) ts ≡ map entry (map (λ (t : Token). t.bytes) ts)
entries_by_bytes [] = refl
entries_by_bytes (t ∷ ts) = ap (λ l. entry t.bytes ∷ l) (entries_by_bytes ts)

-- a header of tokens with the bytes of one
header_of_words : (ts : List Token) (m n ones : ℕ) (ws : List (List ℕ)) → m < 10 ^ 18 → n < 10 ^ 18 → ones < 10 ^ 18
    → map (λ (t : Token). t.bytes) ts ≡ decimal m ∷ decimal n ∷ (50 ∷ []) ∷ decimal ones ∷ ws
    → (rest : List Token) × HasJcfHeader ts m n rest × (map (λ (t : Token). t.bytes) rest ≡ ws)
header_of_words ts m n ones ws rows cols few e =
    let (a, us, e1, a_is, more1) = first_of_words ts _ _ e in
    let (b, vs, e2, b_is, more2) = first_of_words us _ _ more1 in
    let (c, xs, e3, c_is, more3) = first_of_words vs _ _ more2 in
    let (d, ys, e4, d_is, more4) = first_of_words xs _ _ more3 in (
      ys,
      record {
        first = a;
        second = b;
        third = c;
        fourth = d;
        four = e1 ∙ ap (λ w. a ∷ w) (e2 ∙ ap (λ w. b ∷ w) (e3 ∙ ap (λ w. c ∷ w) e4));
        rows = ap number a_is ∙ number_decimal m rows;
        cols = ap number b_is ∙ number_decimal n cols;
        modulus = ap number c_is;
        unused = subst IsSome (sym (ap number d_is ∙ number_decimal ones few)) refl;
      },
      more4,
    )

-- the text of a matrix within the limits is read as the matrix
module _ (M : Matrix) (accepted : InLimits M) (held : CanBeJcf M) where
  short_rows : AllByRecursion (λ es. length es ≤ 65536) M.entries
  short_rows =
      by_number (λ es. length es ≤ 65536) M.entries (λ i below.
      let wide = accepted.matrix.width i (omega (arith, accepted.matrix.height)) in omega (arith, wide, accepted.limits.cols))

  stacked : AreStacked M.entries
  stacked = stacked_by_number M.entries (λ i j less below. held i j less (omega (arith, accepted.matrix.height)))

  all_words : map (λ (t : Token). t.bytes) (tokens (jcf_text M))
      ≡ decimal M.rows ∷ decimal M.cols ∷ (50 ∷ []) ∷ decimal (nonzeros M) ∷ flat_map (λ es. row_words (nonzero_columns 1 es)) M.entries
  all_words =
      header_words M.rows M.cols (nonzeros M) _ _ (omega (arith, accepted.limits.rows)) (omega (arith, accepted.limits.cols))
      (omega (arith, few_ones M.entries short_rows, accepted.matrix.height, accepted.limits.rows)) (rows_text M.entries short_rows) 0

  -- where an entry stands
  place : (o a : List Entry) (e : Entry) → flat_map (λ es. row_entries (nonzero_columns 1 es)) M.entries ≡ o ++ e ∷ a
      → (k j : ℕ) × (k < M.rows) × (j < M.cols) × (rows_begun (o ++ e ∷ []) ≡ k + 1) × (e.column ≡ j + 1) × (at M k j ≡ 1)
  place o a e split =
      let (k, below, has, count) = rows_place M.entries o a e stacked split in
      let (j, inside, here, other) = column_entry 1 (get_or M.entries k []) has.0 has.1 e.column has.2 in
      let in_rows : k < M.rows = omega (arith, accepted.matrix.height) in
      let in_cols : j < M.cols = omega (arith, accepted.matrix.width k in_rows) in
      let few : at M k j < 2 = small M k j accepted.matrix accepted.over_gf2 in_rows in_cols in
      (k, j, in_rows, in_cols, count, omega (arith, here), one_of_two (at M k j) few other)
    where
      one_of_two : (x : ℕ) → x < 2 → (x ≡ 0 → ⊥) → x ≡ 1
      one_of_two zero few other = absurd (other refl)
      one_of_two (suc zero) few other = refl
      one_of_two (suc (suc x)) few other = absurd (omega (arith, few))

  pub jcf_read_back : length (jcf_text M) ≤ 2 ^ 29 → ReadsJcf (jcf_text M) M
  jcf_read_back short =
      let (rest, header, words) = header_of_words (tokens (jcf_text M)) M.rows M.cols (nonzeros M) _ (omega (arith, accepted.limits.rows))
      (omega (arith, accepted.limits.cols)) (omega (arith, few_ones M.entries short_rows, accepted.matrix.height, accepted.limits.rows)) all_words in
      record {
        short = short;
        accepted = accepted;
        entries = flat_map (λ es. row_entries (nonzero_columns 1 es)) M.entries;
        spelled = record {
          rest = rest;
          header = header;
          body = record {
            spelled = entries_by_bytes rest ∙ ap (map entry) words ∙ rows_spelled M.entries short_rows;
            taken = λ others after e split.
                let (k, j, in_rows, in_cols, count, column, one) = place others after e split in
                record {
                  counted = omega (arith, column);
                  in_cols = omega (arith, column);
                  begun = omega (arith, count);
                  in_rows = omega (arith, count);
                };
          };
        };
        ones = λ i j in_rows in_cols. (
          λ one.
              let has = entry_column 1 (get_or M.entries i []) j (omega (arith, accepted.matrix.width i in_rows)) (λ none. omega (arith, one, none)) in
              let (o, a, e, split, count, column) = rows_have M.entries i (1 + j) stacked (omega (arith, accepted.matrix.height)) has in
              (o, a, e, split, count, omega (arith, column)),
          λ (o, a, e, split, count, column).
              let (k, l, below, inside, counted, there, one) = place o a e split in
              let same_row : k ≡ i = omega (arith, count, counted) in
              let same_column : l ≡ j = omega (arith, column, there) in
              ap₂ (at M) (sym same_row) (sym same_column) ∙ one,
        );
      }

-- a text is read back
pub read_back : (form : Form) (M : Matrix) → InLimits M → can_hold form M → length (text_as form M) ≤ 2 ^ 29
    → ReadsAs form (text_as form M) M
read_back Headed M accepted held short = record { accepted = accepted; spelled = refl }
read_back Bare M accepted held short = record { accepted = accepted; held = held; spelled = refl }
read_back Jcf M accepted held short = jcf_read_back M accepted held short
read_back Hex M accepted held short = absurd held
