-- The columns of the ones of a row, and their text, one entry after the other.
use Rattle.std.proofs.Common.{◌≡◌, ℕ, suc, ◌+◌, ◌<◌, ◌≤◌, List, [], ◌∷◌, ◌++◌, length, get_or, take, drop, flat_map, codes, decimal, Bool, true, false, if◌then◌else◌, refl, sym, ◌∙◌, ap, ap₂, arith, append_assoc, append-nil, length-append, take-append-drop, take_all, ◌==◌}
use Rattle.std.proofs.lemmas.Bool.{eq-eqb, ne_eqb}
use Rattle.std.proofs.lemmas.List.{take_more, length-take-le}
use Rattle.std.proofs.lemmas.List.Concat.{flat_map-append}
use Rattle.m4_model.specs.Jcf.{nonzero_columns, line_of_columns, jcf_header}

-- a choice before lists that are joined
chosen : (b : Bool) (k : ℕ) (all xs ys : List ℕ) → all ≡ xs ++ ys → (if b then all else k ∷ all) ≡ (if b then xs else k ∷ xs) ++ ys
chosen true k all xs ys e = e
chosen false k all xs ys e = ap (λ w. k ∷ w) e

-- the columns of a row's front and of its rest
pub columns_joined : (k : ℕ) (xs ys : List ℕ) → nonzero_columns k (xs ++ ys) ≡ nonzero_columns k xs ++ nonzero_columns (k + length xs) ys
unfolding nonzero_columns
columns_joined k [] ys = let same : k ≡ k + 0 = omega arith in ap (λ j. nonzero_columns j ys) same
columns_joined k (x ∷ xs) ys =
    let same : k + 1 + length xs ≡ k + length (x ∷ xs) = omega arith in
    chosen (x == 0) k _ _ _ (columns_joined (k + 1) xs ys ∙ ap (λ j. nonzero_columns (k + 1) xs ++ nonzero_columns j ys) same)

-- a column with a 0 and one with a 1
column_of_zero : (k x : ℕ) → x ≡ 0 → nonzero_columns k (x ∷ []) ≡ []
unfolding nonzero_columns
column_of_zero k x is = ap (λ b. if b then [] else k ∷ []) (eq-eqb x 0 is)

column_of_one : (k x : ℕ) → (x ≡ 0 → ⊥) → nonzero_columns k (x ∷ []) ≡ k ∷ []
unfolding nonzero_columns
column_of_one k x is = ap (λ b. if b then [] else k ∷ []) (ne_eqb x 0 is)

-- The columns of the first c entries.
abbrev pub columns_so_far : List ℕ → ℕ → List ℕ
columns_so_far entries c = nonzero_columns 1 (take c entries)

-- before the first entry
pub columns_begin : (entries : List ℕ) → columns_so_far entries 0 ≡ []
unfolding nonzero_columns
columns_begin entries = refl

columns_more : (entries : List ℕ) (c : ℕ) → c < length entries
    → columns_so_far entries (c + 1) ≡ columns_so_far entries c ++ nonzero_columns (c + 1) (get_or entries c 0 ∷ [])
columns_more entries c inside =
    let here : 1 + length (take c entries) ≡ c + 1 = omega (arith, length-take-le c entries (omega arith)) in
    ap (nonzero_columns 1) (take_more entries c 0 inside)
    ∙ columns_joined 1 (take c entries) (get_or entries c 0 ∷ [])
    ∙ ap (λ k. columns_so_far entries c ++ nonzero_columns k (get_or entries c 0 ∷ [])) here

pub column_passed : (entries : List ℕ) (c : ℕ) → c < length entries → get_or entries c 0 ≡ 0
    → columns_so_far entries (c + 1) ≡ columns_so_far entries c
column_passed entries c inside is =
    columns_more entries c inside ∙ ap (λ w. columns_so_far entries c ++ w) (column_of_zero (c + 1) (get_or entries c 0) is) ∙ append-nil _

pub column_found : (entries : List ℕ) (c : ℕ) → c < length entries → get_or entries c 0 ≡ 1
    → columns_so_far entries (c + 1) ≡ columns_so_far entries c ++ (c + 1) ∷ []
column_found entries c inside is =
    columns_more entries c inside
    ∙ ap (λ w. columns_so_far entries c ++ w) (column_of_one (c + 1) (get_or entries c 0) (λ none. omega (arith, is, none)))

-- the columns of a front begin those of the row
pub columns_split : (entries : List ℕ) (c : ℕ) → c ≤ length entries
    → nonzero_columns 1 entries ≡ columns_so_far entries c ++ nonzero_columns (c + 1) (drop c entries)
columns_split entries c inside =
    let here : 1 + length (take c entries) ≡ c + 1 = omega (arith, length-take-le c entries inside) in
    ap (nonzero_columns 1) (sym (take-append-drop c entries))
    ∙ columns_joined 1 (take c entries) (drop c entries)
    ∙ ap (λ k. columns_so_far entries c ++ nonzero_columns k (drop c entries)) here

-- The text of columns behind the first.
abbrev further : List ℕ → List ℕ
further cs = flat_map (λ d. codes " " ++ decimal d) cs

-- The text of the first columns of a row, without its line feed.
abbrev pub columns_text : List ℕ → List ℕ
columns_text [] = []
columns_text (c ∷ cs) = codes "-" ++ (decimal c ++ further cs)

-- one column more
pub column_written : (first : Bool) (cs : List ℕ) (c : ℕ) → (first ≡ true → cs ≡ []) → (first ≡ false → 0 < length cs)
    → columns_text (cs ++ c ∷ []) ≡ columns_text cs ++ ((if first then 45 else 32) ∷ decimal c)
column_written true cs c none some = let e = none refl in ap (λ w. columns_text (w ++ c ∷ [])) e ∙ one ∙ sym (ap (λ w. columns_text w ++ 45 ∷ decimal c) e)
  where
    one : columns_text (c ∷ []) ≡ 45 ∷ decimal c
    one = ap (λ w. 45 ∷ w) (append-nil (decimal c))
column_written false [] c none some = absurd (omega (arith, some refl))
column_written false (b ∷ cs) c none some =
    ap (λ w. 45 ∷ (decimal b ++ w)) (flat_map-append (λ d. codes " " ++ decimal d) cs (c ∷ []))
    ∙ ap (λ w. 45 ∷ (decimal b ++ (further cs ++ 32 ∷ w))) (append-nil (decimal c))
    ∙ ap (λ w. 45 ∷ w) (sym (append_assoc (decimal b) (further cs) (32 ∷ decimal c)))

-- a line is some columns and the rest of it
pub line_split : (cs ds : List ℕ) → 0 < length cs → line_of_columns (cs ++ ds) ≡ columns_text cs ++ (further ds ++ 10 ∷ [])
line_split [] ds some = absurd (omega (arith, some))
line_split (c ∷ cs) ds some =
    ap (λ w. 45 ∷ (decimal c ++ (w ++ 10 ∷ []))) (flat_map-append (λ d. codes " " ++ decimal d) cs ds)
    ∙ ap (λ w. 45 ∷ (decimal c ++ w)) (append_assoc (further cs) (further ds) (10 ∷ []))
    ∙ ap (λ w. 45 ∷ w) (sym (append_assoc (decimal c) (further cs) (further ds ++ 10 ∷ [])))

pub line_ended : (cs : List ℕ) → 0 < length cs → line_of_columns cs ≡ columns_text cs ++ 10 ∷ []
line_ended cs some = ap line_of_columns (sym (append-nil cs)) ∙ line_split cs [] some

-- a row has no more ones than entries
pub few_columns : (k : ℕ) (entries : List ℕ) → length (nonzero_columns k entries) ≤ length entries
unfolding nonzero_columns
few_columns k [] = omega arith
few_columns k (x ∷ xs) = by_test (x == 0) (few_columns (k + 1) xs)
  where
    by_test : (b : Bool) → length (nonzero_columns (k + 1) xs) ≤ length xs
        → length (if b then nonzero_columns (k + 1) xs else k ∷ nonzero_columns (k + 1) xs) ≤ suc (length xs)
    by_test true few = omega arith
    by_test false few = omega arith

-- after the last entry
pub columns_end : (entries : List ℕ) (c : ℕ) → length entries ≡ c → columns_so_far entries c ≡ nonzero_columns 1 entries
columns_end entries c all = ap (nonzero_columns 1) (take_all c entries (omega (arith, all)))

-- the line of a row of which a column is written, and those behind it are not
pub line_at : (entries : List ℕ) (c : ℕ) (first : Bool) (byte : ℕ) → byte ≡ (if first then 45 else 32)
    → c < length entries → get_or entries c 0 ≡ 1
    → (first ≡ true → columns_so_far entries c ≡ []) → (first ≡ false → 0 < length (columns_so_far entries c))
    → line_of_columns (nonzero_columns 1 entries)
    ≡ (columns_text (columns_so_far entries c) ++ (byte ∷ decimal (c + 1)))
    ++ (further (nonzero_columns (c + 1 + 1) (drop (c + 1) entries)) ++ 10 ∷ [])
line_at entries c first byte before inside is none some =
    let rest = nonzero_columns (c + 1 + 1) (drop (c + 1) entries) in
    let found = column_found entries c inside is in
    let nonempty : 0 < length (columns_so_far entries (c + 1)) =
    omega (arith, ap length found, length-append (columns_so_far entries c) ((c + 1) ∷ [])) in
    ap line_of_columns (columns_split entries (c + 1) (omega arith))
    ∙ line_split (columns_so_far entries (c + 1)) rest nonempty
    ∙ ap (λ w. columns_text w ++ (further rest ++ 10 ∷ [])) found
    ∙ ap (λ w. w ++ (further rest ++ 10 ∷ [])) (column_written first (columns_so_far entries c) (c + 1) none some)
    ∙ ap (λ b. (columns_text (columns_so_far entries c) ++ (b ∷ decimal (c + 1))) ++ (further rest ++ 10 ∷ [])) (sym before)

-- a header in the pieces that are written
pub jcf_header_parts : (m n ones k l : ℕ) → k ≡ m → l ≡ n
    → jcf_header m n ones ≡ (((decimal k ++ 32 ∷ []) ++ (decimal l ++ 32 ∷ [])) ++ codes "2\n") ++ (decimal ones ++ 10 ∷ [])
jcf_header_parts m n ones k l rows cols =
    sym (ap₂ (λ x y. (((decimal x ++ 32 ∷ []) ++ (decimal y ++ 32 ∷ [])) ++ codes "2\n") ++ (decimal ones ++ 10 ∷ [])) rows cols ∙ simp append_assoc)
