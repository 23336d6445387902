-- The laws of texts: bytes are read as at most one matrix, or refused with at most one fault, and never both.
use Rattle.std.proofs.Common.{◌≡◌, ℕ, ◌+◌, ◌^◌, ◌<◌, List, [], ◌∷◌, ◌++◌, length, take, map, flat_map, Some, refl, sym, ◌∙◌, ap, ap₂, subst, subst₂, arith, ◌⊎◌, inl, inr, append_assoc}
use Rattle.std.proofs.lemmas.Bool.{cases_eq, cases_order}
use Rattle.std.proofs.lemmas.List.{append_cancel_left, append_cancel_right}
use Rattle.m4_model.specs.Field.{Field, gf2}
use Rattle.m4_model.specs.Matrix.{Matrix, IsMatrix, at}
use Rattle.m4_model.specs.Text.{IsLongest, Begins, Reads, Refusal, Fault, BadAt, PastLimit, IsWithinLimits, IsTextOf, header, line}
use Rattle.m4_model.specs.Bare.{ReadsBare, RefusalBare, IsBareInLimits, IsBareFile}
use Rattle.m4_model.specs.Jcf.{Token, Entry, entry, tokens, judged, HasJcfHeader, IsJcf, BeginsJcf, IsFirstRefused, HasEntry, ReadsJcf, RefusalJcf, PassesLimit}
use Rattle.m4_model.specs.declared.form.Form.{Form}
use Rattle.m4_model.specs.Texts.{ReadsAs, RefusalAs}
use Rattle.m4_model.specs.declared.form.Form.TheVariants.{Headed, Bare, Jcf, Hex}
use Rattle.m4_model.proofs.MatrixLemmas.{same_parts, same_matrix}
use Rattle.m4_text.specs.Place.{IsLine}
use Rattle.m4_text.proofs.Fronts.{same_parts as same_fronts}
use Rattle.m4_text.proofs.Lines.{IsPrefixFree-line}
use Rattle.m4_text.proofs.Bodies.{AreRows, AreRows-matrix}
use Rattle.m4_text.proofs.Refusals.{same_sizes, read_or_refused, own_header}
use Rattle.m4_text.proofs.Bares.{same_shape, read_or_refused as never_bare}
use Rattle.m4_text.proofs.JcfHeaders.{begins_all}
use Rattle.m4_text.proofs.JcfRefusals.{header_same, judged_all, within_limits}
use Rattle.m4_text.proofs.Decided.{headed_or_not, bare_or_not}
use Rattle.m4_text.proofs.JcfDecided.{jcf_or_not}

-- the longest front has one length
longest_once : (P : List ℕ → Type 0) (bytes : List ℕ) (m n : ℕ) → IsLongest P bytes m → IsLongest P bytes n → m ≡ n
longest_once P bytes m n first second =
    elim (cases_order m n) [
      | inl same ↦ same
      | inr (inl less) ↦ absurd (first.longest n less second.within second.begins)
      | inr (inr more) ↦ absurd (second.longest m more first.within first.begins)
    ]

-- digits tell their entries
digits_once : (xs ys : List ℕ) → map (λ x. 48 + x) xs ≡ map (λ x. 48 + x) ys → xs ≡ ys
digits_once [] [] e = refl
digits_once [] (y ∷ ys) e = absurd (omega (arith, ap length e))
digits_once (x ∷ xs) [] e = absurd (omega (arith, ap length e))
digits_once (x ∷ xs) (y ∷ ys) e =
    let head : 48 + x ≡ 48 + y = cc in
    let rest : map (λ x. 48 + x) xs ≡ map (λ x. 48 + x) ys = cc in
    let same : x ≡ y = omega arith in
    ap₂ (λ h t. h ∷ t) same (digits_once xs ys rest)

-- lines tell their rows
rows_once : (n : ℕ) (xs ys : List (List ℕ)) → AreRows n xs → AreRows n ys → length xs ≡ length ys → flat_map line xs ≡ flat_map line ys → xs ≡ ys
rows_once n [] [] first second same e = refl
rows_once n [] (y ∷ ys) first second same e = absurd (omega (arith, same))
rows_once n (x ∷ xs) [] first second same e = absurd (omega (arith, same))
rows_once n (x ∷ xs) (y ∷ ys) first second same e =
    let parts = same_fronts (IsLine n) (IsPrefixFree-line n) (line x) (flat_map line xs) (line y) (flat_map line ys) (x, first.0, refl) (y, second.0, refl) e in
    let head = digits_once x y (append_cancel_right (map (λ z. 48 + z) x) (map (λ z. 48 + z) y) (10 ∷ []) parts.0) in
    ap₂ (λ h t. h ∷ t) head (rows_once n xs ys first.1 second.1 (omega (arith, same)) parts.1)

-- matrices over GF(2) of one shape with the same lines are equal
same_lines : (A B : Matrix) → IsMatrix A → IsMatrix B → A.field ≡ gf2 → B.field ≡ gf2 → A.rows ≡ B.rows → A.cols ≡ B.cols
    → flat_map line A.entries ≡ flat_map line B.entries → A ≡ B
same_lines A B a b field field' rows cols e =
    same_parts A B (field ∙ sym field') rows cols
    (rows_once B.cols A.entries B.entries (subst (λ n. AreRows n A.entries) cols (AreRows-matrix A a field)) (AreRows-matrix B b field')
    (omega (arith, a.height, b.height, rows)) e)

-- headed text is read as one matrix, and refused with one fault
read_once : (bytes : List ℕ) (A B : Matrix) → Reads bytes A → Reads bytes B → A ≡ B
read_once bytes A B first second =
    let (rows, cols) = same_sizes bytes A.rows A.cols B.rows B.cols (own_header bytes A first) (own_header bytes B second) in
    let whole : header A.rows A.cols ++ flat_map line A.entries ≡ header A.rows A.cols ++ flat_map line B.entries =
    sym first.spelled ∙ second.spelled ∙ ap₂ (λ m n. header m n ++ flat_map line B.entries) (sym rows) (sym cols) in
    same_lines A B first.accepted.matrix second.accepted.matrix first.accepted.over_gf2 second.accepted.over_gf2 rows cols
    (append_cancel_left (header A.rows A.cols) (flat_map line A.entries) (flat_map line B.entries) whole)

refused_once : (bytes : List ℕ) (f g : Fault) → Refusal bytes f → Refusal bytes g → f ≡ g
refused_once bytes (BadAt p) (BadAt q) (inl first) (inl second) = ap BadAt (longest_once _ bytes p q first.longest second.longest)
refused_once bytes (BadAt p) (BadAt q) (inl first) (inr (m, n, second)) = absurd (first.none m n second.begins)
refused_once bytes (BadAt p) (BadAt q) (inr (m, n, first)) (inl second) = absurd (second.none m n first.begins)
refused_once bytes (BadAt p) (BadAt q) (inr (m, n, first)) (inr (k, l, second)) =
    let (rows, cols) = same_sizes bytes k l m n second.begins first.begins in
    ap BadAt (longest_once _ bytes p q first.longest (subst₂ (λ i j. IsLongest (IsTextOf i j) bytes q) rows cols second.longest))
refused_once bytes (BadAt p) PastLimit (inl first) (m, n, has, past) = absurd (first.none m n has)
refused_once bytes (BadAt p) PastLimit (inr (m, n, first)) (k, l, has, past) =
    let (rows, cols) = same_sizes bytes m n k l first.begins has in absurd (past (subst₂ (IsWithinLimits 1) rows cols first.limits))
refused_once bytes PastLimit (BadAt q) (m, n, has, past) (inl second) = absurd (second.none m n has)
refused_once bytes PastLimit (BadAt q) (k, l, has, past) (inr (m, n, second)) =
    let (rows, cols) = same_sizes bytes m n k l second.begins has in absurd (past (subst₂ (IsWithinLimits 1) rows cols second.limits))
refused_once bytes PastLimit PastLimit first second = refl

-- bare text
bare_once : (bytes : List ℕ) (A B : Matrix) → ReadsBare bytes A → ReadsBare bytes B → A ≡ B
bare_once bytes A B first second =
    let (rows, cols) = same_shape bytes A B first second in
    same_lines A B first.accepted.matrix second.accepted.matrix first.accepted.over_gf2 second.accepted.over_gf2 rows cols
    (sym first.spelled ∙ second.spelled)

bare_refused_once : (bytes : List ℕ) (f g : Fault) → RefusalBare bytes f → RefusalBare bytes g → f ≡ g
bare_refused_once bytes (BadAt p) (BadAt q) first second = ap BadAt (longest_once IsBareInLimits bytes p q first.longest second.longest)
bare_refused_once bytes (BadAt p) PastLimit first (q, second) =
    let same = longest_once IsBareInLimits bytes q p second.longest first.longest in
    absurd (first.wrong (omega (arith, same, second.inside)) (subst (λ k. Begins IsBareFile (take (k + 1) bytes)) same second.allowed))
bare_refused_once bytes PastLimit (BadAt q) (p, first) second =
    let same = longest_once IsBareInLimits bytes p q first.longest second.longest in
    absurd (second.wrong (omega (arith, same, first.inside)) (subst (λ k. Begins IsBareFile (take (k + 1) bytes)) same first.allowed))
bare_refused_once bytes PastLimit PastLimit first second = refl

-- JCF
begins_front : (words more : List Token) → BeginsJcf (words ++ more) → BeginsJcf words
begins_front words more (rest, m, n, es, is) = (more ++ rest, m, n, es, subst (λ w. IsJcf w m n es) (append_assoc words more rest) is)

-- tokens that begin a header and entries have no first refused token
none_refused : (words : List Token) (t : Token) → BeginsJcf words → IsFirstRefused words t → ⊥
none_refused words t begins refused =
    refused.wrong (begins_front (refused.before ++ t ∷ []) refused.after
    (subst BeginsJcf (refused.split ∙ sym (append_assoc refused.before (t ∷ []) refused.after)) begins))

jcf_read_or_refused : (bytes : List ℕ) (M : Matrix) (fault : Fault) → ReadsJcf bytes M → RefusalJcf bytes fault → ⊥
jcf_read_or_refused bytes M (BadAt place) reads (inl bad) =
    none_refused (judged bytes) bad.token
    (subst BeginsJcf (sym (judged_all bytes reads.short)) (begins_all (tokens bytes) M.rows M.cols reads.entries reads.spelled)) bad.refused
jcf_read_or_refused bytes M (BadAt place) reads (inr ends) =
    omega (arith, ends.few, ap length (judged_all bytes reads.short), ap length reads.spelled.header.four)
jcf_read_or_refused bytes M PastLimit reads (inl past) =
    within_limits (tokens bytes) M.rows M.cols reads.spelled.rest reads.spelled.header reads.accepted.limits
    (subst PassesLimit (judged_all bytes reads.short) past)
jcf_read_or_refused bytes M PastLimit reads (inr long) = omega (arith, reads.short, long.0)

-- two places in one list are the same, or one stands before the other
two_places : (xs ys us vs : List Token) (x y : Token) → xs ++ x ∷ us ≡ ys ++ y ∷ vs
    → (x ≡ y) ⊎ (((zs : List Token) × (ys ≡ (xs ++ x ∷ []) ++ zs)) ⊎ ((zs : List Token) × (xs ≡ (ys ++ y ∷ []) ++ zs)))
two_places [] [] us vs x y e = inl cc
two_places [] (z ∷ ys) us vs x y e = let head : z ≡ x = cc in inr (inl (ys, ap (λ w. w ∷ ys) head))
two_places (z ∷ xs) [] us vs x y e = let head : z ≡ y = cc in inr (inr (xs, ap (λ w. w ∷ xs) head))
two_places (w ∷ xs) (z ∷ ys) us vs x y e =
    let head : w ≡ z = cc in
    let rest : xs ++ x ∷ us ≡ ys ++ y ∷ vs = cc in
    elim (two_places xs ys us vs x y rest) [
      | inl same ↦ inl same
      | inr apart ↦
          elim apart [
            | inl (zs, f) ↦ inr (inl (zs, ap₂ (λ h t. h ∷ t) (sym head) f))
            | inr (zs, f) ↦ inr (inr (zs, ap₂ (λ h t. h ∷ t) head f))
          ]
    ]

-- the first refused token is one
first_once : (words : List Token) (t u : Token) → IsFirstRefused words t → IsFirstRefused words u → t ≡ u
first_once words t u first second =
    elim (two_places first.before second.before first.after second.after t u (sym first.split ∙ second.split)) [
      | inl same ↦ same
      | inr apart ↦
          elim apart [
            | inl (zs, e) ↦ absurd (first.wrong (begins_front (first.before ++ t ∷ []) zs (subst BeginsJcf e second.begins)))
            | inr (zs, e) ↦ absurd (second.wrong (begins_front (second.before ++ u ∷ []) zs (subst BeginsJcf e first.begins)))
          ]
    ]

jcf_refused_once : (bytes : List ℕ) (f g : Fault) → RefusalJcf bytes f → RefusalJcf bytes g → f ≡ g
jcf_refused_once bytes (BadAt p) (BadAt q) (inl first) (inl second) =
    ap BadAt (first.here ∙ ap (λ (t : Token). t.place) (first_once (judged bytes) first.token second.token first.refused second.refused) ∙ sym second.here)
jcf_refused_once bytes (BadAt p) (BadAt q) (inl first) (inr second) = absurd (none_refused (judged bytes) first.token second.begins first.refused)
jcf_refused_once bytes (BadAt p) (BadAt q) (inr first) (inl second) = absurd (none_refused (judged bytes) second.token first.begins second.refused)
jcf_refused_once bytes (BadAt p) (BadAt q) (inr first) (inr second) = ap BadAt (first.here ∙ sym second.here)
jcf_refused_once bytes (BadAt p) PastLimit (inl first) (inl past) = absurd (first.limits past)
jcf_refused_once bytes (BadAt p) PastLimit (inl first) (inr long) = absurd (none_refused (judged bytes) first.token long.1 first.refused)
jcf_refused_once bytes (BadAt p) PastLimit (inr first) (inl (m, n, rest, header, past)) = absurd (omega (arith, first.few, ap length header.four))
jcf_refused_once bytes (BadAt p) PastLimit (inr first) (inr long) = absurd (omega (arith, first.short, long.0))
jcf_refused_once bytes PastLimit (BadAt q) (inl past) (inl second) = absurd (second.limits past)
jcf_refused_once bytes PastLimit (BadAt q) (inr long) (inl second) = absurd (none_refused (judged bytes) second.token long.1 second.refused)
jcf_refused_once bytes PastLimit (BadAt q) (inl (m, n, rest, header, past)) (inr second) = absurd (omega (arith, second.few, ap length header.four))
jcf_refused_once bytes PastLimit (BadAt q) (inr long) (inr second) = absurd (omega (arith, second.short, long.0))
jcf_refused_once bytes PastLimit PastLimit first second = refl

-- JCF is read as one matrix
entries_once : (xs ys : List Entry) → map (λ (e : Entry). Some e) xs ≡ map (λ (e : Entry). Some e) ys → xs ≡ ys
entries_once [] [] e = refl
entries_once [] (y ∷ ys) e = absurd (omega (arith, ap length e))
entries_once (x ∷ xs) [] e = absurd (omega (arith, ap length e))
entries_once (x ∷ xs) (y ∷ ys) e =
    let head : x ≡ y = cc in
    let rest : map (λ (e : Entry). Some e) xs ≡ map (λ (e : Entry). Some e) ys = cc in
    ap₂ (λ h t. h ∷ t) head (entries_once xs ys rest)

same_bit : (x y : ℕ) → x < 2 → y < 2 → (x ≡ 1 → y ≡ 1) → (y ≡ 1 → x ≡ 1) → x ≡ y
same_bit x y first second to from =
    elim (cases_eq x 1) [
      | inl one ↦ let other = to one in omega arith
      | inr zero ↦
          elim (cases_eq y 1) [
            | inl one ↦ let other = from one in omega arith
            | inr none ↦ omega arith
          ]
    ]

-- a matrix over GF(2) has entries below 2
pub small : (A : Matrix) (i j : ℕ) → IsMatrix A → A.field ≡ gf2 → i < A.rows → j < A.cols → at A i j < 2
small A i j matrix field in_rows in_cols =
    subst (λ (F : Field). at A i j < 2 ^ F.degree) field (matrix.elements i j in_rows in_cols)

jcf_once : (bytes : List ℕ) (A B : Matrix) → ReadsJcf bytes A → ReadsJcf bytes B → A ≡ B
jcf_once bytes A B first second =
    let h = first.spelled.header in
    let (rows, cols, rest) = header_same (tokens bytes) first.spelled.rest A.rows A.cols B.rows B.cols first.spelled.rest second.spelled.rest h
    (subst (λ w. HasJcfHeader w B.rows B.cols second.spelled.rest) h.four second.spelled.header) in
    let es = entries_once first.entries second.entries
    (sym first.spelled.body.spelled ∙ ap (map (λ (w : Token). entry w.bytes)) rest ∙ second.spelled.body.spelled) in
    let bit : (i j : ℕ) → i < A.rows → j < A.cols → at A i j ≡ at B i j = λ i j in_rows in_cols.
    let in_rows' : i < B.rows = omega (arith, rows) in
    let in_cols' : j < B.cols = omega (arith, cols) in
    same_bit (at A i j) (at B i j) (small A i j first.accepted.matrix first.accepted.over_gf2 in_rows in_cols)
    (small B i j second.accepted.matrix second.accepted.over_gf2 in_rows' in_cols')
    (λ one. (second.ones i j in_rows' in_cols').1 (subst (λ l. HasEntry l i j) es ((first.ones i j in_rows in_cols).0 one)))
    (λ one. (first.ones i j in_rows in_cols).1 (subst (λ l. HasEntry l i j) (sym es) ((second.ones i j in_rows' in_cols').0 one))) in
    same_matrix gf2 A.rows A.cols (at B) A first.accepted.over_gf2 refl refl first.accepted.matrix.height first.accepted.matrix.width bit
    ∙ sym (same_matrix gf2 A.rows A.cols (at B) B second.accepted.over_gf2 (sym rows) (sym cols) (second.accepted.matrix.height ∙ sym rows)
    (λ i below. second.accepted.matrix.width i (omega (arith, rows)) ∙ sym cols) (λ i j in_rows in_cols. refl))

-- the laws of every form
pub never_both : (form : Form) (bytes : List ℕ) (M : Matrix) (fault : Fault) → ReadsAs form bytes M → RefusalAs form bytes fault → ⊥
never_both Headed bytes M fault reads refused = read_or_refused bytes M fault reads refused
never_both Bare bytes M fault reads refused = never_bare bytes M fault reads refused
never_both Jcf bytes M fault reads refused = jcf_read_or_refused bytes M fault reads refused
never_both Hex bytes M fault reads refused = read_or_refused bytes M fault reads refused

pub one_matrix : (form : Form) (bytes : List ℕ) (A B : Matrix) → ReadsAs form bytes A → ReadsAs form bytes B → A ≡ B
one_matrix Headed bytes A B first second = read_once bytes A B first second
one_matrix Bare bytes A B first second = bare_once bytes A B first second
one_matrix Jcf bytes A B first second = jcf_once bytes A B first second
one_matrix Hex bytes A B first second = read_once bytes A B first second

pub one_fault : (form : Form) (bytes : List ℕ) (f g : Fault) → RefusalAs form bytes f → RefusalAs form bytes g → f ≡ g
one_fault Headed bytes f g first second = refused_once bytes f g first second
one_fault Bare bytes f g first second = bare_refused_once bytes f g first second
one_fault Jcf bytes f g first second = jcf_refused_once bytes f g first second
one_fault Hex bytes f g first second = refused_once bytes f g first second

pub read_or_not : (form : Form) (bytes : List ℕ) → ((M : Matrix) × ReadsAs form bytes M) ⊎ ((fault : Fault) × RefusalAs form bytes fault)
read_or_not Headed bytes = headed_or_not bytes
read_or_not Bare bytes = bare_or_not bytes
read_or_not Jcf bytes = jcf_or_not bytes
read_or_not Hex bytes = headed_or_not bytes
