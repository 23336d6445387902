-- Where the entries of a slot stand among all.
use Rattle.std.proofs.Common.{◌≡◌, ℕ, ◌+◌, ◌*◌, ◌%◌, ◌^◌, ◌<◌, ◌≤◌, inl, inr, List, [], length, get_or, set, map, take, sym, subst, ◌∙◌, ap, lit<, arith}
use Rattle.std.proofs.Math.Nat.{mod-eq_of_lt, mul-le-mul_left, mul-le-mul_right, pow-le-pow_right}
use Rattle.std.specs.List.{range_with_len}
use Rattle.std.proofs.lemmas.Bool.{cases_eq, cases_lt}
use Rattle.std.proofs.lemmas.List.{length-set, length-map, get_or-map, get_or_past, get_or-set_same, get_or-set_other}
use Rattle.std.proofs.lemmas.Simd.{map-map}
use Rattle.std.proofs.Math.Seq.{take-nil}
use Rattle.std.proofs.lemmas.List.FromFn.{fill_by_all, length-map-range_with_len, get_or-map-range_with_len}
use Rattle.m4_model.specs.Field.{gf2}
use Rattle.m4_model.specs.Matrix.{Matrix, IsMatrix, row, zero_matrix}
use Rattle.m4_model.proofs.FieldLemmas.{gf2_field}
use Rattle.m4_model.proofs.ShapeLemmas.{HasShape-zero_matrix}
use Rattle.m4_mzd.specs.Rows.{rows_at}
use Rattle.m4_gray.specs.Slots.{Slots, IsSlots, picked}

-- ---- few slots of few entries
pub few-entries : (n k : ℕ) → n ≤ 8 → k ≤ 8 → n * 2 ^ k ≤ 2048
few-entries n k few small =
    let power : 2 ^ k ≤ 2 ^ 8 = pow-le-pow_right (lit< tt) small in
    omega (arith, mul-le-mul_left n power, few)

pub begin-is : (slot k : ℕ) → slot ≤ 8 → k ≤ 8 → slot * 2 ^ k % 2 ^ 32 ≡ slot * 2 ^ k
begin-is slot k few small = let most : slot * 2 ^ k < 2 ^ 32 = omega (arith, few-entries slot k few small) in mod-eq_of_lt most

pub height-is : (bits : ℕ) → bits ≤ 8 → 1 * 2 ^ bits % 2 ^ 32 ≡ 2 ^ bits
height-is bits small =
    let one : 1 * 2 ^ bits ≡ 2 ^ bits = omega arith in begin-is 1 bits (omega arith) small ∙ one

-- the first entries of a slot are among all
pub room-in_slot : (slot count k bits : ℕ) → slot < count → bits ≤ k → slot * 2 ^ k + 2 ^ bits ≤ count * 2 ^ k
room-in_slot slot count k bits below few =
    let power : 2 ^ bits ≤ 2 ^ k = pow-le-pow_right (lit< tt) few in
    let next : slot + 1 ≤ count = omega (arith, below) in
    let all : (slot + 1) * 2 ^ k ≤ count * 2 ^ k = mul-le-mul_right (2 ^ k) next in
    omega (arith, power, all)

-- ---- tables of zeros
pub slots-new : (k count cols : ℕ) (entries : Matrix) → 1 ≤ k → k ≤ 8 → 1 ≤ count → count ≤ 8 → cols ≤ 2 ^ 24
    → entries ≡ zero_matrix gf2 (count * 2 ^ k % 2 ^ 32) cols → IsSlots (record { k = k; count = count; entries = entries })
slots-new k count cols entries some_k few_k some few few_cols is =
    let shape = HasShape-zero_matrix gf2 (count * 2 ^ k % 2 ^ 32) cols gf2_field in
    record {
      some_bits = some_k;
      few_bits = few_k;
      some = some;
      few = few;
      matrix = subst IsMatrix (sym is) shape.is_matrix;
      over_gf2 = ap (λ (A : Matrix). A.field) is;
      rows = ap (λ (A : Matrix). A.rows) is ∙ begin-is count k few few_k;
      few_cols = let same = ap (λ (A : Matrix). A.cols) is in omega (arith, same, few_cols);
    }

-- ---- the numbers of entries, slot by slot
pub record NumberedTo (index now : List ℕ) (k i : ℕ) : Type 0 where
  pub high : length now ≡ length index
  pub done : (s : ℕ) → s < i → get_or now s 0 ≡ s * 2 ^ k + get_or index s 0
  pub kept : (s : ℕ) → i ≤ s → get_or now s 0 ≡ get_or index s 0

pub numbered-fits : (index now : List ℕ) (k i : ℕ) → k ≤ 8 → i ≤ 8 → get_or index i 0 < 2 ^ k → NumberedTo index now k i
    → get_or now i 0 + i * 2 ^ k % 2 ^ 32 < 2 ^ 32
numbered-fits index now k i small few below h =
    let power : 2 ^ k ≤ 2 ^ 8 = pow-le-pow_right (lit< tt) small in
    omega (arith, h.kept i (omega arith), begin-is i k few small, few-entries i k few small, power, below)

pub numbered-more : (index now : List ℕ) (k i : ℕ) → k ≤ 8 → i ≤ 8 → i < length index → NumberedTo index now k i
    → NumberedTo index (set now i (get_or now i 0 + i * 2 ^ k % 2 ^ 32)) k (i + 1)
numbered-more index now k i small few within h =
    let new = get_or now i 0 + i * 2 ^ k % 2 ^ 32 in
    record {
      high = length-set now i new ∙ h.high;
      done = λ s below. elim (cases_eq s i) [
        | inl here ↦
            rw here
            (get_or-set_same now i new 0 (omega (arith, within, h.high))
            ∙ (let sum : new ≡ i * 2 ^ k + get_or index i 0 = omega (arith, h.kept i (omega arith), begin-is i k few small) in sum))
        | inr away ↦ get_or-set_other now i s new 0 away ∙ h.done s (omega (arith, below, away))
      ];
      kept = λ s from. get_or-set_other now i s new 0 (λ is. omega (arith, is, from)) ∙ h.kept s (omega (arith, from));
    }

pub numbered-all : (index now : List ℕ) (k i : ℕ) → length index ≤ i → NumberedTo index now k i
    → now ≡ map (λ slot. slot * 2 ^ k + get_or index slot 0) (range_with_len 0 (length index))
numbered-all index now k i all h =
    fill_by_all (λ slot. slot * 2 ^ k + get_or index slot 0) now (length index) 0 h.high (λ s below. h.done s (omega (arith, below, all)))

-- the number of an entry is below that of all
pub number-lt : (index numbers : List ℕ) (k count j d : ℕ) → length index ≤ count → ((s : ℕ) → s < length index → get_or index s 0 < 2 ^ k)
    → numbers ≡ map (λ slot. slot * 2 ^ k + get_or index slot 0) (range_with_len 0 (length index)) → j < length numbers
    → get_or numbers j d < count * 2 ^ k
number-lt index numbers k count j d few below is within =
    let f = λ (slot : ℕ). slot * 2 ^ k + get_or index slot 0 in
    let long : length numbers ≡ length index = ap length is ∙ length-map-range_with_len f 0 (length index) in
    let inside : j < length index = omega (arith, within, long) in
    let value : get_or numbers j d ≡ f j = ap (λ l. get_or l j d) is ∙ get_or-map-range_with_len f 0 (length index) j j d inside (omega arith) in
    let next : j + 1 ≤ count = omega (arith, inside, few) in
    let all : (j + 1) * 2 ^ k ≤ count * 2 ^ k = mul-le-mul_right (2 ^ k) next in
    omega (arith, value, all, below j inside)

-- ---- the rows with these numbers, cut to some columns, are the entries that are picked
cut_row : (E : List (List ℕ)) (cols n : ℕ) → get_or (map (take cols) E) n [] ≡ take cols (get_or E n [])
cut_row E cols n = elim (cases_lt n (length E)) [
  | inl within ↦ get_or-map (take cols) E n [] [] within
  | inr past ↦ get_or_past (map (take cols) E) n [] (omega (arith, past, length-map E (take cols))) ∙ sym (ap (take cols) (get_or_past E n [] past) ∙ take-nil cols)
]

pub rows-picked : (t : Slots) (N : Matrix) (cols : ℕ) (index numbers : List ℕ) → N.entries ≡ map (take cols) t.entries.entries
    → numbers ≡ map (λ slot. slot * 2 ^ t.k + get_or index slot 0) (range_with_len 0 (length index))
    → rows_at N numbers ≡ picked t cols index
rows-picked t N cols index numbers cut is =
    let f = λ (slot : ℕ). slot * 2 ^ t.k + get_or index slot 0 in
    let one : (n : ℕ) → row N n ≡ take cols (row t.entries n) = λ n. ap (λ rows. get_or rows n []) cut ∙ cut_row t.entries.entries cols n in
    ap (map (row N)) is ∙ map-map (row N) f (range_with_len 0 (length index))
    ∙ (λ i. map (λ s. one (f s) i) (range_with_len 0 (length index)))
