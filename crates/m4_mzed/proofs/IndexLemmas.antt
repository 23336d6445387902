-- Elements by their bits.
use Rattle.std.proofs.Common.{◌≡◌, ℕ, zero, suc, ◌+◌, ◌*◌, ◌/◌, ◌^◌, ◌<◌, ◌≤◌, inl, inr, List, [], ◌∷◌, length, get_or, take, drop, refl, sym, ◌∙◌, ap, subst, arith}
use Rattle.std.specs.Int.{bit_at}
use Rattle.std.specs.List.{All}
use Rattle.std.proofs.Math.Nat.{pow-suc}
use Rattle.std.proofs.Math.Pow.{pow_pos}
use Rattle.std.proofs.lemmas.Bool.{cases_lt}
use Rattle.std.proofs.lemmas.Nat.Bits.{bit_at-suc, bit_at-zero, bit_at_lowest, same_from_bits_below}
use Rattle.std.proofs.lemmas.List.{get_or_past, length-drop, length-take-le, drop-drop, get_or-take, get_or-drop, ext_get_or}
use Rattle.std.proofs.lemmas.List.Elements.{All-head, All-tail, All-take, All-drop, All-get_or}
use Rattle.m4_model.specs.Field.{Field, IsElement}
use Rattle.m4_mzed.specs.Packed.{number_of, unpacked}
use Rattle.m4_mzed.proofs.RowLemmas.{length-unpacked}

abbrev pub AreBits : List ℕ → Type 0
AreBits xs = All (λ b. b < 2) xs

pub bit_at-number_of : (xs : List ℕ) → AreBits xs → (i : ℕ) → bit_at (number_of xs) i ≡ get_or xs i 0
unfolding number_of
bit_at-number_of [] bits i = bit_at-zero i
bit_at-number_of (b ∷ bs) bits zero =
    let small = All-head (λ b. b < 2) b bs bits in
    bit_at_lowest (number_of bs * 2 + b) ∙ omega (arith, small)
bit_at-number_of (b ∷ bs) bits (suc i) =
    let small = All-head (λ b. b < 2) b bs bits in
    let half : (number_of bs * 2 + b) / 2 ≡ number_of bs = omega (arith, small) in
    bit_at-suc (number_of bs * 2 + b) i ∙ ap (λ n. bit_at n i) half ∙ bit_at-number_of bs (All-tail (λ b. b < 2) b bs bits) i

pub number_of-lt : (xs : List ℕ) → AreBits xs → number_of xs < 2 ^ length xs
unfolding number_of
number_of-lt [] bits = omega arith
number_of-lt (b ∷ bs) bits =
    let small = All-head (λ b. b < 2) b bs bits in
    let rest = number_of-lt bs (All-tail (λ b. b < 2) b bs bits) in
    let p = pow-suc 2 (length bs) in
    omega (arith, small, rest, p)

pub get_or-unpacked : (w n : ℕ) (bits : List ℕ) (c : ℕ) → c < n → get_or (unpacked w n bits) c 0 ≡ number_of (take w (drop (c * w) bits))
unfolding unpacked
get_or-unpacked w zero bits c below = absurd (omega arith)
get_or-unpacked w (suc n) bits zero below = let e : 0 * w ≡ 0 = omega arith in rw e refl
get_or-unpacked w (suc n) bits (suc c) below =
    let e : suc c * w ≡ w + c * w = omega arith in
    get_or-unpacked w n (drop w bits) c (omega arith)
    ∙ ap (λ l. number_of (take w l)) (drop-drop (c * w) w bits ∙ ap (λ k. drop k bits) (sym e))

-- an entry of a list of elements, and 0 past its end
pub element_at : (F : Field) (xs : List ℕ) (i : ℕ) → All (IsElement F) xs → IsElement F (get_or xs i 0)
element_at F xs i all = elim (cases_lt i (length xs)) [
  | inl inside ↦ All-get_or (IsElement F) xs i 0 inside all
  | inr past ↦ let P : ℕ → Type 0 = IsElement F in subst P (sym (get_or_past xs i 0 past)) (pow_pos F.degree)
]

module _ (w n : ℕ) (row : List ℕ) (long : length row ≡ n * w) (bits : AreBits row) where
  -- a bit of an element is a bit of the row
  pub element_bit : (j v : ℕ) → j < n → v < w → bit_at (get_or (unpacked w n row) j 0) v ≡ get_or row (j * w + v) 0
  element_bit j v j_below v_below =
      ap (λ x. bit_at x v) (get_or-unpacked w n row j j_below)
      ∙ bit_at-number_of (take w (drop (j * w) row)) (All-take (λ b. b < 2) w _ (All-drop (λ b. b < 2) (j * w) row bits)) v
      ∙ get_or-take w (drop (j * w) row) v 0 v_below
      ∙ get_or-drop (j * w) row v 0

  pub element_small : (j : ℕ) → j < n → get_or (unpacked w n row) j 0 < 2 ^ w
  element_small j below =
      let part = take w (drop (j * w) row) in
      let l = number_of-lt part (All-take (λ b. b < 2) w _ (All-drop (λ b. b < 2) (j * w) row bits)) in
      let all : length part ≡ w = length-take-le w (drop (j * w) row) (let d = length-drop (j * w) row in let m : suc j * w ≤ n * w = grind arith in omega (arith, d, m, long)) in
      let P : ℕ → Type 0 = λ x. x < 2 ^ w in
      subst P (sym (get_or-unpacked w n row j below)) (let Q : ℕ → Type 0 = λ k. number_of part < 2 ^ k in subst Q all l)

  -- a row of elements by their bits
  pub unpacked_is : (xs : List ℕ) → length xs ≡ n → ((j : ℕ) → j < n → get_or xs j 0 < 2 ^ w)
      → ((j v : ℕ) → j < n → v < w → get_or row (j * w + v) 0 ≡ bit_at (get_or xs j 0) v) → unpacked w n row ≡ xs
  unpacked_is xs count small same =
      ext_get_or 0 (unpacked w n row) xs (length-unpacked w n row ∙ sym count) (λ j within.
      let below : j < n = let l = length-unpacked w n row in omega (arith, within, l) in
      same_from_bits_below w _ _ (element_small j below) (small j below) (λ v v_below. element_bit j v below v_below ∙ same j v below v_below))
