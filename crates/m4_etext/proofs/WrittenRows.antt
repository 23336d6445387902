-- The digits of rows, written group by group.
use Rattle.std.proofs.Common.{◌≡◌, ℕ, ◌+◌, ◌-◌, ◌*◌, ◌/◌, ◌%◌, ◌^◌, ◌<◌, false, min, List, length, get_or, take, drop, sym, ◌∙◌, ap, arith, length-take, length-drop, get_or-take, get_or-drop, ext_get_or}
use Rattle.std.specs.Int.{bit_at}
use Rattle.std.specs.Fmt.{digit_glyph}
use Rattle.std.proofs.lemmas.Nat.Bits.{bit_at-lt}
use Rattle.std.proofs.lemmas.List.{get_or-map}
use Rattle.std.proofs.lemmas.List.FromFn.{length-map-range_with_len, get_or-map-range_with_len}
use Rattle.m4_model.specs.Headed.{Bits, Fours, row_digits}
use Rattle.m4_bits.specs.Digits.{digits_of}
use Rattle.m4_etext.specs.Pieces.{digits_in, glyphs}
use Rattle.m4_etext.specs.Digits.{fours_of}
use Rattle.m4_etext.proofs.Numerals.{glyph_low}
use Rattle.m4_etext.proofs.RowDigits.{length-row_digits, get_or-fours}
use Rattle.m4_etext.proofs.Pieces.{length-glyphs}
use Rattle.m4_etext.proofs.BitRows.{four_of_bits}

-- a group of a list
pub group_is : (xs piece : List ℕ) (size k count : ℕ) → length piece ≡ count → count ≡ min (length xs - size * k) size
    → ((i : ℕ) → i < count → get_or xs (size * k + i) 0 ≡ get_or piece i 0) → take size (drop (size * k) xs) ≡ piece
group_is xs piece size k count long many same =
    let cut = length-take size (drop (size * k) xs) in
    let rest = length-drop (size * k) xs in
    ext_get_or 0 _ _ (omega (arith, cut, rest, long, many)) (λ i below.
    let inside : i < count = omega (arith, below, cut, rest, many) in
    get_or-take size (drop (size * k) xs) i 0 (omega (arith, inside, many)) ∙ get_or-drop (size * k) xs i 0 ∙ same i inside)

-- a word of digits of one entry
pub bits_group : (n : ℕ) (entries : List ℕ) (w word count : ℕ) → length entries ≡ n → 64 * w < n → count ≡ min (n - 64 * w) 64
    → ((j : ℕ) → j < 64 → bit_at word j ≡ get_or entries (w * 64 + j) 0) → take 64 (drop (64 * w) (glyphs Bits entries)) ≡ digits_of word count
bits_group n entries w word count wide inside many bits =
    let long = length-glyphs Bits n entries wide in
    group_is (glyphs Bits entries) (digits_of word count) 64 w count (length-map-range_with_len (λ i. 48 + bit_at word i) 0 count) (omega (arith, many, long)) (λ i below.
    let few : i < 64 = omega (arith, below, many) in
    let place : w * 64 + i ≡ 64 * w + i = omega arith in
    let l = bit_at-lt word i in
    get_or-map (digit_glyph false) entries (64 * w + i) 0 0 (omega (arith, below, many, wide, inside))
    ∙ ap (digit_glyph false) (ap (λ k. get_or entries k 0) (sym place) ∙ sym (bits i few)) ∙ glyph_low (bit_at word i) (omega (arith, l))
    ∙ sym (get_or-map-range_with_len (λ i. 48 + bit_at word i) 0 count i i 0 below (omega arith)))

-- a word of digits of four entries
pub fours_group : (n : ℕ) (entries : List ℕ) (w word count : ℕ) → length entries ≡ n → 64 * w < n → count ≡ min ((n - 64 * w + 3) / 4) 16
    → ((j : ℕ) → j < 64 → bit_at word j ≡ get_or entries (w * 64 + j) 0) → take 16 (drop (16 * w) (glyphs Fours entries)) ≡ fours_of word count
fours_group n entries w word count wide inside many bits =
    let long = length-glyphs Fours n entries wide in
    let f : ℕ → ℕ = λ i. digit_glyph false (word / 16 ^ i % 16) in
    let d = length-row_digits Fours entries in
    let d' : digits_in Fours (length entries) ≡ (n + 3) / 4 = ap (λ n. (n + 3) / 4) wide in
    group_is (glyphs Fours entries) (fours_of word count) 16 w count (length-map-range_with_len f 0 count) (omega (arith, many, long, inside)) (λ i below.
    let within : 16 * w + i < (n + 3) / 4 = omega (arith, below, many, inside) in
    get_or-map (digit_glyph false) (row_digits Fours entries) (16 * w + i) 0 0 (omega (arith, within, d, d'))
    ∙ ap (digit_glyph false) (get_or-fours entries (16 * w + i) (omega (arith, within, d')) ∙ four_of_bits entries w i word (omega (arith, below, many)) bits)
    ∙ sym (get_or-map-range_with_len f 0 count i i 0 below (omega arith)))
