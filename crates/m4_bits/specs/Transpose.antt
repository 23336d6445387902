-- Square blocks of words, of bits or of numbers of a few bits each, and the exchange of their halves.
use Rattle.std.specs.Prelude.{◌≡◌, ℕ, ◌+◌, ◌*◌, ◌/◌, ◌<◌, List, slice_index}
use Rattle.std.specs.Int.{bit_at}

-- One block is the other turned over its diagonal: bit j of word i is bit i of word j.
abbrev pub IsTransposed : List ℕ → List ℕ → Type 0
IsTransposed old new = (i j : ℕ) → i < 64 → j < 64 → bit_at (slice_index new i) j ≡ bit_at (slice_index old j) i

-- One block is the other turned over its diagonal, where a word holds 64 / w numbers of w bits, and a block has as many words:
-- number j of word i is number i of word j, bit by bit.
abbrev pub AreTransposed : ℕ → List ℕ → List ℕ → Type 0
AreTransposed w old new = (i j u : ℕ) → i < 64 / w → j < 64 / w → u < w
    → bit_at (slice_index new i) (j * w + u) ≡ bit_at (slice_index old j) (i * w + u)

-- Of each 2 * size bits of the mask in a row, the lower half are ones and the upper half are zeros.
abbrev pub IsLowHalves : ℕ → ℕ → Type 0
IsLowHalves size mask = (q j : ℕ) → q < 32 / size → j < size
    → (bit_at mask (q * (2 * size) + j) ≡ 1) × (bit_at mask (q * (2 * size) + size + j) ≡ 0)

-- Of each 2 * size bits of two words in a row, the upper half of the first has changed places with the lower half of the
-- second.
abbrev pub ChangePlaces : ℕ → ℕ → ℕ → ℕ → ℕ → Type 0
ChangePlaces size first second first_new second_new = (q j : ℕ) → q < 32 / size → j < size
    → (bit_at first_new (q * (2 * size) + j) ≡ bit_at first (q * (2 * size) + j))
    × (bit_at first_new (q * (2 * size) + size + j) ≡ bit_at second (q * (2 * size) + j))
    × (bit_at second_new (q * (2 * size) + j) ≡ bit_at first (q * (2 * size) + size + j))
    × (bit_at second_new (q * (2 * size) + size + j) ≡ bit_at second (q * (2 * size) + size + j))

-- The words at two places of a row of words have done so.
abbrev pub WordsChangePlaces : ℕ → List ℕ → List ℕ → ℕ → ℕ → Type 0
WordsChangePlaces size old new i k =
    ChangePlaces size (slice_index old i) (slice_index old k) (slice_index new i) (slice_index new k)

-- A block cut into squares of some words by size bits, four of them to a larger square: in each of these the two off the
-- diagonal have changed places.
abbrev pub SquaresChangePlaces : ℕ → ℕ → List ℕ → List ℕ → Type 0
SquaresChangePlaces words size old new =
    (p i : ℕ) → p < 32 / size → i < words → WordsChangePlaces size old new (p * (2 * words) + i) (p * (2 * words) + words + i)
