-- Shards of a source of bytes: the values, at one point, of the polynomials whose coefficients are its stripes.
use Rattle.std.specs.Prelude.{◌≢◌, ℕ, zero, suc, ◌+◌, ◌-◌, ◌*◌, ◌/◌, ◌^◌, ◌<◌, ◌≤◌, List, ◌++◌, map, length, slice_index, codes, decimal}
use Rattle.std.specs.List.{All, range_with_len}
use Rattle.m4_model.specs.Field.{Field, sum_below, mul}
use Rattle.m4_model.specs.Matrix.{Matrix, matrix_of}

-- The field of shards: GF(2^8), of the polynomial x^8 + x^4 + x^3 + x^2 + 1. Its elements are the bytes.
abbrev pub gf256 : Field
gf256 = record { degree = 8; poly = 0x11d }

-- So many shards restore a source: from 1 to 128.
abbrev pub IsCount : ℕ → Type 0
IsCount k = (1 ≤ k) × (k ≤ 128)

-- The points are the elements of the field.
abbrev pub IsPoint : ℕ → Type 0
IsPoint x = x < 256

-- The most bytes of a source.
abbrev pub most_source : ℕ
most_source = 2 ^ 24

-- x times itself, i times: 1 for i = 0, also where x is 0.
unfoldable pub power : ℕ → ℕ → ℕ
power x zero = 1
power x (suc i) = mul gf256 x (power x i)

-- How many stripes of k bytes there are in n bytes, with the last one that isn't full.
abbrev pub stripes : ℕ → ℕ → ℕ
stripes k n = (n + (k - 1)) / k

-- Coefficient i of stripe t: the source's byte t k + i, and 0 where it has none.
abbrev pub coefficient : List ℕ → ℕ → ℕ → ℕ → ℕ
coefficient src k t i = slice_index src (t * k + i)

-- The value at x of the polynomial of stripe t.
abbrev pub stripe_value : List ℕ → ℕ → ℕ → ℕ → ℕ
stripe_value src k x t = sum_below k (λ i. mul gf256 (coefficient src k t i) (power x i))

-- The values at x of the polynomials of all stripes.
unfoldable pub value : List ℕ → ℕ → ℕ → List ℕ
value src k x = map (stripe_value src k x) (range_with_len 0 (stripes k (length src)))

-- The header line of a shard: so many shards restore the source, the point, and how many bytes the source has.
abbrev pub shard_header : ℕ → ℕ → ℕ → List ℕ
shard_header k x n = codes "shard " ++ (decimal k ++ (codes " " ++ (decimal x ++ (codes " " ++ (decimal n ++ codes "\n")))))

-- The text of the shard at x: its header line, and the values there.
abbrev pub shard_text : List ℕ → ℕ → ℕ → List ℕ
shard_text src k x = shard_header k x (length src) ++ value src k x

-- Each of them is a point, and it differs from every later one.
pub record AreDiffering (points : List ℕ) : Type 0 where
  pub each : All IsPoint points
  pub differ : (i j : ℕ) → i < j → j < length points → slice_index points i ≢ slice_index points j

-- The square matrix whose entry in row j and column i is the i-th power of the j-th point.
abbrev pub powers_of : List ℕ → Matrix
powers_of points = matrix_of gf256 (length points) (length points) (λ j i. power (slice_index points j) i)
