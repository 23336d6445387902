-- What the calls on rows of a window leave in them.
use Rattle.std.specs.Prelude.{ℕ, ◌/◌, ◌%◌, List, length, map, slice_index}
use Rattle.std.specs.List.{range_with_len}
use Rattle.std.specs.Int.{bit_at}
use Rattle.m4_model.specs.Field.{Field, mul, width}
use Rattle.m4_mzed.specs.Packed.{unpacked}

-- Each element of a row times x.
abbrev pub multiples : Field → ℕ → List ℕ → List ℕ
multiples F x xs = map (λ y. mul F y x) xs

-- The bits of x times each of the n elements that are packed in a row of bits.
unfoldable pub packed_multiples : Field → ℕ → ℕ → List ℕ → List ℕ
packed_multiples F n x bits =
    map (λ p. bit_at (mul F (slice_index (unpacked (width F) n bits) (p / width F)) x) (p % width F)) (range_with_len 0 (length bits))
