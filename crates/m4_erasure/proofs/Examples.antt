-- The definitions on small cases that a reader can work by hand.
use Rattle.std.proofs.Common.{◌≡◌, [], ◌∷◌, ◌++◌, codes, refl}
use Rattle.std.specs.Fmt.{digits}
use Rattle.m4_model.specs.Field.{mul, clmul, sum_below, bits_within, rem_within}
use Rattle.m4_erasure.specs.Shards.{power, value, shard_header, shard_text}

-- the bytes 1, 2, 3 in stripes of two, at the points 0, 1 and 2
at_0 : value (1 ∷ 2 ∷ 3 ∷ []) 2 0 ≡ 1 ∷ 3 ∷ []
unfolding value power mul clmul sum_below bits_within rem_within
at_0 = refl

at_1 : value (1 ∷ 2 ∷ 3 ∷ []) 2 1 ≡ 3 ∷ 3 ∷ []
unfolding value power mul clmul sum_below bits_within rem_within
at_1 = refl

at_2 : value (1 ∷ 2 ∷ 3 ∷ []) 2 2 ≡ 5 ∷ 3 ∷ []
unfolding value power mul clmul sum_below bits_within rem_within
at_2 = refl

-- x times x^7 is reduced
reduced : value (0 ∷ 0x80 ∷ []) 2 2 ≡ 0x1d ∷ []
unfolding value power mul clmul sum_below bits_within rem_within
reduced = refl

-- no bytes have no values
empty : value [] 3 7 ≡ []
unfolding value power mul clmul sum_below bits_within rem_within
empty = refl

-- the header line of the shard at 0
header_line : shard_header 2 0 3 ≡ codes "shard 2 0 3\n"
unfolding digits
header_line = refl

-- the shard at 2 of the bytes 1, 2, 3
whole_shard : shard_text (1 ∷ 2 ∷ 3 ∷ []) 2 2 ≡ codes "shard 2 2 3\n" ++ (5 ∷ 3 ∷ [])
unfolding value power mul clmul sum_below bits_within rem_within digits
whole_shard = refl

-- of no bytes it is the header line alone
empty_shard : shard_text [] 3 7 ≡ codes "shard 3 7 0\n"
unfolding value power mul clmul sum_below bits_within rem_within digits
empty_shard = refl
