-- Generated matrices: the first words of a seed, and rows of them, that were computed elsewhere.
use Rattle.std.proofs.Common.{◌≡◌, [], ◌∷◌, refl}
use Rattle.m4_model.specs.Field.{gf2}
use Rattle.m4_model.specs.Generated.{word, generated}
use Rattle.m4_model.specs.Matrix.{table}

-- the first words of seed 0
first_word : word 0 0 ≡ 0xe220a8397b1dcdaf
unfolding word
first_word = refl

second_word : word 0 1 ≡ 0x6e789e6aa1b965f4
unfolding word
second_word = refl

-- over GF(2)
two_rows : (generated gf2 2 8 0).entries ≡ (1 ∷ 1 ∷ 1 ∷ 1 ∷ 0 ∷ 1 ∷ 0 ∷ 1 ∷ []) ∷ (0 ∷ 0 ∷ 1 ∷ 0 ∷ 1 ∷ 1 ∷ 1 ∷ 1 ∷ []) ∷ []
unfolding word table
two_rows = refl

-- over GF(2^4) with the polynomial x^4 + x + 1, whose number is 19
elements : (generated (record { degree = 4; poly = 0x13 }) 1 4 0).entries ≡ (15 ∷ 10 ∷ 13 ∷ 12 ∷ []) ∷ []
unfolding word table
elements = refl

-- over GF(2^3), whose elements leave a bit of their places over, with rows of two words
two_words : (generated (record { degree = 3; poly = 0xb }) 2 18 0x123456789abcdef0).entries
    ≡ (0 ∷ 6 ∷ 0 ∷ 5 ∷ 6 ∷ 4 ∷ 5 ∷ 4 ∷ 6 ∷ 4 ∷ 2 ∷ 2 ∷ 1 ∷ 1 ∷ 6 ∷ 1 ∷ 0 ∷ 6 ∷ [])
    ∷ (5 ∷ 0 ∷ 5 ∷ 2 ∷ 4 ∷ 2 ∷ 0 ∷ 1 ∷ 4 ∷ 4 ∷ 7 ∷ 7 ∷ 1 ∷ 0 ∷ 5 ∷ 3 ∷ 7 ∷ 5 ∷ []) ∷ []
unfolding word table
two_words = refl
