-- What the code of a header line stands for.
use Rattle.std.specs.Prelude.{◌≡◌, ℕ, ◌<◌, List, codes, length, slice_index}
use Rattle.m4_model.specs.Headed.{Spelling, Bits, Fours, Elements}
use Rattle.m4_etext.specs.declared.radix.Radix.{Radix}
use Rattle.m4_etext.specs.declared.radix.Radix.TheVariants.{Decimal, Hexadecimal}
use Rattle.m4_etext.specs.declared.opening.Letters.{Letters}
use Rattle.m4_etext.specs.declared.opening.Letters.TheVariants.{OfBits, OfFours, OfElements}
use Rattle.m4_etext.specs.declared.opening.Opening.{Opening}
use Rattle.m4_etext.specs.declared.opening.Opening.TheVariants.{Bits as bits, Fours as fours, Elements as elements}

-- The base of a number, and the most digits.
abbrev pub base_of : Radix → ℕ
base_of Decimal = 10
base_of Hexadecimal = 16

abbrev pub most_of : Radix → ℕ
most_of Decimal = 9
most_of Hexadecimal = 8

-- The letters that stand first.
abbrev pub word_of : Letters → List ℕ
word_of OfBits = codes "gf2 "
word_of OfFours = codes "gf2x "
word_of OfElements = codes "gf2e "

-- The spelling that an opening tells.
abbrev pub spelling_of : Opening → Spelling
spelling_of bits = Bits
spelling_of fours = Fours
spelling_of (elements degree poly) = Elements (record { degree = degree; poly = poly })

-- These letters are the ones that the fourth byte allows.
abbrev pub IsByFourth : List ℕ → Letters → Type 0
IsByFourth bytes OfBits = (3 < length bytes → slice_index bytes 3 ≡ 120 → ⊥) × (3 < length bytes → slice_index bytes 3 ≡ 101 → ⊥)
IsByFourth bytes OfFours = (3 < length bytes) × (slice_index bytes 3 ≡ 120)
IsByFourth bytes OfElements = (3 < length bytes) × (slice_index bytes 3 ≡ 101)
