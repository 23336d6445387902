-- Words that are numbers, and words that name a field.
use Rattle.std.specs.Prelude.{◌==◌, ℕ, zero, suc, ◌+◌, ◌*◌, ◌^◌, List, Option, Some, None, option_map, codes, decimal, bytes_eq, nat_eq, nat_lt, nat_le, Bool, false, not, ◌&&◌, ◌||◌, if◌then◌else◌}
use Rattle.std.specs.Option.{option_and_then}
use Rattle.std.specs.List.{before_first, after_first}
use Rattle.std.specs.Str.Parse.{digits_value}
use Rattle.m4_model.specs.Field.{Field, gf2, clmul}
use Rattle.m4_model.specs.Headed.{hexadecimal}

-- The number below `most` that a word is in decimal, as `0`, or as digits of which the first is none.
abbrev pub decimal_below : ℕ → List ℕ → Option ℕ
decimal_below most word =
    if nat_lt (digits_value 10 word) most && bytes_eq word (decimal (digits_value 10 word)) then Some (digits_value 10 word) else None

-- The number that a word is: a decimal one of at most nine digits.
abbrev pub number_of : List ℕ → Option ℕ
number_of word = decimal_below (10 ^ 9) word

-- The seed that a word is: a decimal number of 64 bits.
abbrev pub seed_of : List ℕ → Option ℕ
seed_of word = decimal_below (2 ^ 64) word

-- The number of at most 17 bits, as polynomials of degree up to 16 have them, that a word is in hexadecimal, in lower-case
-- letters and with no zero before it.
abbrev pub hexadecimal_of : List ℕ → Option ℕ
hexadecimal_of word =
    if nat_lt (digits_value 16 word) (2 ^ 17) && bytes_eq word (hexadecimal (digits_value 16 word)) then Some (digits_value 16 word) else None

-- Some number below n passes the test.
unfoldable pub some_below : ℕ → (ℕ → Bool) → Bool
some_below zero test = false
some_below (suc n) test = some_below n test || test n

-- The polynomial is the product of two, neither of them 0 or 1, of degrees below e.
abbrev pub is_product : ℕ → ℕ → Bool
is_product e poly = some_below (2 ^ e) (λ a. some_below (2 ^ e) (λ b. nat_le 2 a && (nat_le 2 b && nat_eq (clmul a b) poly)))

-- The degree is one from 2 to 16, and the polynomial is irreducible and of this degree.
abbrev pub is_extension : ℕ → ℕ → Bool
is_extension e poly =
    nat_le 2 e && (nat_le e 16 && (nat_le (2 ^ e) poly && (nat_lt poly (2 ^ (e + 1)) && not (is_product e poly))))

-- The extension field of this degree and polynomial, if there is one.
abbrev pub extension_of : ℕ → ℕ → Option Field
extension_of e poly = if is_extension e poly then Some (record { degree = e; poly = poly }) else None

-- The first colon of a word stands between a degree and a polynomial.
abbrev pub is_colon : ℕ → Bool
is_colon byte = byte == 58

-- The extension field that a word names: its degree in decimal, a colon, and its polynomial in hexadecimal.
abbrev pub extension_named : List ℕ → Option Field
extension_named word =
    option_and_then (λ e. option_and_then (extension_of e) (hexadecimal_of (after_first is_colon word))) (number_of (before_first is_colon word))

-- The field that a word names.
abbrev pub field_named : List ℕ → Option Field
field_named word = if bytes_eq word (codes "gf2") then Some gf2 else extension_named word
