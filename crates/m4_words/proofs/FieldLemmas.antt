-- Words in hexadecimal, and the extension fields of degrees and polynomials.
use Rattle.std.proofs.Common.{◌≡◌, Result, ℕ, ◌^◌, ◌<◌, List, [], ◌∷◌, Option, Some, None, option_map, refl, sym, subst, ◌∙◌, ap, arith, Bool, true, false, Ok, Err, cond, drop, bytes_eq, nat_lt, ◌&&◌}
use Rattle.std.specs.Prelude.{OkIff, IsTrue, ◌↔◌}
use Rattle.std.specs.Char.{digit_value}
use Rattle.std.specs.Str.Parse.{digits_value, IsNumeral, without_leading_plus, ParsesUnsigned}
use Rattle.std.proofs.lemmas.Bool.{ltb-true, lt-ltb, ne_eqb}
use Rattle.std.proofs.lemmas.Slice.Eq.{bytes_eq-Decides}
use Rattle.std.proofs.lemmas.Fmt.{digits_is_IsNumeral}
use Rattle.m4_model.specs.Field.{IsExtension}
use Rattle.m4_model.specs.Field.{Field as FieldOf}
use Rattle.m4_model.specs.Headed.{hexadecimal}
use Rattle.m4_field.specs.Fields.{the_field, IsDegree, Gives}
use Rattle.m4_field.specs.declared.field.Field.{Field}
use Rattle.m4_field.specs.declared.field.FieldFault.{FieldFault}
use Rattle.m4_field.specs.declared.field.FieldFault.TheVariants.{BadDegree, Reducible}
use Rattle.m4_outcome.specs.FieldWords.{hexadecimal_of, extension_of}
use Rattle.m4_outcome.proofs.FieldWordLemmas.{extension_is, no_extension}

-- a numeral has no plus before it
no_plus : (digits : List ℕ) → IsNumeral 16 digits → without_leading_plus digits ≡ digits
no_plus [] is = refl
no_plus (c ∷ cs) is = ap (λ (b : Bool). drop (cond b 1 0) (c ∷ cs)) (ne_eqb c 43 (λ same. let k : digit_value 43 < 16 = subst (λ (x : ℕ). digit_value x < 16) same is.1.0 in omega arith))

-- the digits of a number, and its value
numeral : (n : ℕ) → n < 2 ^ 32 → IsNumeral 16 (hexadecimal n) × (digits_value 16 (hexadecimal n) ≡ n)
numeral n small = digits_is_IsNumeral 16 false (omega arith) (omega arith) n (omega arith)

-- a word in hexadecimal is read as its number
pub parse-hexadecimal : {E : Type 0} (n : ℕ) (word : List ℕ) (r : Result ℕ E) → n < 2 ^ 32 → word ≡ hexadecimal n → ParsesUnsigned 32 16 word r → r ≡ Ok n
parse-hexadecimal {E} n word r small is parses =
    by r (subst (λ (l : List ℕ). OkIff r (IsNumeral 16 l × (digits_value 16 l < 2 ^ 32)) (digits_value 16 l)) (ap without_leading_plus is ∙ no_plus (hexadecimal n) (numeral n small).0) parses)
  where
    by : (q : Result ℕ E) → OkIff q (IsNumeral 16 (hexadecimal n) × (digits_value 16 (hexadecimal n) < 2 ^ 32)) (digits_value 16 (hexadecimal n)) → q ≡ Ok n
    by (Ok x) told = ap (λ (m : ℕ). Ok m) (told.1 ∙ (numeral n small).1)
    by (Err fault) told = absurd (told ((numeral n small).0, subst (λ (m : ℕ). m < 2 ^ 32) (sym (numeral n small).1) small))

-- a word in hexadecimal
pub hexadecimal-some : (word : List ℕ) (n : ℕ) → n < 2 ^ 17 → word ≡ hexadecimal n → hexadecimal_of word ≡ Some n
hexadecimal-some word n small is =
    let value : digits_value 16 word ≡ n = ap (digits_value 16) is ∙ (numeral n (omega arith)).1 in
    let less = lt-ltb n (2 ^ 17) small in
    let same = (bytes_eq-Decides word (hexadecimal n)).1 is in
    rw (value, less, same) refl

-- a word that is no number in hexadecimal
pub hexadecimal-none : (word : List ℕ) → ((n : ℕ) → n < 2 ^ 17 → word ≡ hexadecimal n → ⊥) → hexadecimal_of word ≡ None
hexadecimal-none word none = cases (nat_lt n (2 ^ 17)) (bytes_eq word (hexadecimal n)) refl refl
  where
    n : ℕ
    n = digits_value 16 word

    cases : (small same : Bool) → nat_lt n (2 ^ 17) ≡ small → bytes_eq word (hexadecimal n) ≡ same → cond (small && same) (Some n) None ≡ None
    cases false same is_small is_same = refl
    cases true false is_small is_same = refl
    cases true true is_small is_same = absurd (none n (ltb-true n (2 ^ 17) is_small) ((bytes_eq-Decides word (hexadecimal n)).0 is_same))

-- the field that was made of a degree and a polynomial
pub made-field : (e poly : ℕ) (f : Field) → Gives e poly (Ok f) → Some (the_field f) ≡ extension_of e poly
made-field e poly f gives = let F : FieldOf = record { degree = e; poly = poly } in
    let holds : IsExtension F = subst IsExtension gives.1 gives.0 in
    ap (λ (G : FieldOf). Some G) gives.1 ∙ sym (extension_is F holds)

-- there is none
pub no_field : (e poly : ℕ) (fault : FieldFault) → Gives e poly (Err fault) → None ≡ extension_of e poly
no_field e poly BadDegree gives = sym (no_extension (record { degree = e; poly = poly }) (λ holds. gives (holds.degree_low, holds.degree_high)))
no_field e poly Reducible gives = sym (no_extension (record { degree = e; poly = poly }) gives.1)

-- what tells that two rows of bytes are the same
pub same_bytes : (b : Bool) (xs ys : List ℕ) → b ≡ bytes_eq xs ys → IsTrue b ↔ (xs ≡ ys)
same_bytes b xs ys is = (λ holds. (bytes_eq-Decides xs ys).0 (sym is ∙ holds), λ same. is ∙ (bytes_eq-Decides xs ys).1 same)
