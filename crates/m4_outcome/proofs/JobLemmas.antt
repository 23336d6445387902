-- A job that names a generated matrix names a field for it.
use Rattle.std.proofs.Common.{◌≡◌, ℕ, suc, List, [], ◌∷◌, ◌++◌, Option, Some, None, option_map, Result, Ok, Err, inl, inr, refl, sym, subst, ap, ◌∙◌, Bool, true, false, cond, bytes_eq, codes}
use Rattle.std.specs.Option.{option_and_then}
use Rattle.std.specs.List.{before_first, after_first}
use Rattle.m4_model.specs.Field.{Field, IsField, gf2}
use Rattle.m4_outcome.specs.FieldWords.{is_extension, extension_of, extension_named, field_named, number_of, hexadecimal_of, seed_of, is_colon}
use Rattle.m4_outcome.specs.Words.{Job, job, job_of, job_behind, command_named, with_numbers, begun, understand, at_end, and_then, and_word, and_operand, and_option, is_option, Understood}
use Rattle.m4_outcome.specs.Seeds.{HasField}
use Rattle.m4_outcome.specs.declared.command.Command.{Command}
use Rattle.m4_outcome.specs.declared.command.Command.TheVariants.{Mul, Addmul, Add, Transpose, Stack, Augment, Sub, Convert, Rank, Echelon, Inverse, Solve, Kernel, Ple, Pluq, Make, Trial}
use Rattle.m4_outcome.specs.declared.command.Kind.{Kind}
use Rattle.m4_outcome.specs.declared.command.Kind.TheVariants.{FileName, Number, FieldName, Seed}
use Rattle.m4_outcome.specs.declared.command.Seeded.{Seeded}
use Rattle.m4_outcome.proofs.FieldWordLemmas.{passes}

-- what an option that is there was made from
some_of : {A B : Type 0} (f : A → B) (o : Option A) (y : B) → option_map f o ≡ Some y → (x : A) × (o ≡ Some x) × (f x ≡ y)
some_of f None y is = absurd cc
some_of f (Some x) y is = (x, refl, cc)

-- the field that a degree and a polynomial make
extension_is_field : (e poly : ℕ) (F : Field) → extension_of e poly ≡ Some F → IsField F
extension_is_field e poly F is = cases (is_extension e poly) refl is
  where
    E : Field
    E = record { degree = e; poly = poly }

    cases : (b : Bool) → is_extension e poly ≡ b → cond b (Some E) None ≡ Some F → IsField F
    cases true holds made = let same : E ≡ F = cc in subst IsField same (inr (passes E holds))
    cases false fails made = absurd cc

from_numbers : (n p : Option ℕ) (F : Field) → option_and_then (λ e. option_and_then (extension_of e) p) n ≡ Some F → IsField F
from_numbers None p F is = absurd cc
from_numbers (Some e) None F is = absurd cc
from_numbers (Some e) (Some poly) F is = extension_is_field e poly F is

-- what a word names is a field
pub named_is_field : (word : List ℕ) (F : Field) → field_named word ≡ Some F → IsField F
named_is_field word F is = cases (bytes_eq word (codes "gf2")) is
  where
    cases : (b : Bool) → cond b (Some gf2) (extension_named word) ≡ Some F → IsField F
    cases true made = let same : gf2 ≡ F = cc in inl (sym same)
    cases false made = from_numbers (number_of (before_first is_colon word)) (hexadecimal_of (after_first is_colon word)) F made

-- how far the words of a command that names a generated matrix have been read
data Stage (so_far : Understood) : Type 0 where
  AtField : so_far.wanted ≡ FieldName ∷ Number ∷ Number ∷ Seed ∷ [] → so_far.numbers ≡ [] → Stage so_far
  AtRows : (F : Field) → IsField F → so_far.wanted ≡ Number ∷ Number ∷ Seed ∷ [] → so_far.numbers ≡ F.degree ∷ F.poly ∷ [] → Stage so_far
  AtCols : (F : Field) (rows : ℕ) → IsField F → so_far.wanted ≡ Number ∷ Seed ∷ [] → so_far.numbers ≡ F.degree ∷ F.poly ∷ rows ∷ [] → Stage so_far
  AtSeed : (F : Field) (rows cols : ℕ) → IsField F → so_far.wanted ≡ Seed ∷ [] → so_far.numbers ≡ F.degree ∷ F.poly ∷ rows ∷ cols ∷ [] → Stage so_far
  AtEnd : (F : Field) (rows cols : ℕ) → IsField F → so_far.wanted ≡ [] → so_far.numbers ≡ F.degree ∷ F.poly ∷ rows ∷ cols ∷ [] → Stage so_far

-- an option fills no place
option_keeps : (so_far more : Understood) (wanted : more.wanted ≡ so_far.wanted) (numbers : more.numbers ≡ so_far.numbers) → Stage so_far → Stage more
option_keeps so_far more wanted numbers (AtField w n) = AtField (wanted ∙ w) (numbers ∙ n)
option_keeps so_far more wanted numbers (AtRows F is w n) = AtRows F is (wanted ∙ w) (numbers ∙ n)
option_keeps so_far more wanted numbers (AtCols F rows is w n) = AtCols F rows is (wanted ∙ w) (numbers ∙ n)
option_keeps so_far more wanted numbers (AtSeed F rows cols is w n) = AtSeed F rows cols is (wanted ∙ w) (numbers ∙ n)
option_keeps so_far more wanted numbers (AtEnd F rows cols is w n) = AtEnd F rows cols is (wanted ∙ w) (numbers ∙ n)

module _ (word : List ℕ) (so_far more : Understood) where
  -- an operand fills the first place
  fills_field : (kinds : List Kind) (F : Field) → field_named word ≡ Some F → so_far.numbers ≡ []
      → record so_far { wanted = Number ∷ Number ∷ Seed ∷ []; numbers = so_far.numbers ++ F.degree ∷ F.poly ∷ [] } ≡ more → Stage more
  fills_field kinds F named none is = AtRows F (named_is_field word F named)
      (ap (λ (u : Understood). u.wanted) (sym is))
      (ap (λ (u : Understood). u.numbers) (sym is) ∙ ap (λ ns. ns ++ F.degree ∷ F.poly ∷ []) none)

  operand : (kinds : List Kind) → so_far.wanted ≡ kinds → and_operand kinds word so_far ≡ Some more → Stage so_far → Stage more
  operand kinds is taken (AtField w n) =
      let taken : and_operand (FieldName ∷ Number ∷ Number ∷ Seed ∷ []) word so_far ≡ Some more = ap (λ ks. and_operand ks word so_far) (sym w ∙ is) ∙ taken in
      let made = some_of _ (field_named word) more taken in
      fills_field kinds made.0 made.1 n made.2
  operand kinds is taken (AtRows F field w n) =
      let taken : and_operand (Number ∷ Number ∷ Seed ∷ []) word so_far ≡ Some more = ap (λ ks. and_operand ks word so_far) (sym w ∙ is) ∙ taken in
      let made = some_of _ (number_of word) more taken in
      AtCols F made.0 field (ap (λ (u : Understood). u.wanted) (sym made.2)) (ap (λ (u : Understood). u.numbers) (sym made.2) ∙ ap (λ ns. ns ++ made.0 ∷ []) n)
  operand kinds is taken (AtCols F rows field w n) =
      let taken : and_operand (Number ∷ Seed ∷ []) word so_far ≡ Some more = ap (λ ks. and_operand ks word so_far) (sym w ∙ is) ∙ taken in
      let made = some_of _ (number_of word) more taken in
      AtSeed F rows made.0 field (ap (λ (u : Understood). u.wanted) (sym made.2)) (ap (λ (u : Understood). u.numbers) (sym made.2) ∙ ap (λ ns. ns ++ made.0 ∷ []) n)
  operand kinds is taken (AtSeed F rows cols field w n) =
      let taken : and_operand (Seed ∷ []) word so_far ≡ Some more = ap (λ ks. and_operand ks word so_far) (sym w ∙ is) ∙ taken in
      let made = some_of _ (seed_of word) more taken in
      AtEnd F rows cols field (ap (λ (u : Understood). u.wanted) (sym made.2)) (ap (λ (u : Understood). u.numbers) (sym made.2) ∙ n)
  operand kinds is taken (AtEnd F rows cols field w n) =
      let taken : and_operand [] word so_far ≡ Some more = ap (λ ks. and_operand ks word so_far) (sym w ∙ is) ∙ taken in absurd cc

  -- one more word
  one_word : and_word word so_far ≡ Some more → Stage so_far → Stage more
  one_word taken stage = cases (is_option word) taken
    where
      cases : (b : Bool) → cond b (and_option word so_far) (and_operand so_far.wanted word so_far) ≡ Some more → Stage more
      cases true made =
          let option = some_of _ _ more made in
          option_keeps so_far more (ap (λ (u : Understood). u.wanted) (sym option.2)) (ap (λ (u : Understood). u.numbers) (sym option.2)) stage
      cases false made = operand so_far.wanted refl made stage

-- the last word
ended : (number : ℕ) (kinds : List Kind) (so_far all : Understood) → at_end number kinds so_far ≡ Ok all → (kinds ≡ []) × (so_far ≡ all)
ended number [] so_far all is = (refl, cc)
ended number (kind ∷ kinds) so_far all is = absurd cc

-- what all words tell
all_words : (number : ℕ) (words : List (List ℕ)) (so_far all : Understood) → understand number words so_far ≡ Ok all → Stage so_far → (all.wanted ≡ []) × Stage all
unfolding understand
all_words number [] so_far all is stage =
    let end = ended number so_far.wanted so_far all is in
    (ap (λ (u : Understood). u.wanted) (sym end.1) ∙ end.0, subst Stage end.1 stage)
all_words number (word ∷ words) so_far all is stage =
    cases (and_word word so_far) refl is (λ more taken rest. all_words (suc number) words more all rest (one_word word so_far more taken stage))
  where
    cases : (o : Option Understood) → and_word word so_far ≡ o → and_then number o (understand (suc number) words) ≡ Ok all
        → ((more : Understood) → and_word word so_far ≡ Some more → understand (suc number) words more ≡ Ok all → (all.wanted ≡ []) × Stage all)
        → (all.wanted ≡ []) × Stage all
    cases None taken made next = absurd cc
    cases (Some more) taken made next = next more taken made

-- the field of the numbers that fill all places
field_of_numbers : (all : Understood) → all.wanted ≡ [] → Stage all
    → (F : Field) × (rows : ℕ) × (cols : ℕ) × IsField F × (all.numbers ≡ F.degree ∷ F.poly ∷ rows ∷ cols ∷ [])
field_of_numbers all none (AtField w n) = absurd cc
field_of_numbers all none (AtRows F is w n) = absurd cc
field_of_numbers all none (AtCols F rows is w n) = absurd cc
field_of_numbers all none (AtSeed F rows cols is w n) = absurd cc
field_of_numbers all none (AtEnd F rows cols is w n) = (F, rows, cols, is, n)

-- the command with the numbers of its words
pub filled : (command : Command) (words : List (List ℕ)) (all : Understood) → understand 2 words (begun command) ≡ Ok all → HasField (with_numbers command all.numbers all.seed)
filled (Make seeded) words all is =
    let told = all_words 2 words (begun (Make seeded)) all is (AtField refl refl) in
    let found = field_of_numbers all told.0 told.1 in
    subst (λ ns. HasField (with_numbers (Make seeded) ns all.seed)) (sym found.4) found.3
filled (Trial seeded) words all is =
    let told = all_words 2 words (begun (Trial seeded)) all is (AtField refl refl) in
    let found = field_of_numbers all told.0 told.1 in
    subst (λ ns. HasField (with_numbers (Trial seeded) ns all.seed)) (sym found.4) found.3
filled Mul words all is = tt
filled (Addmul row col) words all is = by_numbers all.numbers
  where
    by_numbers : (ns : List ℕ) → HasField (with_numbers (Addmul row col) ns all.seed)
    by_numbers [] = tt
    by_numbers (a ∷ []) = tt
    by_numbers (a ∷ b ∷ []) = tt
    by_numbers (a ∷ b ∷ c ∷ ns) = tt
filled Add words all is = tt
filled Transpose words all is = tt
filled Stack words all is = tt
filled Augment words all is = tt
filled (Sub a b c d) words all is = by_numbers all.numbers
  where
    by_numbers : (ns : List ℕ) → HasField (with_numbers (Sub a b c d) ns all.seed)
    by_numbers [] = tt
    by_numbers (a ∷ []) = tt
    by_numbers (a ∷ b ∷ []) = tt
    by_numbers (a ∷ b ∷ c ∷ []) = tt
    by_numbers (a ∷ b ∷ c ∷ d ∷ []) = tt
    by_numbers (a ∷ b ∷ c ∷ d ∷ e ∷ ns) = tt
filled Convert words all is = tt
filled Rank words all is = tt
filled Echelon words all is = tt
filled Inverse words all is = tt
filled Solve words all is = tt
filled Kernel words all is = tt
filled Ple words all is = tt
filled Pluq words all is = tt

-- the job of words that are understood
pub job_has_field : (words : List (List ℕ)) (asked : Job) → job words ≡ Ok asked → HasField asked.command
unfolding job
job_has_field [] asked is = absurd cc
job_has_field (word ∷ words) asked is = by_command (command_named word) is
  where
    told : (command : Command) (u : Result Understood ℕ) → understand 2 words (begun command) ≡ u → job_of command u ≡ Ok asked → HasField asked.command
    told command (Err number) understood made = absurd cc
    told command (Ok all) understood made =
        let same : record { command = with_numbers command all.numbers all.seed; files = all.files; choices = all.choices } ≡ asked = cc in
        subst (λ (j : Job). HasField j.command) same (filled command words all understood)

    by_command : (named : Option Command) → job_behind named words ≡ Ok asked → HasField asked.command
    by_command None made = absurd cc
    by_command (Some command) made = told command (understand 2 words (begun command)) refl made
