-- Words read from left to right by their index, against the definition that goes over the list.
use Rattle.std.proofs.Common.{◌≡◌, Result, ℕ, suc, ◌+◌, ◌^◌, ◌<◌, ◌≤◌, List, [], ◌∷◌, Some, None, length, get_or, take, drop, ◌-◌, refl, sym, ◌∙◌, ap, arith, Bool, true, false, Ok, Err, decimal, cond, bytes_eq, nat_lt, ◌&&◌}
use Rattle.std.specs.Prelude.{◌==◌, String, string_bytes}
use Rattle.std.specs.Str.Parse.{digits_value}
use Rattle.std.specs.declared.alloc.Global.{Global}
use Rattle.std.proofs.lemmas.List.{take_all, length-drop, drop_more, drop_all, get_or-map, length-map}
use Rattle.std.proofs.lemmas.Bool.{ltb-true, lt-ltb}
use Rattle.std.proofs.lemmas.Slice.Eq.{bytes_eq-Decides}
use Rattle.std.proofs.lemmas.Fmt.{decimal_is_IsNumeral}
use Rattle.m4_outcome.specs.declared.command.Command.{Command}
use Rattle.m4_outcome.specs.declared.command.Kind.{Kind}
use Rattle.m4_outcome.specs.FieldWords.{decimal_below, number_of, seed_of}
use Rattle.m4_outcome.specs.Words.{Understood, understand, and_word, job, job_of, job_behind, command_named, begun}
use Rattle.m4_words.specs.Texts.{texts}

-- a word in decimal
pub decimal-some : (most : ℕ) → most ≤ 2 ^ 64 → (word : List ℕ) (n : ℕ) → n < most → word ≡ decimal n → decimal_below most word ≡ Some n
decimal-some most few word n small is =
    let value : digits_value 10 word ≡ n = ap (digits_value 10) is ∙ (decimal_is_IsNumeral n (omega arith)).1 in
    let less = lt-ltb n most small in
    let same = (bytes_eq-Decides word (decimal n)).1 is in
    rw (value, less, same) refl

-- a word that is no number in decimal
pub decimal-none : (most : ℕ) (word : List ℕ) → ((n : ℕ) → n < most → word ≡ decimal n → ⊥) → decimal_below most word ≡ None
decimal-none most word none = cases (nat_lt n most) (bytes_eq word (decimal n)) refl refl
  where
    n : ℕ
    n = digits_value 10 word

    cases : (small same : Bool) → nat_lt n most ≡ small → bytes_eq word (decimal n) ≡ same → cond (small && same) (Some n) None ≡ None
    cases false same is_small is_same = refl
    cases true false is_small is_same = refl
    cases true true is_small is_same = absurd (none n (ltb-true n most is_small) ((bytes_eq-Decides word (decimal n)).0 is_same))

pub number-decimal : (word : List ℕ) (n : ℕ) → n < 10 ^ 9 → word ≡ decimal n → number_of word ≡ Some n
number-decimal = decimal-some (10 ^ 9) (omega arith)

pub number-none : (word : List ℕ) → ((n : ℕ) → n < 10 ^ 9 → word ≡ decimal n → ⊥) → number_of word ≡ None
number-none = decimal-none (10 ^ 9)

pub seed-decimal : (word : List ℕ) (n : ℕ) → n < 2 ^ 64 → word ≡ decimal n → seed_of word ≡ Some n
seed-decimal = decimal-some (2 ^ 64) (omega arith)

pub seed-none : (word : List ℕ) → ((n : ℕ) → n < 2 ^ 64 → word ≡ decimal n → ⊥) → seed_of word ≡ None
seed-none = decimal-none (2 ^ 64)

-- the text of a word
text_at : (words : List (String Global)) (i : ℕ) (word : String Global) → i < length words → get_or words i word ≡ word → get_or (texts words) i [] ≡ string_bytes word
text_at words i word within is = get_or-map string_bytes words i word [] within ∙ ap string_bytes is

-- the texts from this word on
texts_from : (words : List (String Global)) (i : ℕ) (word : String Global) (text : List ℕ) → i < length words → get_or words i word ≡ word → text ≡ string_bytes word
    → drop i (texts words) ≡ text ∷ drop (i + 1) (texts words)
texts_from words i word text within is bytes =
    let inside : i < length (texts words) = rw (length-map words string_bytes) within in
    drop_more (texts words) i [] inside ∙ ap (λ t. t ∷ drop (i + 1) (texts words)) (text_at words i word within is ∙ sym bytes)

module _ (words : List (String Global)) (number i : ℕ) (so_far : Understood) where
  -- one more word is understood
  pub understand-word : (word : String Global) (text : List ℕ) (next : ℕ) (more : Understood) → i < length words → get_or words i word ≡ word → text ≡ string_bytes word → next ≡ suc number
      → and_word text so_far ≡ Some more → understand number (drop i (texts words)) so_far ≡ understand next (drop (i + 1) (texts words)) more
  unfolding understand
  understand-word word text next more within is bytes follows taken = rw (follows, texts_from words i word text within is bytes, taken) refl

  -- a word is refused
  pub understand-refused : (word : String Global) (text : List ℕ) → i < length words → get_or words i word ≡ word → text ≡ string_bytes word
      → and_word text so_far ≡ None → understand number (drop i (texts words)) so_far ≡ Err number
  unfolding understand
  understand-refused word text within is bytes refused = rw (texts_from words i word text within is bytes, refused) refl

  -- no word is left, and no place is wanted
  pub understand-end : (wanted : List Kind) → so_far.wanted ≡ wanted → true ≡ (length wanted == 0) → length words ≤ i → understand number (drop i (texts words)) so_far ≡ Ok so_far
  unfolding understand
  understand-end [] is none past = rw (drop_all i (texts words) (rw (length-map words string_bytes) past), is) refl
  understand-end (kind ∷ kinds) is none past = absurd (grind arith)

  -- no word is left, and a place is wanted
  pub understand-missing : (wanted : List Kind) → so_far.wanted ≡ wanted → false ≡ (length wanted == 0) → length words ≤ i → understand number (drop i (texts words)) so_far ≡ Err number
  unfolding understand
  understand-missing [] is some past = absurd cc
  understand-missing (kind ∷ kinds) is some past = rw (drop_all i (texts words) (rw (length-map words string_bytes) past), is) refl

-- there are no words
pub job-none : (words : List (String Global)) → length words < 1 → job (texts words) ≡ Err 1
unfolding job
job-none [] none = refl
job-none (word ∷ words) none = absurd (omega arith)

-- the job of the words, by what the first of them names
by_first : (words : List (String Global)) (first : String Global) (text : List ℕ) → 1 ≤ length words → get_or words 0 first ≡ first → text ≡ string_bytes first
    → job (texts words) ≡ job_behind (command_named text) (texts (drop 1 words))
unfolding job
by_first [] first text some is bytes = absurd (omega arith)
by_first (word ∷ words) first text some is bytes = rw (is, bytes) refl

module _ (words : List (String Global)) (first : String Global) (text : List ℕ) where
  -- the first word names no command
  pub job-unnamed : 1 ≤ length words → get_or words 0 first ≡ first → text ≡ string_bytes first → command_named text ≡ None → job (texts words) ≡ Err 1
  job-unnamed some is bytes unnamed = by_first words first text some is bytes ∙ ap (λ named. job_behind named (texts (drop 1 words))) unnamed

  -- the first word names a command, and the others tell this of it
  pub job-told : (command : Command) (told : Result Understood ℕ) → 1 ≤ length words → get_or words 0 first ≡ first → text ≡ string_bytes first → command_named text ≡ Some command
      → understand 2 (texts (take (length words - 1) (drop 1 words))) (begun command) ≡ told → job (texts words) ≡ job_of command told
  job-told command told some is bytes named tells =
      let all : drop 1 words ≡ take (length words - 1) (drop 1 words) = sym (take_all (length words - 1) (drop 1 words) (omega (arith, length-drop 1 words))) in
      by_first words first text some is bytes ∙ ap (λ found. job_behind found (texts (drop 1 words))) named
      ∙ ap (λ behind. job_of command (understand 2 (texts behind) (begun command))) all ∙ ap (job_of command) tells
