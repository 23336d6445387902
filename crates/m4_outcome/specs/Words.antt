-- The words of a command line, and the job that they ask for.
use Rattle.std.specs.Prelude.{◌==◌, ℕ, suc, ◌^◌, List, [], ◌∷◌, ◌++◌, Option, Some, None, Result, Ok, Err, option_map, unwrap_or, codes, decimal, bytes_eq, nat_eq, nat_lt, nat_le, Bool, ◌&&◌, if◌then◌else◌}
use Rattle.std.specs.Option.{option_and_then}
use Rattle.std.specs.List.{starts_with, before_first, after_first}
use Rattle.std.specs.Str.Parse.{digits_value}
use Rattle.m4_model.specs.Field.{Field}
use Rattle.m4_outcome.specs.FieldWords.{number_of, seed_of, field_named}
use Rattle.m4_outcome.specs.declared.command.Seeded.{Seeded}
use Rattle.m4_outcome.specs.declared.command.Command.{Command}
use Rattle.m4_outcome.specs.declared.command.Command.TheVariants.{Mul, Addmul, Add, Transpose, Stack, Augment, Sub, Convert, Rank, Echelon, Inverse, Solve, Kernel, Ple, Pluq, Make, Trial}
use Rattle.m4_outcome.specs.declared.command.Kind.{Kind}
use Rattle.m4_outcome.specs.declared.command.Kind.TheVariants.{FileName, Number, FieldName, Seed}
use Rattle.m4_model.specs.declared.algo.Algo.{Algo}
use Rattle.m4_model.specs.declared.algo.Algo.TheVariants.{Plain, Table, Strassen}
use Rattle.m4_model.specs.declared.form.Form.{Form}
use Rattle.m4_model.specs.declared.algo.TheConstants.{LEAST_CUTOFF, MOST_CUTOFF}
use Rattle.m4_model.specs.declared.form.Form.TheVariants.{Headed, Bare, Jcf, Hex}
use Rattle.m4_outcome.specs.declared.choices.Choices.{Choices}

-- A command, the names of its files in order, and what the options choose.
pub record Job : Type 0 where
  pub command : Command
  pub files : List (List ℕ)
  pub choices : Choices

-- A generated matrix with zeros in the places of all that names it.
abbrev pub not_seeded : Seeded
not_seeded = record { degree = 0; poly = 0; rows = 0; cols = 0; seed = 0 }

-- The command that a word names, with zeros in the places of its numbers.
abbrev pub command_named : List ℕ → Option Command
command_named word =
    if bytes_eq word (codes "mul") then Some Mul
    else if bytes_eq word (codes "addmul") then Some (Addmul 0 0)
    else if bytes_eq word (codes "add") then Some Add
    else if bytes_eq word (codes "transpose") then Some Transpose
    else if bytes_eq word (codes "stack") then Some Stack
    else if bytes_eq word (codes "augment") then Some Augment
    else if bytes_eq word (codes "sub") then Some (Sub 0 0 0 0)
    else if bytes_eq word (codes "convert") then Some Convert
    else if bytes_eq word (codes "rank") then Some Rank
    else if bytes_eq word (codes "echelon") then Some Echelon
    else if bytes_eq word (codes "inverse") then Some Inverse
    else if bytes_eq word (codes "solve") then Some Solve
    else if bytes_eq word (codes "kernel") then Some Kernel
    else if bytes_eq word (codes "ple") then Some Ple
    else if bytes_eq word (codes "pluq") then Some Pluq
    else if bytes_eq word (codes "make") then Some (Make not_seeded)
    else if bytes_eq word (codes "trial") then Some (Trial not_seeded)
    else None

-- The places behind the word that names the command, in order.
abbrev pub kinds_of : Command → List Kind
kinds_of Mul = FileName ∷ FileName ∷ []
kinds_of (Addmul row col) = FileName ∷ Number ∷ Number ∷ FileName ∷ FileName ∷ []
kinds_of Add = FileName ∷ FileName ∷ []
kinds_of Stack = FileName ∷ FileName ∷ []
kinds_of Augment = FileName ∷ FileName ∷ []
kinds_of (Sub row col row_end col_end) = FileName ∷ Number ∷ Number ∷ Number ∷ Number ∷ []
kinds_of Solve = FileName ∷ FileName ∷ []
kinds_of (Make seeded) = FieldName ∷ Number ∷ Number ∷ Seed ∷ []
kinds_of (Trial seeded) = FieldName ∷ Number ∷ Number ∷ Seed ∷ []
kinds_of command = FileName ∷ []

-- The command with these numbers in its places, which are as many, and with this seed. A field has two numbers, its degree
-- and its polynomial.
abbrev pub with_numbers : Command → List ℕ → ℕ → Command
with_numbers (Addmul none nowhere) (row ∷ col ∷ []) seed = Addmul row col
with_numbers (Sub none nowhere no_end nowhere_else) (row ∷ col ∷ row_end ∷ col_end ∷ []) seed = Sub row col row_end col_end
with_numbers (Make unnamed) (degree ∷ poly ∷ rows ∷ cols ∷ []) seed =
    Make (record { degree = degree; poly = poly; rows = rows; cols = cols; seed = seed })
with_numbers (Trial unnamed) (degree ∷ poly ∷ rows ∷ cols ∷ []) seed =
    Trial (record { degree = degree; poly = poly; rows = rows; cols = cols; seed = seed })
with_numbers command numbers seed = command

-- The number that a value is, if it lies between these two.
abbrev pub number_between : ℕ → ℕ → List ℕ → Option ℕ
number_between low high value = option_and_then (λ n. if nat_le low n && nat_le n high then Some n else None) (number_of value)

-- The algorithm that a value names.
abbrev pub algo_named : List ℕ → Option Algo
algo_named value =
    if bytes_eq value (codes "plain") then Some Plain
    else if bytes_eq value (codes "table") then Some Table
    else if bytes_eq value (codes "strassen") then Some Strassen
    else None

-- The form of files that a value names.
abbrev pub form_named : List ℕ → Option Form
form_named value =
    if bytes_eq value (codes "text") then Some Headed
    else if bytes_eq value (codes "bare") then Some Bare
    else if bytes_eq value (codes "jcf") then Some Jcf
    else None

-- The form of answers that a value names.
abbrev pub answer_form_named : List ℕ → Option Form
answer_form_named value = if bytes_eq value (codes "hex") then Some Hex else form_named value

-- No option is given.
abbrev pub none_given : Choices
none_given = record { algo = None; k = None; tables = None; cutoff = None; from = None; into = None }

-- The form of all files that are read: headed text, if no other is chosen.
abbrev pub form_of_files : Choices → Form
form_of_files choices = unwrap_or choices.from Headed

-- The form of an answer that is one matrix: headed text, if no other is chosen.
abbrev pub form_of_answer : Choices → Form
form_of_answer choices = unwrap_or choices.into Headed

-- The value of an option that has not been given before.
abbrev pub once : {A : Type 0} → Option A → Option A → Option A
once None value = value
once (Some before) value = None

-- The choices with one more option, of this name and this value. There is none of another name, with another value, or of
-- a name that was given before.
abbrev pub with_option : List ℕ → List ℕ → Choices → Option Choices
with_option name value choices =
    if bytes_eq name (codes "--algo") then option_map (λ algo. record choices { algo = Some algo }) (once choices.algo (algo_named value))
    else if bytes_eq name (codes "--k") then option_map (λ k. record choices { k = Some k }) (once choices.k (number_between 1 8 value))
    else if bytes_eq name (codes "--tables") then option_map (λ tables. record choices { tables = Some tables }) (once choices.tables (number_between 1 8 value))
    else if bytes_eq name (codes "--cutoff") then option_map (λ cutoff. record choices { cutoff = Some cutoff }) (once choices.cutoff (number_between LEAST_CUTOFF MOST_CUTOFF value))
    else if bytes_eq name (codes "--in") then option_map (λ form. record choices { from = Some form }) (once choices.from (form_named value))
    else if bytes_eq name (codes "--out") then option_map (λ form. record choices { into = Some form }) (once choices.into (answer_form_named value))
    else None

-- A word that begins with `--` is an option.
abbrev pub is_option : List ℕ → Bool
is_option word = starts_with nat_eq word (codes "--")

-- What an option's first `=` stands before is its value, and what stands before that is its name.
abbrev pub is_equals_sign : ℕ → Bool
is_equals_sign byte = byte == 61

-- What the words tell that have been read: the places that are still wanted, the numbers, the seed and the files of those
-- that are filled, and what the options choose. The seed is 0 until it is told.
pub record Understood : Type 0 where
  pub wanted : List Kind
  pub numbers : List ℕ
  pub seed : ℕ
  pub files : List (List ℕ)
  pub choices : Choices

-- One more option, if it is one.
abbrev pub and_option : List ℕ → Understood → Option Understood
and_option word so_far =
    option_map (λ choices. record so_far { choices = choices }) (with_option (before_first is_equals_sign word) (after_first is_equals_sign word) so_far.choices)

-- One more operand in the first place that is wanted, if there is one and it takes the word.
abbrev pub and_operand : List Kind → List ℕ → Understood → Option Understood
and_operand [] word so_far = None
and_operand (FileName ∷ kinds) word so_far = Some (record so_far { wanted = kinds; files = so_far.files ++ word ∷ [] })
and_operand (Number ∷ kinds) word so_far =
    option_map (λ n. record so_far { wanted = kinds; numbers = so_far.numbers ++ n ∷ [] }) (number_of word)
and_operand (FieldName ∷ kinds) word so_far =
    option_map (λ F. record so_far { wanted = kinds; numbers = so_far.numbers ++ F.degree ∷ F.poly ∷ [] }) (field_named word)
and_operand (Seed ∷ kinds) word so_far = option_map (λ n. record so_far { wanted = kinds; seed = n }) (seed_of word)

-- One more word, which is an option or an operand, if it is understood.
abbrev pub and_word : List ℕ → Understood → Option Understood
and_word word so_far = if is_option word then and_option word so_far else and_operand so_far.wanted word so_far

-- What is told where the words end at this number: all, if no place is wanted any more.
abbrev pub at_end : ℕ → List Kind → Understood → Result Understood ℕ
at_end number [] so_far = Ok so_far
at_end number (kind ∷ kinds) so_far = Err number

-- What the next words make of what the word of this number has made, if it is understood.
abbrev pub and_then : ℕ → Option Understood → (Understood → Result Understood ℕ) → Result Understood ℕ
and_then number None next = Err number
and_then number (Some so_far) next = next so_far

-- What the words from the given number on tell, besides what is told so far; or the number of the first that is
-- refused, or one past the last where a place is still wanted.
unfoldable pub understand : ℕ → List (List ℕ) → Understood → Result Understood ℕ
understand number [] so_far = at_end number so_far.wanted so_far
understand number (word ∷ words) so_far = and_then number (and_word word so_far) (understand (suc number) words)

-- What is told before any word behind the first.
abbrev pub begun : Command → Understood
begun command = record { wanted = kinds_of command; numbers = []; seed = 0; files = []; choices = none_given }

-- The job of a command with what the words behind its name tell.
abbrev pub job_of : Command → Result Understood ℕ → Result Job ℕ
job_of command (Ok all) = Ok (record { command = with_numbers command all.numbers all.seed; files = all.files; choices = all.choices })
job_of command (Err word) = Err word

-- The job of the words behind the first.
abbrev pub job_behind : Option Command → List (List ℕ) → Result Job ℕ
job_behind (Some command) words = job_of command (understand 2 words (begun command))
job_behind None words = Err 1

-- The job that the words ask for, or the number of the first word that is refused, counted from 1.
unfoldable pub job : List (List ℕ) → Result Job ℕ
job [] = Err 1
job (word ∷ words) = job_behind (command_named word) words
