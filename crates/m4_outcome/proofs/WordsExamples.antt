-- Words that are a job, and words that are none, with the number of the first that is refused.
use Rattle.std.proofs.Common.{◌≡◌, ℕ, List, [], ◌∷◌, refl, Option, Some, None, Result, Ok, Err, codes}
use Rattle.std.specs.Fmt.{digits}
use Rattle.m4_model.specs.declared.algo.Algo.TheVariants.{Strassen}
use Rattle.m4_model.specs.declared.form.Form.{Form}
use Rattle.m4_model.specs.declared.form.Form.TheVariants.{Headed, Bare, Jcf, Hex}
use Rattle.m4_outcome.specs.declared.command.Command.{Command}
use Rattle.m4_outcome.specs.declared.command.Command.TheVariants.{Mul, Addmul, Sub, Convert, Ple, Pluq, Make, Trial}
use Rattle.m4_model.specs.Field.{clmul, sum_below, bits_within}
use Rattle.m4_outcome.specs.FieldWords.{some_below}
use Rattle.m4_outcome.specs.Words.{Job, job, understand}

-- the job of a command on these files, with these forms
asks : Command → List (List ℕ) → Option Form → Option Form → Result Job ℕ
asks command files from into = Ok (record { command = command; files = files; choices = record { algo = None; k = None; tables = None; cutoff = None; from = from; into = into } })

product_of_two : job (codes "mul" ∷ codes "A" ∷ codes "B" ∷ []) ≡ asks Mul (codes "A" ∷ codes "B" ∷ []) None None
unfolding job understand digits asks
product_of_two = refl

options_among_operands : job (codes "mul" ∷ codes "--in=bare" ∷ codes "A" ∷ codes "B" ∷ codes "--out=jcf" ∷ []) ≡ asks Mul (codes "A" ∷ codes "B" ∷ []) (Some Bare) (Some Jcf)
unfolding job understand digits asks
options_among_operands = refl

answer_in_version_2 : job (codes "convert" ∷ codes "A" ∷ codes "--out=hex" ∷ []) ≡ asks Convert (codes "A" ∷ []) None (Some Hex)
unfolding job understand digits asks
answer_in_version_2 = refl

files_in_version_2 : job (codes "convert" ∷ codes "A" ∷ codes "--in=hex" ∷ []) ≡ Err 3
unfolding job understand digits asks
files_in_version_2 = refl

numbers_of_a_place : job (codes "addmul" ∷ codes "C" ∷ codes "1" ∷ codes "--out=text" ∷ codes "64" ∷ codes "A" ∷ codes "B" ∷ [])
    ≡ asks (Addmul 1 64) (codes "C" ∷ codes "A" ∷ codes "B" ∷ []) None (Some Headed)
unfolding job understand digits asks
numbers_of_a_place = refl

a_name_with_equals_sign : job (codes "convert" ∷ codes "-in=a=b" ∷ []) ≡ asks Convert (codes "-in=a=b" ∷ []) None None
unfolding job understand digits asks
a_name_with_equals_sign = refl

corners_of_a_part : job (codes "sub" ∷ codes "A" ∷ codes "0" ∷ codes "1" ∷ codes "2" ∷ codes "3" ∷ []) ≡ asks (Sub 0 1 2 3) (codes "A" ∷ []) None None
unfolding job understand digits asks
corners_of_a_part = refl

factors_of_one : job (codes "ple" ∷ codes "A" ∷ []) ≡ asks Ple (codes "A" ∷ []) None None
unfolding job understand digits asks
factors_of_one = refl

factors_with_an_option : job (codes "pluq" ∷ codes "A" ∷ codes "--out=bare" ∷ []) ≡ asks Pluq (codes "A" ∷ []) None (Some Bare)
unfolding job understand digits asks
factors_with_an_option = refl

options_of_products : job (codes "mul" ∷ codes "A" ∷ codes "--algo=strassen" ∷ codes "B" ∷ codes "--k=8" ∷ codes "--tables=1" ∷ codes "--cutoff=65536" ∷ [])
    ≡ Ok (record { command = Mul; files = codes "A" ∷ codes "B" ∷ []; choices = record { algo = Some Strassen; k = Some 8; tables = Some 1; cutoff = Some 65536; from = None; into = None } })
unfolding job understand digits
options_of_products = refl

too_large_an_option : job (codes "mul" ∷ codes "--k=9" ∷ codes "A" ∷ codes "B" ∷ []) ≡ Err 2
unfolding job understand digits
too_large_an_option = refl

too_small_an_option : job (codes "mul" ∷ codes "A" ∷ codes "--cutoff=63" ∷ codes "B" ∷ []) ≡ Err 3
unfolding job understand digits
too_small_an_option = refl

an_option_with_leading_zero : job (codes "mul" ∷ codes "--k=08" ∷ codes "A" ∷ codes "B" ∷ []) ≡ Err 2
unfolding job understand digits
an_option_with_leading_zero = refl

no_words : job [] ≡ Err 1
unfolding job
no_words = refl

no_command : job (codes "multiply" ∷ []) ≡ Err 1
unfolding job understand digits
no_command = refl

an_option_in_place_of_the_command : job (codes "--in=text" ∷ codes "mul" ∷ []) ≡ Err 1
unfolding job understand digits
an_option_in_place_of_the_command = refl

a_file_too_few : job (codes "mul" ∷ codes "A" ∷ []) ≡ Err 3
unfolding job understand digits
a_file_too_few = refl

a_file_too_few_beside_an_option : job (codes "mul" ∷ codes "A" ∷ codes "--in=jcf" ∷ []) ≡ Err 4
unfolding job understand digits
a_file_too_few_beside_an_option = refl

a_file_too_many : job (codes "mul" ∷ codes "A" ∷ codes "B" ∷ codes "C" ∷ []) ≡ Err 4
unfolding job understand digits
a_file_too_many = refl

no_such_option : job (codes "mul" ∷ codes "--on=text" ∷ codes "A" ∷ codes "B" ∷ []) ≡ Err 2
unfolding job understand digits
no_such_option = refl

no_such_value : job (codes "convert" ∷ codes "A" ∷ codes "--in=hex" ∷ []) ≡ Err 3
unfolding job understand digits
no_such_value = refl

no_value : job (codes "convert" ∷ codes "--in" ∷ codes "A" ∷ []) ≡ Err 2
unfolding job understand digits
no_value = refl

an_option_given_twice : job (codes "mul" ∷ codes "A" ∷ codes "B" ∷ codes "--in=text" ∷ codes "--in=text" ∷ []) ≡ Err 5
unfolding job understand digits
an_option_given_twice = refl

an_option_before_a_word_too_many : job (codes "mul" ∷ codes "A" ∷ codes "B" ∷ codes "--" ∷ codes "C" ∷ []) ≡ Err 4
unfolding job understand digits
an_option_before_a_word_too_many = refl

no_leading_zero : job (codes "addmul" ∷ codes "C" ∷ codes "01" ∷ codes "64" ∷ codes "A" ∷ codes "B" ∷ []) ≡ Err 3
unfolding job understand digits
no_leading_zero = refl

too_long_a_number : job (codes "addmul" ∷ codes "C" ∷ codes "1" ∷ codes "1000000000" ∷ codes "A" ∷ codes "B" ∷ []) ≡ Err 4
unfolding job understand digits
too_long_a_number = refl

no_number : job (codes "addmul" ∷ codes "C" ∷ codes "A" ∷ []) ≡ Err 3
unfolding job understand digits
no_number = refl

a_place_missing : job (codes "addmul" ∷ codes "C" ∷ codes "1" ∷ []) ≡ Err 4
unfolding job understand digits
a_place_missing = refl

a_generated_matrix : job (codes "make" ∷ codes "2:7" ∷ codes "1" ∷ codes "--out=hex" ∷ codes "4" ∷ codes "9999999999" ∷ [])
    ≡ asks (Make (record { degree = 2; poly = 7; rows = 1; cols = 4; seed = 9999999999 })) [] None (Some Hex)
unfolding job understand digits asks some_below clmul sum_below bits_within
a_generated_matrix = refl

a_trial_of_bits : job (codes "trial" ∷ codes "gf2" ∷ codes "0" ∷ codes "5" ∷ codes "7" ∷ [])
    ≡ asks (Trial (record { degree = 1; poly = 2; rows = 0; cols = 5; seed = 7 })) [] None None
unfolding job understand digits asks
a_trial_of_bits = refl

no_field : job (codes "make" ∷ codes "2:5" ∷ codes "1" ∷ codes "1" ∷ codes "0" ∷ []) ≡ Err 2
unfolding job understand digits some_below clmul sum_below bits_within
no_field = refl

no_seed : job (codes "make" ∷ codes "gf2" ∷ codes "1" ∷ codes "1" ∷ []) ≡ Err 5
unfolding job understand digits
no_seed = refl

a_seed_with_a_zero_before_it : job (codes "trial" ∷ codes "gf2" ∷ codes "1" ∷ codes "1" ∷ codes "00" ∷ []) ≡ Err 5
unfolding job understand digits
a_seed_with_a_zero_before_it = refl
