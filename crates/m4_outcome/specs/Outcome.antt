-- What a run of the program has to answer: its status and its text, from its words and the files at hand.
use Rattle.std.specs.Prelude.{◌≡◌, ℕ, ◌+◌, ◌-◌, ◌*◌, ◌%◌, ◌≤◌, ◌⊎◌, List, [], ◌∷◌, ◌++◌, length, All, Option, Some, None, option_map, flat_map, find, bytes_eq, Ok, Err, codes, decimal}
use Rattle.m4_model.specs.Field.{Field, width, width_of}
use Rattle.m4_model.specs.Matrix.{Matrix, added, product}
use Rattle.m4_model.specs.Shapes.{transposed, above, beside, LiesInside, cut, HasRoom, with_product}
use Rattle.m4_model.specs.Rank.{IsRank}
use Rattle.m4_model.specs.Forms.{IsReduced, IsInverse, Singular, IsSolution, NoSolution, IsKernel}
use Rattle.m4_model.specs.Factors.{IsPle, IsPluq}
use Rattle.m4_model.specs.Stock.{Stock, bytes_of}
use Rattle.m4_model.specs.NumberLines.{numbers_line}
use Rattle.m4_model.specs.Text.{IsWithinLimits}
use Rattle.m4_model.specs.Headed.{headed_text, Fault, BadAt, BadDegreeAt, ReducibleAt, PastLimit}
use Rattle.m4_model.specs.FormTexts.{can_hold, text_as, ReadsAs, RefusalAs}
use Rattle.m4_outcome.specs.RankLines.{rank_line}
use Rattle.m4_outcome.specs.Seeds.{seeded_matrix, IsTrialText}
use Rattle.m4_outcome.specs.Words.{Job, job, form_of_files, form_of_answer}
use Rattle.m4_model.specs.declared.form.Form.{Form}
use Rattle.m4_outcome.specs.declared.command.Command.{Command}
use Rattle.m4_outcome.specs.declared.command.Command.TheVariants.{Mul, Addmul, Add, Transpose, Stack, Augment, Sub, Convert, Rank, Echelon, Inverse, Solve, Kernel, Ple, Pluq, Make, Trial}
use Rattle.m4_outcome.specs.declared.status.Status.{Status}
use Rattle.m4_outcome.specs.declared.status.Status.TheVariants.{Done, No, Words, Text, Shape, Limit, Read, Write, Memory}

-- Each file is there, and is read in this form as a matrix.
abbrev pub Accepted : Stock → Form → List (List ℕ) → List Matrix → Type 0
Accepted stock form [] [] = Unit {0}
Accepted stock form (name ∷ names) (M ∷ Ms) = (bytes : List ℕ) × (bytes_of stock name ≡ Some bytes) × ReadsAs form bytes M × Accepted stock form names Ms
Accepted stock form [] (M ∷ Ms) = ⊥
Accepted stock form (name ∷ names) [] = ⊥

-- The operand of this number, counted from 1, is the first file that isn't accepted. It is there, and is refused.
pub record FirstRefused (stock : Stock) (form : Form) (names : List (List ℕ)) (operand : ℕ) (fault : Fault) : Type 0 where
  pub before : List (List ℕ)
  pub name : List ℕ
  pub after : List (List ℕ)
  pub matrices : List Matrix
  pub bytes : List ℕ
  pub place : names ≡ before ++ name ∷ after
  pub number : operand ≡ length before + 1
  pub accepted : Accepted stock form before matrices
  pub found : bytes_of stock name ≡ Some bytes
  pub refused : RefusalAs form bytes fault

-- The first file that isn't accepted isn't there.
pub record FirstMissing (stock : Stock) (form : Form) (names : List (List ℕ)) : Type 0 where
  pub before : List (List ℕ)
  pub name : List ℕ
  pub after : List (List ℕ)
  pub matrices : List Matrix
  pub place : names ≡ before ++ name ∷ after
  pub accepted : Accepted stock form before matrices
  pub missing : bytes_of stock name ≡ None

-- Rows `row` to `row_end - 1` and columns `col` to `col_end - 1` are those of a rectangle of A.
abbrev pub HasRectangle : Matrix → ℕ → ℕ → ℕ → ℕ → Type 0
HasRectangle A row col row_end col_end = LiesInside row col row_end col_end A.rows A.cols

-- The matrices are over this field.
abbrev pub AreOver : Field → List Matrix → Type 0
AreOver F matrices = All (λ A. A.field ≡ F) matrices

-- The matrices are over one field.
abbrev pub ShareField : List Matrix → Type 0
ShareField [] = Unit {0}
ShareField (A ∷ matrices) = AreOver A.field matrices

-- The operands' shapes fit the command.
abbrev pub Fits : Command → List Matrix → Type 0
Fits Mul (A ∷ B ∷ []) = A.cols ≡ B.rows
Fits (Addmul row col) (C ∷ A ∷ B ∷ []) = (A.cols ≡ B.rows) × HasRoom C row col A.rows B.cols
Fits Add (A ∷ B ∷ []) = (A.rows ≡ B.rows) × (A.cols ≡ B.cols)
Fits Transpose (A ∷ []) = Unit {0}
Fits Stack (A ∷ B ∷ []) = A.cols ≡ B.cols
Fits Augment (A ∷ B ∷ []) = A.rows ≡ B.rows
Fits (Sub row col row_end col_end) (A ∷ []) = HasRectangle A row col row_end col_end
Fits Convert (A ∷ []) = Unit {0}
Fits Rank (A ∷ []) = Unit {0}
Fits Echelon (A ∷ []) = Unit {0}
Fits Inverse (A ∷ []) = A.cols ≡ A.rows
Fits Solve (A ∷ B ∷ []) = A.rows ≡ B.rows
Fits Kernel (A ∷ []) = Unit {0}
Fits Ple (A ∷ []) = Unit {0}
Fits Pluq (A ∷ []) = Unit {0}
Fits (Make seeded) [] = Unit {0}
Fits (Trial seeded) [] = Unit {0}
Fits command other = ⊥

-- The shape of the answer is within the limits, for a command whose answer's shape is known from the operands' shapes. An
-- answer no larger than an operand always is. The shape of a solution counts also where there is none, that of the
-- factor L beside the other factor, which is as large as the operand, and that of a generated matrix.
abbrev pub InKnownBounds : Command → List Matrix → Type 0
InKnownBounds Mul (A ∷ B ∷ []) = IsWithinLimits (width A.field) A.rows B.cols
InKnownBounds Transpose (A ∷ []) = IsWithinLimits (width A.field) A.cols A.rows
InKnownBounds Stack (A ∷ B ∷ []) = IsWithinLimits (width A.field) (A.rows + B.rows) A.cols
InKnownBounds Augment (A ∷ B ∷ []) = IsWithinLimits (width A.field) A.rows (A.cols + B.cols)
InKnownBounds Solve (A ∷ B ∷ []) = IsWithinLimits (width A.field) A.cols B.cols
InKnownBounds Ple (A ∷ []) = IsWithinLimits (width A.field) A.rows A.rows
InKnownBounds Pluq (A ∷ []) = IsWithinLimits (width A.field) A.rows A.rows
InKnownBounds (Make seeded) [] = IsWithinLimits (width_of seeded.degree) seeded.rows seeded.cols
InKnownBounds (Trial seeded) [] = IsWithinLimits (width_of seeded.degree) seeded.rows seeded.cols
InKnownBounds command other = Unit {0}

-- The shape of the answer is within the limits. A kernel's has a row for each free column, as many as the rank leaves.
abbrev pub InBounds : Command → List Matrix → Type 0
InBounds Kernel (A ∷ []) = (r : ℕ) × IsRank A r × IsWithinLimits (width A.field) (A.cols - r) A.cols
InBounds command matrices = InKnownBounds command matrices

-- What a command answers: a matrix, some lines of text, or that there is no answer, with the line that says so.
pub data Answer : Type 0 where
  OneMatrix : Matrix → Answer
  Lines : List ℕ → Answer
  NoAnswer : List ℕ → Answer

-- The answer is a matrix with this property.
abbrev pub IsMatrixWith : (Matrix → Type 0) → Answer → Type 0
IsMatrixWith property (OneMatrix R) = property R
IsMatrixWith property (Lines lines) = ⊥
IsMatrixWith property (NoAnswer line) = ⊥

-- The answer is some lines with this property.
abbrev pub AreLinesWith : (List ℕ → Type 0) → Answer → Type 0
AreLinesWith property (OneMatrix R) = ⊥
AreLinesWith property (Lines lines) = property lines
AreLinesWith property (NoAnswer line) = ⊥

-- The answer is a matrix with this property, or that there is none, for this cause and with this line.
abbrev pub IsMatrixOrNone : (Matrix → Type 0) → Type 0 → List ℕ → Answer → Type 0
IsMatrixOrNone property cause line (OneMatrix R) = property R
IsMatrixOrNone property cause line (Lines lines) = ⊥
IsMatrixOrNone property cause line (NoAnswer said) = cause × (said ≡ line)

-- The text of factors of a matrix: a line with the rank, one with the order of the rows, one that tells of columns, and
-- the two factors as headed texts.
abbrev pub factors_text : ℕ → List ℕ → List ℕ → Matrix → Matrix → List ℕ
factors_text r p columns L E = (rank_line r ++ (numbers_line (codes "rows") p ++ columns)) ++ (headed_text L ++ headed_text E)

-- The text of a PLE of A, which tells the pivots.
pub record IsPleText (A : Matrix) (lines : List ℕ) : Type 0 where
  pub p : List ℕ
  pub q : List ℕ
  pub l : Matrix
  pub e : Matrix
  pub factors : IsPle A p q (length q) l e
  pub text : lines ≡ factors_text (length q) p (numbers_line (codes "pivots") q) l e

-- The text of a PLUQ of A, which tells the order of the columns.
pub record IsPluqText (A : Matrix) (lines : List ℕ) : Type 0 where
  pub p : List ℕ
  pub c : List ℕ
  pub r : ℕ
  pub l : Matrix
  pub u : Matrix
  pub factors : IsPluq A p c r l u
  pub text : lines ≡ factors_text r p (numbers_line (codes "columns") c) l u

-- This is the command's answer. Of a PLE and a PLUQ, whose factors are not the only ones, some may stand in the text.
abbrev pub IsAnswer : Command → List Matrix → Answer → Type 0
IsAnswer Mul (A ∷ B ∷ []) answer = answer ≡ OneMatrix (product A B)
IsAnswer (Addmul row col) (C ∷ A ∷ B ∷ []) answer = answer ≡ OneMatrix (with_product C row col A B)
IsAnswer Add (A ∷ B ∷ []) answer = answer ≡ OneMatrix (added A B)
IsAnswer Transpose (A ∷ []) answer = answer ≡ OneMatrix (transposed A)
IsAnswer Stack (A ∷ B ∷ []) answer = answer ≡ OneMatrix (above A B)
IsAnswer Augment (A ∷ B ∷ []) answer = answer ≡ OneMatrix (beside A B)
IsAnswer (Sub row col row_end col_end) (A ∷ []) answer = answer ≡ OneMatrix (cut A row col row_end col_end)
IsAnswer Convert (A ∷ []) answer = answer ≡ OneMatrix A
IsAnswer Rank (A ∷ []) answer = (r : ℕ) × IsRank A r × (answer ≡ Lines (rank_line r))
IsAnswer Echelon (A ∷ []) answer = IsMatrixWith (λ R. IsReduced R A) answer
IsAnswer Inverse (A ∷ []) answer = IsMatrixOrNone (λ X. IsInverse X A) (Singular A) (codes "singular\n") answer
IsAnswer Solve (A ∷ B ∷ []) answer = IsMatrixOrNone (λ X. IsSolution X A B) (NoSolution A B) (codes "no solution\n") answer
IsAnswer Kernel (A ∷ []) answer = IsMatrixWith (λ K. IsKernel K A) answer
IsAnswer Ple (A ∷ []) answer = AreLinesWith (IsPleText A) answer
IsAnswer Pluq (A ∷ []) answer = AreLinesWith (IsPluqText A) answer
IsAnswer (Make seeded) [] answer = answer ≡ OneMatrix (seeded_matrix seeded)
IsAnswer (Trial seeded) [] answer = AreLinesWith (IsTrialText (seeded_matrix seeded)) answer
IsAnswer command other answer = ⊥

-- The status of an answer.
abbrev pub status_of : Answer → Status
status_of (OneMatrix R) = Done
status_of (Lines lines) = Done
status_of (NoAnswer line) = No

-- The form can hold the answer. Only a matrix is written in a form.
abbrev pub can_hold_answer : Form → Answer → Type 0
can_hold_answer form (OneMatrix R) = can_hold form R
can_hold_answer form (Lines lines) = Unit {0}
can_hold_answer form (NoAnswer line) = Unit {0}

-- The text of an answer.
abbrev pub text_of_answer : Form → Answer → List ℕ
text_of_answer form (OneMatrix R) = text_as form R
text_of_answer form (Lines lines) = lines
text_of_answer form (NoAnswer line) = line

-- The operands are over one field, their shapes fit, the answer's shape is within the limits, and this is the answer.
pub record HasAnswer (command : Command) (matrices : List Matrix) (answer : Answer) : Type 0 where
  pub shared : ShareField matrices
  pub fits : Fits command matrices
  pub bounds : InBounds command matrices
  pub is : IsAnswer command matrices answer

-- The words ask for this job, and its operands are all accepted, as these matrices.
pub record Operands (words : List (List ℕ)) (stock : Stock) (asked : Job) (matrices : List Matrix) : Type 0 where
  pub understood : job words ≡ Ok asked
  pub accepted : Accepted stock (form_of_files asked.choices) asked.files matrices

-- The words ask for a job, of which this operand is the first that isn't accepted.
pub record RefusedOperand (words : List (List ℕ)) (stock : Stock) (operand : ℕ) (fault : Fault) : Type 0 where
  pub asked : Job
  pub understood : job words ≡ Ok asked
  pub refused : FirstRefused stock (form_of_files asked.choices) asked.files operand fault

-- The words ask for a job, of which the first operand that isn't accepted isn't there.
pub record MissingOperand (words : List (List ℕ)) (stock : Stock) : Type 0 where
  pub asked : Job
  pub understood : job words ≡ Ok asked
  pub missing : FirstMissing stock (form_of_files asked.choices) asked.files

-- The operands aren't over one field, or their shapes don't fit.
pub record IsMisfit (words : List (List ℕ)) (stock : Stock) : Type 0 where
  pub asked : Job
  pub matrices : List Matrix
  pub operands : Operands words stock asked matrices
  pub misfit : ShareField matrices → Fits asked.command matrices → ⊥

-- The fields and shapes fit, and that of the answer passes a limit.
pub record IsTooLarge (words : List (List ℕ)) (stock : Stock) : Type 0 where
  pub asked : Job
  pub matrices : List Matrix
  pub operands : Operands words stock asked matrices
  pub shared : ShareField matrices
  pub fits : Fits asked.command matrices
  pub large : InBounds asked.command matrices → ⊥

-- The answer is one matrix that the form of answers can't hold.
pub record IsUnheld (words : List (List ℕ)) (stock : Stock) : Type 0 where
  pub asked : Job
  pub matrices : List Matrix
  pub answer : Answer
  pub operands : Operands words stock asked matrices
  pub answers : HasAnswer asked.command matrices answer
  pub unheld : can_hold_answer (form_of_answer asked.choices) answer → ⊥

-- The answer has this status, the form of answers can hold it, and this is its text.
pub record IsWritten (words : List (List ℕ)) (stock : Stock) (status : Status) (written : List ℕ) : Type 0 where
  pub asked : Job
  pub matrices : List Matrix
  pub answer : Answer
  pub operands : Operands words stock asked matrices
  pub answers : HasAnswer asked.command matrices answer
  pub held : can_hold_answer (form_of_answer asked.choices) answer
  pub ends : status_of answer ≡ status
  pub text : written ≡ text_of_answer (form_of_answer asked.choices) answer

-- The fault tells this place: the text goes wrong there, or a number stands there that makes no field.
abbrev pub IsFaultAt : ℕ → Fault → Type 0
IsFaultAt place (BadAt at) = at ≡ place
IsFaultAt place (BadDegreeAt at) = at ≡ place
IsFaultAt place (ReducibleAt at) = at ≡ place
IsFaultAt place PastLimit = ⊥

-- The operand of this number is the first that isn't accepted, and is refused at this place.
abbrev pub RefusedAt : List (List ℕ) → Stock → ℕ → ℕ → Type 0
RefusedAt words stock operand place = (fault : Fault) × IsFaultAt place fault × RefusedOperand words stock operand fault

-- The status and the text that these words have over these files. A job that comes to a file that isn't there has
-- none, nor has a read or a write that fails, nor want of memory.
abbrev pub Outcome : List (List ℕ) → Stock → Status → List ℕ → Type 0
Outcome words stock Done written = IsWritten words stock Done written
Outcome words stock No written = IsWritten words stock No written
Outcome words stock (Words word) written = (job words ≡ Err word) × (written ≡ [])
Outcome words stock (Text operand place) written = RefusedAt words stock operand place × (written ≡ [])
Outcome words stock Shape written = (IsMisfit words stock ⊎ IsUnheld words stock) × (written ≡ [])
Outcome words stock Limit written =
    (((operand : ℕ) × RefusedOperand words stock operand PastLimit) ⊎ IsTooLarge words stock) × (written ≡ [])
Outcome words stock Read written = ⊥
Outcome words stock Write written = ⊥
Outcome words stock Memory written = ⊥

-- The exit code of a status.
abbrev pub code_of : Status → ℕ
code_of Done = 0
code_of No = 1
code_of (Words word) = 2
code_of (Text operand place) = 3
code_of Shape = 4
code_of Limit = 5
code_of Read = 6
code_of Write = 7
code_of Memory = 8

-- The line on standard error of a status, and nothing for Done and No.
abbrev pub fault_line : Status → List ℕ
fault_line Done = []
fault_line No = []
fault_line (Words word) = codes "m4lin: word " ++ (decimal word ++ codes " is not understood\n")
fault_line (Text operand place) =
    codes "m4lin: operand " ++ (decimal operand ++ (codes ": bad text at byte " ++ (decimal place ++ codes "\n")))
fault_line Shape = codes "m4lin: shapes do not fit\n"
fault_line Limit = codes "m4lin: limit passed\n"
fault_line Read = codes "m4lin: read failed\n"
fault_line Write = codes "m4lin: write failed\n"
fault_line Memory = codes "m4lin: out of memory\n"
