-- What the steps of a run give: the operands, the command's answer, its writing, and the job; and why a step fails, by cases on
-- its faults.
use Rattle.std.specs.Prelude.{◌≡◌, ℕ, ◌⊎◌, List, Option, Some, Ok, Err}
use Rattle.std.specs.Io.KnownBytes.{Appends}
use Rattle.m4_model.specs.Matrix.{Matrix}
use Rattle.m4_model.specs.Headed.{Fault, PastLimit}
use Rattle.m4_model.specs.FormTexts.{ReadsAs, RefusalAs}
use Rattle.m4_outcome.specs.Words.{Job, job, form_of_files, form_of_answer}
use Rattle.m4_model.specs.Stock.{Stock, bytes_of}
use Rattle.m4_outcome.specs.Outcome.{Accepted, FirstRefused, FirstMissing, ShareField, Fits, InBounds, Answer, HasAnswer, IsFaultAt, status_of, can_hold_answer, text_of_answer}
use Rattle.m4_model.specs.declared.form.Form.{Form}
use Rattle.m4_outcome.specs.declared.command.Command.{Command}
use Rattle.m4_outcome.specs.declared.status.Status.{Status}
use Rattle.m4_outcome.specs.declared.status.Status.TheVariants.{Done, No, Words, Text, Shape, Limit, Read, Write, Memory}
use Rattle.m4_io.specs.Outside.{Rose, Lacks, AppendsFront}
use Rattle.m4_cmd.specs.Run.{Output, Change}
use Rattle.m4_cmd.specs.declared.operands.OperandFault.{OperandFault}
use Rattle.m4_cmd.specs.declared.operands.OperandFault.TheVariants as operand_faults
use Rattle.m4_cmd.specs.declared.answer.AnswerFault.{AnswerFault}
use Rattle.m4_cmd.specs.declared.answer.AnswerFault.TheVariants as answer_faults
use Rattle.m4_cmd.specs.declared.output.OutputFault.{OutputFault}
use Rattle.m4_cmd.specs.declared.output.OutputFault.TheVariants as output_faults

-- Where the files are told, the one of this name is there, and is read in this form as M.
abbrev pub IsReadAs : Option Stock → Form → List ℕ → Matrix → Type 0
IsReadAs told form name M = (files : Stock) → told ≡ Some files → (bytes : List ℕ) × (bytes_of files name ≡ Some bytes) × ReadsAs form bytes M

-- Where the files are told, the one of this name is there, and is refused in this form with this fault.
abbrev pub IsRefusedWith : Option Stock → Form → List ℕ → Fault → Type 0
IsRefusedWith told form name fault = (files : Stock) → told ≡ Some files → (bytes : List ℕ) × (bytes_of files name ≡ Some bytes) × RefusalAs form bytes fault

-- Where the files are told, the one of this name is there, and is refused in this form at this place.
abbrev pub IsRefusedAt : Option Stock → Form → List ℕ → ℕ → Type 0
IsRefusedAt told form name place = (fault : Fault) × IsFaultAt place fault × IsRefusedWith told form name fault

-- Why the operand of this number isn't accepted. The counts of faults are those before and after it.
abbrev pub OperandFails : Option Stock → Form → List ℕ → ℕ → ℕ → ℕ → OperandFault → Type 0
OperandFails told form name number before now operand_faults.Read = Rose before now ⊎ Lacks told name
OperandFails told form name number before now (operand_faults.Bad operand place) = (now ≡ before) × (operand ≡ number) × IsRefusedAt told form name place
OperandFails told form name number before now operand_faults.Limit = (now ≡ before) × IsRefusedWith told form name PastLimit
OperandFails told form name number before now operand_faults.NoMemory = now ≡ before

-- Where the files are told, those of these names are there, and are read in this form as these matrices.
abbrev pub AreReadAs : Option Stock → Form → List (List ℕ) → List Matrix → Type 0
AreReadAs told form names Ms = (files : Stock) → told ≡ Some files → Accepted files form names Ms

-- Where the files are told, this operand is the first that isn't accepted, with this fault.
abbrev pub IsFirstRefused : Option Stock → Form → List (List ℕ) → ℕ → Fault → Type 0
IsFirstRefused told form names operand fault = (files : Stock) → told ≡ Some files → FirstRefused files form names operand fault

-- Where the files are told, this operand is the first that isn't accepted, and is refused at this place.
abbrev pub IsFirstRefusedAt : Option Stock → Form → List (List ℕ) → ℕ → ℕ → Type 0
IsFirstRefusedAt told form names operand place = (fault : Fault) × IsFaultAt place fault × IsFirstRefused told form names operand fault

-- The files are told, and the first operand that isn't accepted isn't among them.
abbrev pub IsFirstMissing : Option Stock → Form → List (List ℕ) → Type 0
IsFirstMissing told form names = (files : Stock) × (told ≡ Some files) × FirstMissing files form names

-- Why not all of the operands are accepted.
abbrev pub OperandsFail : Option Stock → Form → List (List ℕ) → ℕ → ℕ → OperandFault → Type 0
OperandsFail told form names before now operand_faults.Read = Rose before now ⊎ IsFirstMissing told form names
OperandsFail told form names before now (operand_faults.Bad operand place) = (now ≡ before) × IsFirstRefusedAt told form names operand place
OperandsFail told form names before now operand_faults.Limit = (now ≡ before) × ((operand : ℕ) × IsFirstRefused told form names operand PastLimit)
OperandsFail told form names before now operand_faults.NoMemory = now ≡ before

-- The status of a run that ends so.
abbrev pub operand_status : OperandFault → Status
operand_status operand_faults.Read = Read
operand_status (operand_faults.Bad operand place) = Text operand place
operand_status operand_faults.Limit = Limit
operand_status operand_faults.NoMemory = Memory

-- The operands' fields and shapes fit, and the shape of the command's answer passes a limit.
pub record PassesBounds (command : Command) (Ms : List Matrix) : Type 0 where
  pub shared : ShareField Ms
  pub fits : Fits command Ms
  pub large : InBounds command Ms → ⊥

-- Why the command has no answer to these operands.
abbrev pub AnswerFails : Command → List Matrix → AnswerFault → Type 0
AnswerFails command Ms answer_faults.Shape = ShareField Ms → Fits command Ms → ⊥
AnswerFails command Ms answer_faults.Limit = PassesBounds command Ms
AnswerFails command Ms answer_faults.NoMemory = Unit {0}

-- The status of a run that ends so.
abbrev pub answer_status : AnswerFault → Status
answer_status answer_faults.Shape = Shape
answer_status answer_faults.Limit = Limit
answer_status answer_faults.NoMemory = Memory

-- No read failed.
abbrev pub NoReadFailed : Change → Type 0
NoReadFailed change = change.read_now ≡ change.read_before

-- Nothing was written.
pub record NothingWritten (out : Output) : Type 0 where
  pub taken : out.taken_now ≡ out.taken_before
  pub faults : out.now ≡ out.before

-- The form can hold the answer, and its text was taken.
pub record Wrote (form : Form) (answer : Answer) (out : Output) : Type 0 where
  pub held : can_hold_answer form answer
  pub faults : out.now ≡ out.before
  pub taken : Appends out.taken_before out.taken_now (text_of_answer form answer)

-- The form can hold the answer, a write failed, and a front of the text was taken, but not all of it.
pub record WroteInPart (form : Form) (answer : Answer) (out : Output) : Type 0 where
  pub held : can_hold_answer form answer
  pub faults : Rose out.before out.now
  pub taken : AppendsFront out.taken_before out.taken_now (text_of_answer form answer)

-- The form can't hold the answer, and nothing was written.
pub record WroteNothing (form : Form) (answer : Answer) (out : Output) : Type 0 where
  pub unheld : can_hold_answer form answer → ⊥
  pub nothing : NothingWritten out

-- Why the text of an answer isn't written whole.
abbrev pub OutputFails : Form → Answer → Output → OutputFault → Type 0
OutputFails form answer out output_faults.Shape = WroteNothing form answer out
OutputFails form answer out output_faults.Write = WroteInPart form answer out

-- The status of a run that ends so.
abbrev pub output_status : OutputFault → Status
output_status output_faults.Shape = Shape
output_status output_faults.Write = Write

-- The job's operands are accepted, and this is its answer.
pub record IsJobAnswer (told : Option Stock) (asked : Job) (answer : Answer) : Type 0 where
  pub matrices : List Matrix
  pub read : AreReadAs told (form_of_files asked.choices) asked.files matrices
  pub answers : HasAnswer asked.command matrices answer

-- The job has an answer of this status, whose text was taken.
pub record IsDone (told : Option Stock) (asked : Job) (change : Change) (status : Status) : Type 0 where
  pub kept : NoReadFailed change
  pub answer : Answer
  pub is : IsJobAnswer told asked answer
  pub ends : status_of answer ≡ status
  pub wrote : Wrote (form_of_answer asked.choices) answer change.out

-- The job has an answer, and a front of its text was taken.
pub record IsDoneInPart (told : Option Stock) (asked : Job) (change : Change) : Type 0 where
  pub kept : NoReadFailed change
  pub answer : Answer
  pub is : IsJobAnswer told asked answer
  pub wrote : WroteInPart (form_of_answer asked.choices) answer change.out

-- The job has an answer, which the form of answers can't hold.
pub record IsUnheldJob (told : Option Stock) (asked : Job) : Type 0 where
  pub answer : Answer
  pub is : IsJobAnswer told asked answer
  pub unheld : can_hold_answer (form_of_answer asked.choices) answer → ⊥

-- The job's operands are accepted, and their fields or shapes don't fit.
pub record IsMisfitJob (told : Option Stock) (asked : Job) : Type 0 where
  pub matrices : List Matrix
  pub read : AreReadAs told (form_of_files asked.choices) asked.files matrices
  pub misfit : ShareField matrices → Fits asked.command matrices → ⊥

-- The job's operands are accepted and fit, and the answer's shape passes a limit.
pub record IsTooLargeJob (told : Option Stock) (asked : Job) : Type 0 where
  pub matrices : List Matrix
  pub read : AreReadAs told (form_of_files asked.choices) asked.files matrices
  pub passes : PassesBounds asked.command matrices

-- An operand passes a limit, or the answer does.
abbrev pub PassesLimit : Option Stock → Job → Type 0
PassesLimit told asked = ((operand : ℕ) × IsFirstRefused told (form_of_files asked.choices) asked.files operand PastLimit) ⊎ IsTooLargeJob told asked

-- What a job ends with, and why.
abbrev pub JobGives : Option Stock → Job → Change → Status → Type 0
JobGives told asked change Done = IsDone told asked change Done
JobGives told asked change No = IsDone told asked change No
JobGives told asked change (Words word) = ⊥
JobGives told asked change (Text operand place) = NoReadFailed change × NothingWritten change.out × IsFirstRefusedAt told (form_of_files asked.choices) asked.files operand place
JobGives told asked change Shape = NoReadFailed change × NothingWritten change.out × (IsMisfitJob told asked ⊎ IsUnheldJob told asked)
JobGives told asked change Limit = NoReadFailed change × NothingWritten change.out × PassesLimit told asked
JobGives told asked change Read = NothingWritten change.out × (Rose change.read_before change.read_now ⊎ IsFirstMissing told (form_of_files asked.choices) asked.files)
JobGives told asked change Write = IsDoneInPart told asked change
JobGives told asked change Memory = NoReadFailed change × NothingWritten change.out

-- The words ask for a job, which ends so.
pub record AskedGives (told : Option Stock) (words : List (List ℕ)) (change : Change) (status : Status) : Type 0 where
  pub asked : Job
  pub understood : job words ≡ Ok asked
  pub gives : JobGives told asked change status

-- The word of this number is refused, and nothing is read or written.
pub record RefusesWord (words : List (List ℕ)) (change : Change) (word : ℕ) : Type 0 where
  pub refused : job words ≡ Err word
  pub kept : NoReadFailed change
  pub nothing : NothingWritten change.out

-- What the work that the words ask for ends with, and why.
abbrev pub WorkGives : Option Stock → List (List ℕ) → Change → Status → Type 0
WorkGives told words change status =
    AskedGives told words change status ⊎ ((word : ℕ) × (status ≡ Words word) × RefusesWord words change word)
