-- What `run` says of its answer: the causes of each status, and what was written.
use Rattle.std.specs.Prelude.{◌≡◌, ℕ, ◌⊎◌, ◌↔◌, List, Option, Some, Ok, Err}
use Rattle.std.specs.Io.KnownBytes.{Appends}
use Rattle.m4_outcome.specs.Words.{Job, job}
use Rattle.m4_model.specs.Stock.{Stock}
use Rattle.m4_outcome.specs.Outcome.{MissingOperand, Outcome, code_of, fault_line}
use Rattle.m4_outcome.specs.declared.status.Status.{Status}
use Rattle.m4_outcome.specs.declared.status.Status.TheVariants.{Done, No, Words, Text, Shape, Limit, Read, Write, Memory}
use Rattle.m4_io.specs.Outside.{Rose, AppendsFront}

-- What was taken of a stream before and after, and its counts of faults.
pub record Output : Type 0 where
  pub before : ℕ
  pub now : ℕ
  pub taken_before : Option (List ℕ)
  pub taken_now : Option (List ℕ)

-- The state of the outside before and after: the counts of faults of the files, and the output.
pub record Change : Type 0 where
  pub read_before : ℕ
  pub read_now : ℕ
  pub out : Output

-- The words are a job.
abbrev pub IsAsked : List (List ℕ) → Type 0
IsAsked words = (asked : Job) × (job words ≡ Ok asked)

-- An answer was written.
abbrev pub IsAnswered : Status → Type 0
IsAnswered Done = Unit {0}
IsAnswered No = Unit {0}
IsAnswered (Words word) = ⊥
IsAnswered (Text operand place) = ⊥
IsAnswered Shape = ⊥
IsAnswered Limit = ⊥
IsAnswered Read = ⊥
IsAnswered Write = ⊥
IsAnswered Memory = ⊥

-- No read failed, no write failed, and memory sufficed.
abbrev pub IsJudged : Status → Type 0
IsJudged Done = Unit {0}
IsJudged No = Unit {0}
IsJudged (Words word) = Unit {0}
IsJudged (Text operand place) = Unit {0}
IsJudged Shape = Unit {0}
IsJudged Limit = Unit {0}
IsJudged Read = ⊥
IsJudged Write = ⊥
IsJudged Memory = ⊥

-- No answer was begun.
abbrev pub IsRefused : Status → Type 0
IsRefused Done = ⊥
IsRefused No = ⊥
IsRefused (Words word) = Unit {0}
IsRefused (Text operand place) = Unit {0}
IsRefused Shape = Unit {0}
IsRefused Limit = Unit {0}
IsRefused Read = Unit {0}
IsRefused Write = ⊥
IsRefused Memory = Unit {0}

-- The told files lack an operand, and every operand before it is accepted.
abbrev pub LacksOperand : Option Stock → List (List ℕ) → Type 0
LacksOperand told words = (files : Stock) × (told ≡ Some files) × MissingOperand words files

-- The status is the one that the definition gives over these files, and the text that goes with it was taken, whole.
abbrev pub Answers : List (List ℕ) → Stock → Status → Option (List ℕ) → Option (List ℕ) → Type 0
Answers words files status old new = (written : List ℕ) × Outcome words files status written × Appends old new written

-- The definition gives an answer over these files, and a front of its text was taken, but not all of it.
abbrev pub AnswersInPart : List (List ℕ) → Stock → Option (List ℕ) → Option (List ℕ) → Type 0
AnswersInPart words files old new = (status : Status) × (written : List ℕ) × IsAnswered status × Outcome words files status written × AppendsFront old new written

-- The line of the status was taken, whole; or writing failed, and a front of the line was taken, but not all of it.
abbrev pub Reports : Option (List ℕ) → Option (List ℕ) → ℕ → ℕ → Status → Type 0
Reports old new before now status =
    (Appends old new (fault_line status) × (now ≡ before)) ⊎ (Rose before now × AppendsFront old new (fault_line status))

-- The exit code is that of a status which the words have over these files, with its line on standard error.
pub record Ends (words : List (List ℕ)) (told : Option Stock) (change : Change) (err : Output) (code : ℕ) : Type 0 where
  pub status : Status
  pub is : code ≡ code_of status
  pub refused : (word : ℕ) → (status ≡ Words word) ↔ (job words ≡ Err word)
  pub read : status ≡ Read → Rose change.read_before change.read_now ⊎ LacksOperand told words
  pub write : status ≡ Write → Rose change.out.before change.out.now
  pub outcome : (files : Stock) → IsJudged status → told ≡ Some files → Answers words files status change.out.taken_before change.out.taken_now
  pub line : Reports err.taken_before err.taken_now err.before err.now status
