-- From each step of a run to the next: what a started file gives of an operand, this of the operands, and these of the job.
use Rattle.std.proofs.Common.{◌≡◌, ℕ, ◌+◌, ◌<◌, List, [], ◌∷◌, ◌++◌, length, map, get_or, take, drop, Option, Some, refl, sym, ◌∙◌, subst, arith, inl, inr, ap}
use Rattle.std.proofs.lemmas.List.{drop_more, take_more, take-append-drop, length-take-le, length-map, get_or-map}
use Rattle.m4_model.specs.Matrix.{Matrix}
use Rattle.m4_model.specs.Headed.{Fault, BadAt, BadDegreeAt, ReducibleAt, PastLimit}
use Rattle.m4_model.specs.FormTexts.{ReadsAs, RefusalAs}
use Rattle.m4_outcome.specs.Words.{Job, form_of_files, form_of_answer}
use Rattle.m4_model.specs.Stock.{Stock, bytes_of}
use Rattle.m4_outcome.specs.Outcome.{Accepted, Answer, status_of}
use Rattle.m4_model.specs.declared.form.Form.{Form}
use Rattle.m4_field.specs.declared.field.FieldFault.TheVariants.{BadDegree, Reducible}
use Rattle.m4_io.specs.Outside.{Rose, Starts}
use Rattle.m4_etext.specs.declared.fault.TextFault.TheVariants.{Bad, Field, Limit, NoMemory}
use Rattle.m4_cmd.specs.Files.{FileFails, operand_fault}
use Rattle.m4_cmd.specs.Run.{Change}
use Rattle.m4_cmd.specs.declared.files.FileFault.{FileFault}
use Rattle.m4_cmd.specs.declared.files.FileFault.TheVariants as file_faults
use Rattle.m4_cmd.specs.Steps.{IsReadAs, IsRefusedWith, OperandFails, AreReadAs, OperandsFail, operand_status, AnswerFails, answer_status, NoReadFailed, NothingWritten, Wrote, OutputFails, output_status, IsJobAnswer, JobGives}
use Rattle.m4_cmd.specs.declared.operands.OperandFault.{OperandFault}
use Rattle.m4_cmd.specs.declared.operands.OperandFault.TheVariants as operand_faults
use Rattle.m4_cmd.specs.declared.answer.AnswerFault.{AnswerFault}
use Rattle.m4_cmd.specs.declared.answer.AnswerFault.TheVariants as answer_faults
use Rattle.m4_cmd.specs.declared.output.OutputFault.{OutputFault}
use Rattle.m4_cmd.specs.declared.output.OutputFault.TheVariants as output_faults

-- what a started file is read as
pub read_as_file : (told : Option Stock) (form : Form) (name : List ℕ) (rest : Option (List ℕ)) (M : Matrix) → Starts told name rest
    → ((bytes : List ℕ) → rest ≡ Some bytes → ReadsAs form bytes M) → IsReadAs told form name M
read_as_file told form name rest M starts reads = λ files tells. let file = starts files tells in (file.0, file.1, reads file.0 file.2)

-- what a started file is refused with
refused_as_file : (told : Option Stock) (form : Form) (name : List ℕ) (rest : Option (List ℕ)) (fault : Fault) → Starts told name rest
    → ((bytes : List ℕ) → rest ≡ Some bytes → RefusalAs form bytes fault) → IsRefusedWith told form name fault
refused_as_file told form name rest fault starts refused = λ files tells. let file = starts files tells in (file.0, file.1, refused file.0 file.2)

-- why a started file isn't read is why its operand isn't accepted
pub fails_as_file : (told : Option Stock) (form : Form) (name : List ℕ) (number : ℕ) (rest : Option (List ℕ)) (before mid now : ℕ) (fault : FileFault)
    → Starts told name rest → mid ≡ before → FileFails rest form mid now fault → OperandFails told form name number before now (operand_fault number fault)
fails_as_file told form name number rest before mid now file_faults.Read starts same rose = inl (subst (λ n. Rose n now) same rose)
fails_as_file told form name number rest before mid now (file_faults.Refused (Bad at)) starts same fails =
    (fails.0 ∙ same, refl, (BadAt at, refl, refused_as_file told form name rest (BadAt at) starts fails.1))
fails_as_file told form name number rest before mid now (file_faults.Refused (Field at BadDegree)) starts same fails =
    (fails.0 ∙ same, refl, (BadDegreeAt at, refl, refused_as_file told form name rest (BadDegreeAt at) starts fails.1))
fails_as_file told form name number rest before mid now (file_faults.Refused (Field at Reducible)) starts same fails =
    (fails.0 ∙ same, refl, (ReducibleAt at, refl, refused_as_file told form name rest (ReducibleAt at) starts fails.1))
fails_as_file told form name number rest before mid now (file_faults.Refused Limit) starts same fails =
    (fails.0 ∙ same, refused_as_file told form name rest PastLimit starts fails.1)
fails_as_file told form name number rest before mid now (file_faults.Refused NoMemory) starts same fails = fails.0 ∙ same

-- one more file that is accepted, behind those that are
accepted_more : (files : Stock) (form : Form) (names : List (List ℕ)) (Ms : List Matrix) (name : List ℕ) (M : Matrix) → Accepted files form names Ms
    → ((bytes : List ℕ) × (bytes_of files name ≡ Some bytes) × ReadsAs form bytes M) → Accepted files form (names ++ name ∷ []) (Ms ++ M ∷ [])
accepted_more files form [] [] name M accepted (bytes, found, reads) = (bytes, found, reads, tt)
accepted_more files form [] (N ∷ Ns) name M accepted last = absurd accepted
accepted_more files form (n ∷ ns) [] name M accepted last = absurd accepted
accepted_more files form (n ∷ ns) (N ∷ Ns) name M (bytes, found, reads, others) last = (bytes, found, reads, accepted_more files form ns Ns name M others last)

-- the operand behind those that are accepted fails, and so do the operands
operand_fails : (told : Option Stock) (form : Form) (names : List (List ℕ)) (name : List ℕ) (after : List (List ℕ)) (Ms : List Matrix) (number before mid now : ℕ) (fault : OperandFault)
    → AreReadAs told form names Ms → length names + 1 ≡ number → mid ≡ before → OperandFails told form name number mid now fault
    → OperandsFail told form (names ++ name ∷ after) before now fault
operand_fails told form names name after Ms number before mid now operand_faults.Read read place same fails = elim fails [
  | inl rose ↦ inl (let P : ℕ → Type 0 = λ n. Rose n now in subst P same rose)
  | inr lacks ↦ inr (lacks.0, lacks.1, record { before = names; name = name; after = after; matrices = Ms; place = refl; accepted = read lacks.0 lacks.1; missing = lacks.2 })
]
operand_fails told form names name after Ms number before mid now (operand_faults.Bad operand at) read place same fails = (
  fails.0 ∙ same,
  (
    fails.2.0,
    fails.2.1,
    λ files tells.
        let found = fails.2.2 files tells in
        record { before = names; name = name; after = after; matrices = Ms; bytes = found.0; place = refl; number = fails.1 ∙ sym place; accepted = read files tells; found = found.1; refused = found.2 },
  ),
)
operand_fails told form names name after Ms number before mid now operand_faults.Limit read place same fails = (
  fails.0 ∙ same,
  (
    number,
    λ files tells.
        let found = fails.1 files tells in
        record { before = names; name = name; after = after; matrices = Ms; bytes = found.0; place = refl; number = sym place; accepted = read files tells; found = found.1; refused = found.2 },
  ),
)
operand_fails told form names name after Ms number before mid now operand_faults.NoMemory read place same fails = fails ∙ same

-- the files named up to this index are accepted, and this is the next
module _ {X : Type 0} (name_of : X → List ℕ) (files_named : List X) (i : ℕ) (last : X) (told here : Option Stock) (form : Form) (Ms : List Matrix) (same_stock : here ≡ told)
    (within : i < length files_named) (read : AreReadAs told form (take i (map name_of files_named)) Ms) where
  abbrev names : List (List ℕ)
  names = map name_of files_named

  abbrev name : List ℕ
  name = name_of (get_or files_named i last)

  inside : i < length names
  inside = rw (length-map files_named name_of) within

  there : get_or names i [] ≡ name
  there = get_or-map name_of files_named i last [] within

  split : take i names ++ name ∷ drop (i + 1) names ≡ names
  split = ap (λ l. take i names ++ l) (sym (drop_more names i [] inside ∙ ap (λ n. n ∷ drop (i + 1) names) there)) ∙ take-append-drop i names

  one_more : take (i + 1) names ≡ take i names ++ name ∷ []
  one_more = take_more names i [] inside ∙ ap (λ n. take i names ++ n ∷ []) there

  pub read_next : (M : Matrix) (all : List Matrix) → all ≡ Ms ++ M ∷ [] → IsReadAs here form name M → AreReadAs told form (take (i + 1) names) all
  read_next M all pushed reads = λ files tells.
      subst (λ Ns. Accepted files form (take (i + 1) names) Ns) (sym pushed)
      (subst (λ ns. Accepted files form ns (Ms ++ M ∷ [])) (sym one_more) (accepted_more files form (take i names) Ms name M (read files tells) (reads files (same_stock ∙ tells))))

  pub fails_next : (before mid now : ℕ) (fault : OperandFault) → mid ≡ before → OperandFails here form name (i + 1) mid now fault → OperandsFail told form names before now fault
  fails_next before mid now fault same fails =
      let P : Option Stock → Type 0 = λ stock. OperandFails stock form name (i + 1) mid now fault in
      subst (λ ns. OperandsFail told form ns before now fault) split
      (operand_fails told form (take i names) name (drop (i + 1) names) Ms (i + 1) before mid now fault read (ap (λ n. n + 1) (length-take-le i names (omega (arith, inside)))) same
      (subst P same_stock fails))

-- how a job ends, whatever stands outside
module _ (told : Option Stock) (asked : Job) (change : Change) where
  -- its operands fail
  pub ends_by_operands : (fault : OperandFault) → NothingWritten change.out → OperandsFail told (form_of_files asked.choices) asked.files change.read_before change.read_now fault
      → JobGives told asked change (operand_status fault)
  ends_by_operands operand_faults.Read nothing fails = (nothing, fails)
  ends_by_operands (operand_faults.Bad operand at) nothing fails = (fails.0, nothing, fails.1)
  ends_by_operands operand_faults.Limit nothing fails = (fails.0, nothing, inl fails.1)
  ends_by_operands operand_faults.NoMemory nothing fails = (fails, nothing)

  -- its operands have no answer
  pub ends_by_answer : (Ms : List Matrix) (fault : AnswerFault) → NoReadFailed change → NothingWritten change.out → AreReadAs told (form_of_files asked.choices) asked.files Ms
      → AnswerFails asked.command Ms fault → JobGives told asked change (answer_status fault)
  ends_by_answer Ms answer_faults.Shape kept nothing read fails = (kept, nothing, inl (record { matrices = Ms; read = read; misfit = fails }))
  ends_by_answer Ms answer_faults.Limit kept nothing read fails = (kept, nothing, inr (record { matrices = Ms; read = read; passes = fails }))
  ends_by_answer Ms answer_faults.NoMemory kept nothing read fails = (kept, nothing)

  -- its answer isn't written whole
  pub ends_by_output : (answer : Answer) (fault : OutputFault) → NoReadFailed change → IsJobAnswer told asked answer → OutputFails (form_of_answer asked.choices) answer change.out fault
      → JobGives told asked change (output_status fault)
  ends_by_output answer output_faults.Shape kept is fails = (kept, fails.nothing, inr (record { answer = answer; is = is; unheld = fails.unheld }))
  ends_by_output answer output_faults.Write kept is fails = record { kept = kept; answer = answer; is = is; wrote = fails }

  -- its answer is written
  pub ends_done : (answer : Answer) → NoReadFailed change → IsJobAnswer told asked answer → Wrote (form_of_answer asked.choices) answer change.out → JobGives told asked change (status_of answer)
  ends_done (Answer.OneMatrix R) kept is wrote = record { kept = kept; answer = Answer.OneMatrix R; is = is; ends = refl; wrote = wrote }
  ends_done (Answer.Lines lines) kept is wrote = record { kept = kept; answer = Answer.Lines lines; is = is; ends = refl; wrote = wrote }
  ends_done (Answer.NoAnswer line) kept is wrote = record { kept = kept; answer = Answer.NoAnswer line; is = is; ends = refl; wrote = wrote }
