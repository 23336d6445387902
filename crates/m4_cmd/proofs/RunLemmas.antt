-- Each clause of `run`, from what the work gives: by cases on the status.
use Rattle.std.proofs.Common.{◌≡◌, ℕ, ◌<◌, ◌⊎◌, List, [], length, Option, Some, None, Ok, Err, refl, sym, ◌∙◌, ap, subst, arith, inl, inr, append-nil, length-append}
use Rattle.std.specs.Io.KnownBytes.{Appends, Keeps}
use Rattle.m4_outcome.specs.Words.{Job, job, form_of_answer}
use Rattle.m4_model.specs.Stock.{Stock}
use Rattle.m4_outcome.specs.Outcome.{Answer, Operands, IsWritten, Outcome, status_of, can_hold_answer, text_of_answer, fault_line}
use Rattle.m4_outcome.specs.declared.status.Status.{Status}
use Rattle.m4_outcome.specs.declared.status.Status.TheVariants.{Done, No, Words, Text, Shape, Limit, Read, Write, Memory}
use Rattle.m4_io.specs.Outside.{Rose, AppendsFront}
use Rattle.m4_cmd.specs.Run.{Change, IsAsked, IsAnswered, IsJudged, IsRefused, LacksOperand, Answers, AnswersInPart, Reports}
use Rattle.m4_cmd.specs.Steps.{NoReadFailed, NothingWritten, IsJobAnswer, IsDone, JobGives, WorkGives}

-- known bytes that stay grow by nothing
appends_nothing : (old new : Option (List ℕ)) → new ≡ old → Appends old new []
appends_nothing None new same = tt
appends_nothing (Some xs) None same = absurd cc
appends_nothing (Some xs) (Some ys) same = let e : ys ≡ xs = cc in e ∙ sym (append-nil xs)

-- bytes that stay are kept
pub keeps : (old new : Option (List ℕ)) → new ≡ old → Keeps old new
keeps None new same = tt
keeps (Some xs) None same = absurd cc
keeps (Some xs) (Some ys) same = cc

-- a count that grew doesn't stand still
grew_not_same : {before now : ℕ} {A : Type 0} → now ≡ before → before < now → A
grew_not_same same grew = absurd (omega arith)

-- what a job ends with
module _ (told : Option Stock) (asked : Job) (change : Change) where
  job_read : (status : Status) → JobGives told asked change status → change.read_before < change.read_now → status ≡ Read
  job_read Done gives grew = grew_not_same gives.kept grew
  job_read No gives grew = grew_not_same gives.kept grew
  job_read (Words word) gives grew = absurd gives
  job_read (Text operand place) gives grew = grew_not_same gives.0 grew
  job_read Shape gives grew = grew_not_same gives.0 grew
  job_read Limit gives grew = grew_not_same gives.0 grew
  job_read Read gives grew = refl
  job_read Write gives grew = grew_not_same gives.kept grew
  job_read Memory gives grew = grew_not_same gives.0 grew

  job_write : (status : Status) → JobGives told asked change status → change.out.before < change.out.now → status ≡ Write
  job_write Done gives grew = grew_not_same gives.wrote.faults grew
  job_write No gives grew = grew_not_same gives.wrote.faults grew
  job_write (Words word) gives grew = absurd gives
  job_write (Text operand place) gives grew = grew_not_same gives.1.faults grew
  job_write Shape gives grew = grew_not_same gives.1.faults grew
  job_write Limit gives grew = grew_not_same gives.1.faults grew
  job_write Read gives grew = grew_not_same gives.0.faults grew
  job_write Write gives grew = refl
  job_write Memory gives grew = grew_not_same gives.1.faults grew

  job_nothing : (status : Status) → JobGives told asked change status → IsRefused status → NothingWritten change.out
  job_nothing Done gives refused = absurd refused
  job_nothing No gives refused = absurd refused
  job_nothing (Words word) gives refused = absurd gives
  job_nothing (Text operand place) gives refused = gives.1
  job_nothing Shape gives refused = gives.1
  job_nothing Limit gives refused = gives.1
  job_nothing Read gives refused = gives.0
  job_nothing Write gives refused = absurd refused
  job_nothing Memory gives refused = gives.1

  -- over the told files, with words that ask for it
  module _ (words : List (List ℕ)) (files : Stock) (understood : job words ≡ Ok asked) (tells : told ≡ Some files) where
    -- the operands of a job that has an answer are accepted
    accepted : (answer : Answer) (is : IsJobAnswer told asked answer) → Operands words files asked is.matrices
    accepted answer is = record { understood = understood; accepted = is.read files tells }

    -- an answer that its form can hold is the outcome
    written : (answer : Answer) → IsJobAnswer told asked answer → can_hold_answer (form_of_answer asked.choices) answer
        → IsWritten words files (status_of answer) (text_of_answer (form_of_answer asked.choices) answer)
    written answer is held = record {
      asked = asked;
      matrices = is.matrices;
      answer = answer;
      operands = accepted answer is;
      answers = is.answers;
      held = held;
      ends = refl;
      text = refl;
    }

    -- so it is with the status of the answer
    written_done : (status : Status) (done : IsDone told asked change status) → IsWritten words files status (text_of_answer (form_of_answer asked.choices) done.answer)
    written_done status done =
        let P : Status → Type 0 = λ s. IsWritten words files s (text_of_answer (form_of_answer asked.choices) done.answer) in
        subst P done.ends (written done.answer done.is done.wrote.held)

    -- an answer's status is that of its outcome
    answered : (answer : Answer) (text : List ℕ) → IsWritten words files (status_of answer) text → IsAnswered (status_of answer) × Outcome words files (status_of answer) text
    answered (Answer.OneMatrix R) text is = (tt, is)
    answered (Answer.Lines lines) text is = (tt, is)
    answered (Answer.NoAnswer line) text is = (tt, is)

    job_front : JobGives told asked change Write → AnswersInPart words files change.out.taken_before change.out.taken_now
    job_front part =
        let text = text_of_answer (form_of_answer asked.choices) part.answer in
        let outcome = answered part.answer text (written part.answer part.is part.wrote.held) in
        (status_of part.answer, text, outcome.0, outcome.1, part.wrote.taken)

    job_outcome : (status : Status) → JobGives told asked change status → IsJudged status → Answers words files status change.out.taken_before change.out.taken_now
    job_outcome Done done judged = (text_of_answer (form_of_answer asked.choices) done.answer, written_done Done done, done.wrote.taken)
    job_outcome No done judged = (text_of_answer (form_of_answer asked.choices) done.answer, written_done No done, done.wrote.taken)
    job_outcome (Words word) gives judged = absurd gives
    job_outcome (Text operand place) gives judged =
        ([], ((gives.2.0, gives.2.1, record { asked = asked; understood = understood; refused = gives.2.2 files tells }), refl), appends_nothing _ _ gives.1.taken)
    job_outcome Shape gives judged = (
      [],
      (
        elim gives.2 [
          | inl misfit ↦ inl (record { asked = asked; matrices = misfit.matrices; operands = record { understood = understood; accepted = misfit.read files tells }; misfit = misfit.misfit })
          | inr unheld ↦ inr (record {
            asked = asked;
            matrices = unheld.is.matrices;
            answer = unheld.answer;
            operands = accepted unheld.answer unheld.is;
            answers = unheld.is.answers;
            unheld = unheld.unheld;
          })
        ],
        refl,
      ),
      appends_nothing _ _ gives.1.taken,
    )
    job_outcome Limit gives judged = (
      [],
      (
        elim gives.2 [
          | inl operand ↦ inl (operand.0, record { asked = asked; understood = understood; refused = operand.1 files tells })
          | inr large ↦ inr (record {
            asked = asked;
            matrices = large.matrices;
            operands = record { understood = understood; accepted = large.read files tells };
            shared = large.passes.shared;
            fits = large.passes.fits;
            large = large.passes.large;
          })
        ],
        refl,
      ),
      appends_nothing _ _ gives.1.taken,
    )
    job_outcome Read gives judged = absurd judged
    job_outcome Write gives judged = absurd judged
    job_outcome Memory gives judged = absurd judged

-- what the work ends with
module _ (told : Option Stock) (words : List (List ℕ)) (change : Change) (status : Status) where
  pub words_only : (word : ℕ) → WorkGives told words change status → status ≡ Words word → job words ≡ Err word
  words_only word (inl asked) is = let P : Status → Type 0 = JobGives told asked.asked change in absurd (subst P is asked.gives)
  words_only word (inr refused) is = let number : refused.0 ≡ word = cc in refused.2.refused ∙ ap (λ (n : ℕ). Err n) number

  pub words_always : (word : ℕ) → WorkGives told words change status → job words ≡ Err word → status ≡ Words word
  words_always word (inl asked) is = let e = asked.understood in absurd cc
  words_always word (inr refused) is = let other = refused.2.refused in let number : refused.0 ≡ word = cc in refused.1 ∙ ap Words number

  pub read_always : WorkGives told words change status → change.read_before < change.read_now → status ≡ Read
  read_always (inl asked) grew = job_read told asked.asked change status asked.gives grew
  read_always (inr refused) grew = grew_not_same refused.2.kept grew

  pub read_only : WorkGives told words change status → status ≡ Read → Rose change.read_before change.read_now ⊎ LacksOperand told words
  read_only (inl asked) is =
      let P : Status → Type 0 = JobGives told asked.asked change in
      let read : JobGives told asked.asked change Read = subst P is asked.gives in
      elim read.1 [
        | inl rose ↦ inl rose
        | inr missing ↦ inr (missing.0, missing.1, record { asked = asked.asked; understood = asked.understood; missing = missing.2 })
      ]
  read_only (inr refused) is = let other = refused.1 in absurd cc

  pub write_always : WorkGives told words change status → change.out.before < change.out.now → status ≡ Write
  write_always (inl asked) grew = job_write told asked.asked change status asked.gives grew
  write_always (inr refused) grew = grew_not_same refused.2.nothing.faults grew

  pub write_only : WorkGives told words change status → status ≡ Write → Rose change.out.before change.out.now
  write_only (inl asked) is = let P : Status → Type 0 = JobGives told asked.asked change in (subst P is asked.gives).wrote.faults
  write_only (inr refused) is = let other = refused.1 in absurd cc

  pub write_front : (files : Stock) → WorkGives told words change status → status ≡ Write → told ≡ Some files
      → AnswersInPart words files change.out.taken_before change.out.taken_now
  write_front files (inl asked) is tells =
      let P : Status → Type 0 = JobGives told asked.asked change in
      job_front told asked.asked change words files asked.understood tells (subst P is asked.gives)
  write_front files (inr refused) is tells = let other = refused.1 in absurd cc

  pub nothing : WorkGives told words change status → IsRefused status → NothingWritten change.out
  nothing (inl asked) is = job_nothing told asked.asked change status asked.gives is
  nothing (inr refused) is = refused.2.nothing

  pub memory_only : WorkGives told words change status → status ≡ Memory → IsAsked words × NoReadFailed change × NothingWritten change.out
  memory_only (inl asked) is =
      let P : Status → Type 0 = JobGives told asked.asked change in
      let memory : JobGives told asked.asked change Memory = subst P is asked.gives in
      ((asked.asked, asked.understood), memory.0, memory.1)
  memory_only (inr refused) is = let other = refused.1 in absurd cc

  pub outcome : (files : Stock) → WorkGives told words change status → IsJudged status → told ≡ Some files
      → Answers words files status change.out.taken_before change.out.taken_now
  outcome files (inl asked) judged tells = job_outcome told asked.asked change words files asked.understood tells status asked.gives judged
  outcome files (inr (word, is, refuses)) judged tells =
      let P : Status → Type 0 = λ s. Answers words files s change.out.taken_before change.out.taken_now in
      subst P (sym is) ([], (refuses.refused, refl), appends_nothing _ _ refuses.nothing.taken)

-- no front of an empty line is a part of it
no_part : (old new : Option (List ℕ)) {A : Type 0} → AppendsFront old new [] → A
no_part old new part =
    let none = ap length part.1.2 in absurd (omega (arith, none, part.1.1, length-append part.0 part.1.0))

-- bytes that grow by nothing are kept
keeps_nothing : (old new : Option (List ℕ)) → Appends old new [] → Keeps old new
keeps_nothing None new appends = tt
keeps_nothing (Some xs) None appends = absurd appends
keeps_nothing (Some xs) (Some ys) appends = appends ∙ append-nil xs

-- an answer has no line
no_line : (status : Status) → IsAnswered status → fault_line status ≡ []
no_line Done answered = refl
no_line No answered = refl
no_line (Words word) answered = absurd answered
no_line (Text operand place) answered = absurd answered
no_line Shape answered = absurd answered
no_line Limit answered = absurd answered
no_line Read answered = absurd answered
no_line Write answered = absurd answered
no_line Memory answered = absurd answered

quiet : (old new : Option (List ℕ)) (before now : ℕ) (status : Status) → Reports old new before now status → IsAnswered status → Appends old new [] × (now ≡ before)
quiet old new before now status reports answered =
    let P : List ℕ → Type 0 = λ line. Appends old new line in
    let Q : List ℕ → Type 0 = λ line. AppendsFront old new line in
    elim reports [
      | inl whole ↦ (subst P (no_line status answered) whole.0, whole.1)
      | inr part ↦ no_part old new (subst Q (no_line status answered) part.1)
    ]

pub quiet_line : (old new : Option (List ℕ)) (before now : ℕ) (status : Status) → Reports old new before now status → IsAnswered status → Keeps old new
quiet_line old new before now status reports answered = keeps_nothing old new (quiet old new before now status reports answered).0

pub quiet_count : (old new : Option (List ℕ)) (before now : ℕ) (status : Status) → Reports old new before now status → IsAnswered status → now ≡ before
quiet_count old new before now status reports answered = (quiet old new before now status reports answered).1
