-- What a file's bytes are taken for as they are read, and why a file isn't read as a matrix.
use Rattle.std.specs.Prelude.{◌≡◌, ℕ, List, Option, Some}
use Rattle.m4_model.specs.declared.form.Form.{Form}
use Rattle.m4_io.specs.Outside.{Rose}
use Rattle.m4_etext.specs.FormReading.{Fed, StandsForText, IsFaultIn}
use Rattle.m4_etext.specs.declared.fault.TextFault.TheVariants.{Bad, Field, Limit, NoMemory}
use Rattle.m4_cmd.specs.declared.files.FileFault.{FileFault}
use Rattle.m4_cmd.specs.declared.files.FileFault.TheVariants as file_faults
use Rattle.m4_cmd.specs.declared.operands.OperandFault.{OperandFault}
use Rattle.m4_cmd.specs.declared.operands.OperandFault.TheVariants as operand_faults

-- The reader was fed some bytes, which are all that was left of the file, where that is told.
pub record HasFed (rest : Option (List ℕ)) (reader : Fed) : Type 0 where
  pub bytes : List ℕ
  pub stands : StandsForText reader bytes
  pub all : (left : List ℕ) → rest ≡ Some left → left ≡ bytes

-- Why what was left of a started file isn't read as a matrix, where it is told. The counts of faults are those before and after.
abbrev pub FileFails : Option (List ℕ) → Form → ℕ → ℕ → FileFault → Type 0
FileFails rest form before now file_faults.Read = Rose before now
FileFails rest form before now (file_faults.Refused fault) = (now ≡ before) × ((left : List ℕ) → rest ≡ Some left → IsFaultIn form left fault)

-- The fault of the operand of this number.
abbrev pub operand_fault : ℕ → FileFault → OperandFault
operand_fault number file_faults.Read = operand_faults.Read
operand_fault number (file_faults.Refused (Bad at)) = operand_faults.Bad number at
operand_fault number (file_faults.Refused (Field at fault)) = operand_faults.Bad number at
operand_fault number (file_faults.Refused Limit) = operand_faults.Limit
operand_fault number (file_faults.Refused NoMemory) = operand_faults.NoMemory
