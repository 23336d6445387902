-- What the reading of a whole file gives, and why it fails.
use Rattle.std.specs.Prelude.{◌≡◌, ℕ, ◌<◌, ◌⊎◌, ◌↔◌, List, ◌++◌, length, Option, Some, None, codes}
use Rattle.m4_model.specs.Stock.{Stock, bytes_of}
use Rattle.m4_io.specs.Outside.{Rose, Lacks}
use Rattle.m4_io.specs.declared.whole.ReadFault.{ReadFault}
use Rattle.m4_io.specs.declared.whole.ReadFault.TheVariants.{Failed, NoMemory}

-- The words for a fault in reading a file.
abbrev pub read_fault_text : ReadFault → List ℕ
read_fault_text Failed = codes "read failed"
read_fault_text NoMemory = codes "out of memory"

-- The bytes are all, or they are more than the limit and the front of all.
abbrev pub IsWholeOrLong : ℕ → List ℕ → List ℕ → Type 0
IsWholeOrLong limit bytes all = (bytes ≡ all) ⊎ ((limit < length bytes) × ((after : List ℕ) × (all ≡ bytes ++ after)))

-- Where the files are told, the bytes are those of the first file of this name, or more than the limit of them.
abbrev pub IsFileOrLong : Option Stock → List ℕ → ℕ → List ℕ → Type 0
IsFileOrLong told name limit bytes = (files : Stock) → told ≡ Some files → (all : List ℕ) × (bytes_of files name ≡ Some all) × IsWholeOrLong limit bytes all

-- Where the files are told, the bytes pass the limit exactly where the first file of this name does.
abbrev pub PassesAsFile : Option Stock → List ℕ → ℕ → List ℕ → Type 0
PassesAsFile told name limit bytes = (files : Stock) (all : List ℕ) → told ≡ Some files → bytes_of files name ≡ Some all → (limit < length bytes) ↔ (limit < length all)

-- Where the bytes left are told, these are all of them, or more than the limit of them.
abbrev pub IsRestOrLong : Option (List ℕ) → ℕ → List ℕ → Type 0
IsRestOrLong None limit bytes = Unit {0}
IsRestOrLong (Some all) limit bytes = IsWholeOrLong limit bytes all

-- The cause of a fault in reading a started file.
abbrev pub IsRestCause : ℕ → ℕ → ReadFault → Type 0
IsRestCause before now Failed = Rose before now
IsRestCause before now NoMemory = now ≡ before

-- The cause of a fault in reading a file: the count of faults rose or the told files lack the name, or memory was
-- wanting and the count stays.
abbrev pub IsReadCause : Option Stock → List ℕ → ℕ → ℕ → ReadFault → Type 0
IsReadCause told name before now Failed = Rose before now ⊎ Lacks told name
IsReadCause told name before now NoMemory = now ≡ before
