-- What the words tell that have been read, as the definitions see it.
use Rattle.std.specs.Prelude.{ℕ, ◌+◌, ◌≤◌, Bool, true, false, length, map, count_by, sum_by}
use Rattle.m4_outcome.specs.declared.command.Kind.{Kind}
use Rattle.m4_outcome.specs.declared.command.Kind.TheVariants.{FileName, Number, FieldName, Seed}
use Rattle.m4_outcome.specs.Words.{Understood}
use Rattle.m4_words.specs.Small.{AreSmall}
use Rattle.m4_words.specs.declared.told.Told.{Told}

-- What is told, by its values.
abbrev pub understood : Told → Understood
understood told = record {
  wanted = told.wanted.now;
  numbers = told.numbers.items;
  seed = told.seed;
  files = map (λ name. name.now) told.files.items;
  choices = told.choices;
}

-- The place is that of the name of a file.
abbrev pub is_file_name : Kind → Bool
is_file_name FileName = true
is_file_name Number = false
is_file_name FieldName = false
is_file_name Seed = false

-- How many numbers a place takes.
abbrev pub numbers_of : Kind → ℕ
numbers_of FileName = 0
numbers_of Number = 1
numbers_of FieldName = 2
numbers_of Seed = 0

-- There is room for what is still wanted, and the numbers that are chosen lie between 1 and 8.
pub record IsSound (told : Told) : Type 0 where
  pub room_for_files : length told.files.items + count_by is_file_name told.wanted.now ≤ 3
  pub room_for_numbers : length told.numbers.items + sum_by numbers_of told.wanted.now ≤ 4
  pub small : AreSmall told.choices
