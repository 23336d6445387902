-- What contracts see of the engine that multiplies strip by strip.
use Rattle.std.specs.Prelude.{◌≡◌, ℕ, ◌*◌, ◌%◌, ◌≤◌}
use Rattle.m4_model.specs.Field.{Field, IsCarried, width}
use Rattle.m4_model.specs.Matrix.{Matrix}
use Rattle.m4_mzd.specs.declared.add_mul.Shape.{Shape}

-- The field, how many multiples a strip has, how many columns its products may have, and the products over GF(2) that it takes.
pub record Strips : Type 0 where
  pub field : Field
  pub multiples : ℕ
  pub cols : ℕ
  pub bits : Shape

-- A strip fills whole words of columns of the first factor, one at least, and its products over GF(2) are taken.
pub record AreStrips (s : Strips) : Type 0 where
  pub carried : IsCarried s.field
  pub whole_words : s.multiples % 64 ≡ 0
  pub some : 64 ≤ s.multiples
  pub inner : s.multiples ≤ s.bits.l
  pub wide : s.cols * width s.field ≤ s.bits.n

-- The strips of an engine: the room for the multiples is a matrix over the field.
abbrev pub strips_of : Matrix → Shape → Strips
strips_of room bits = record { field = room.field; multiples = room.rows; cols = room.cols; bits = bits }
