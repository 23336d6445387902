-- The room that a product block by block is worked in.
use Rattle.std.specs.Prelude.{◌≡◌, ℕ, ◌%◌, ◌^◌, ◌≤◌}
use Rattle.m4_model.specs.Matrix.{Matrix}
use Rattle.m4_mzd.specs.declared.TheConstants.{MOST_SIDE}
use Rattle.m4_gray.specs.Slots.{Slots}
use Rattle.m4_mul.specs.declared.packed.Blocks.{Blocks}

-- How many rows and columns a block may have, and how many columns a panel.
pub record Room : Type 0 where
  pub rows : ℕ
  pub cols : ℕ
  pub panel : ℕ

-- Blocks and panels that are not empty, and no larger than a matrix.
pub record AreBlocks (blocks : Blocks) : Type 0 where
  pub some_rows : 1 ≤ blocks.rows
  pub few_rows : blocks.rows ≤ MOST_SIDE
  pub some_words : 1 ≤ blocks.words
  pub few_words : blocks.words ≤ 2 ^ 18
  pub some_panel : 1 ≤ blocks.panel
  pub few_panel : blocks.panel ≤ 2 ^ 18

-- The tables are as wide as a block, and a panel is as high as one. Both have whole words of columns.
pub record HasRoom (tables : Slots) (block panel : Matrix) : Type 0 where
  pub wide : tables.entries.cols ≡ block.cols
  pub high : panel.rows ≡ block.rows
  pub some_rows : 1 ≤ block.rows
  pub some_cols : 1 ≤ block.cols
  pub whole_block : block.cols % 64 ≡ 0
  pub some_panel : 1 ≤ panel.cols
  pub whole_panel : panel.cols % 64 ≡ 0
