-- Products by quarters, with seven products of quarters in place of eight: Winograd's form of Strassen's algorithm. Which
-- products are cut, what the recursion takes, and the sums and products of one level.
use Rattle.std.specs.Prelude.{ℕ, zero, suc, ◌+◌, ◌*◌, ◌/◌, Bool, nat_lt, nat_le, ◌&&◌, if◌then◌else◌}
use Rattle.m4_model.specs.Field.{Field}
use Rattle.m4_model.specs.Matrix.{Matrix, HasShape, added, product}
use Rattle.m4_model.specs.Shapes.{above, beside}

-- The product of an m x l and an l x n matrix is cut where no side is below twice the cutoff, which is 0 where none is to be cut.
abbrev pub is_cut : ℕ → ℕ → ℕ → ℕ → Bool
is_cut m l n cutoff = nat_lt 0 cutoff && (nat_le (2 * cutoff) m && (nat_le (2 * cutoff) l && nat_le (2 * cutoff) n))

-- Half of a side, rounded down to a multiple of 64.
abbrev pub half : ℕ → ℕ
half n = 64 * (n / 128)

-- What a product takes within so many levels: `base` where it isn't cut, else what a level takes. That hangs on the sides of
-- the quarters and on what a product of quarters takes.
unfoldable pub within_levels : ℕ → (ℕ → ℕ → ℕ → ℕ → ℕ) → ℕ → ℕ → ℕ → ℕ → ℕ → ℕ
within_levels zero level base m l n cutoff = base
within_levels (suc levels) level base m l n cutoff =
    if is_cut m l n cutoff then level (half m) (half l) (half n) (within_levels levels level base (half m) (half l) (half n) cutoff) else base

-- A side of m is halved fewer than m times.
abbrev pub by_halves : (ℕ → ℕ → ℕ → ℕ → ℕ) → ℕ → ℕ → ℕ → ℕ → ℕ → ℕ
by_halves level base m l n cutoff = within_levels m level base m l n cutoff

-- The words of the four windows of a level: one of the shape of a quarter of the first factor, one of the second, and two of
-- the product.
abbrev pub level_words : ℕ → ℕ → ℕ → ℕ
level_words m l n = (m * l + l * n + 2 * (m * n)) / 64

-- The words that a product takes beside its operands: at each level four windows, in which one product is worked at a time.
abbrev pub need : ℕ → ℕ → ℕ → ℕ → ℕ
need = by_halves (λ m l n rest. level_words m l n + rest) 0

-- The most products that are not cut: at each level seven of quarters, and three of the borders.
abbrev pub products : ℕ → ℕ → ℕ → ℕ → ℕ
products = by_halves (λ m l n each. 7 * each + 3) 1

-- A matrix in four quarters.
pub record Quartered : Type 0 where
  pub top_left : Matrix
  pub top_right : Matrix
  pub bottom_left : Matrix
  pub bottom_right : Matrix

-- Each quarter is an m x n matrix over F.
pub record HaveShape (F : Field) (m n : ℕ) (A : Quartered) : Type 0 where
  pub top_left : HasShape F m n A.top_left
  pub top_right : HasShape F m n A.top_right
  pub bottom_left : HasShape F m n A.bottom_left
  pub bottom_right : HasShape F m n A.bottom_right

-- The matrix of the four quarters.
abbrev pub joined : Quartered → Matrix
joined A = above (beside A.top_left A.top_right) (beside A.bottom_left A.bottom_right)

-- The sums of quarters of the first factor, and of the second.
abbrev pub s1 : Quartered → Matrix
s1 A = added A.bottom_left A.bottom_right

abbrev pub s2 : Quartered → Matrix
s2 A = added (s1 A) A.top_left

abbrev pub s3 : Quartered → Matrix
s3 A = added A.top_left A.bottom_left

abbrev pub s4 : Quartered → Matrix
s4 A = added A.top_right (s2 A)

abbrev pub t1 : Quartered → Matrix
t1 B = added B.top_right B.top_left

abbrev pub t2 : Quartered → Matrix
t2 B = added B.bottom_right (t1 B)

abbrev pub t3 : Quartered → Matrix
t3 B = added B.bottom_right B.top_right

abbrev pub t4 : Quartered → Matrix
t4 B = added (t2 B) B.bottom_left

-- Sums of products: the first with the sixth, and these two with the seventh, and with the fifth.
abbrev pub u2 : Quartered → Quartered → Matrix
u2 A B = added (product A.top_left B.top_left) (product (s2 A) (t2 B))

abbrev pub u3 : Quartered → Quartered → Matrix
u3 A B = added (u2 A B) (product (s3 A) (t3 B))

abbrev pub u4 : Quartered → Quartered → Matrix
u4 A B = added (u2 A B) (product (s1 A) (t1 B))

-- The quarters of the product, from seven products.
abbrev pub winograd : Quartered → Quartered → Quartered
winograd A B = record {
  top_left = added (product A.top_left B.top_left) (product A.top_right B.bottom_left);
  top_right = added (u4 A B) (product (s4 A) B.bottom_right);
  bottom_left = added (u3 A B) (product A.bottom_right (t4 B));
  bottom_right = added (u3 A B) (product (s1 A) (t1 B));
}
