-- From the factors that a matrix holds in its own place to those that are made of it.
use Rattle.std.proofs.Common.{◌≡◌, ℕ, List, length, sym, ap, ◌∙◌}
use Rattle.m4_model.specs.Matrix.{Matrix, HasShape}
use Rattle.m4_model.specs.Shapes.{swaps}
use Rattle.m4_model.specs.Factors.{IsPle, Stored, IsPluq, StoredPluq}
use Rattle.m4_mzed.specs.EWindow.{EWindow, content, showing}
use Rattle.m4_ple.specs.Held.{HoldsPle, HoldsPluq}

-- a window that held A was factored, and W is what it holds now
module _ (A W : Matrix) (old new : EWindow) (first : content old ≡ A) (kept : new ≡ showing old (content new)) (last : W ≡ content new) where
  over : W.field ≡ A.field
  over = ap (λ (M : Matrix). M.field) last ∙ ap (λ (w : EWindow). w.field) kept ∙ ap (λ (M : Matrix). M.field) first

  high : W.rows ≡ A.rows
  high = ap (λ (M : Matrix). M.rows) last ∙ ap (λ (w : EWindow). w.rows) kept ∙ ap (λ (M : Matrix). M.rows) first

  wide : W.cols ≡ A.cols
  wide = ap (λ (M : Matrix). M.cols) last ∙ ap (λ (w : EWindow). w.cols) kept ∙ ap (λ (M : Matrix). M.cols) first

  -- the shapes of the factors
  square : (L : Matrix) → HasShape A.field A.rows A.rows L → HasShape W.field W.rows W.rows L
  square L has = rw (high, over) has

  as_large : (E : Matrix) → HasShape A.field A.rows A.cols E → HasShape W.field W.rows W.cols E
  as_large E has = rw (high, wide, over) has

  -- the PLE: l and e are the only factors that W can hold
  pub ple_made : (height : ℕ) (exchanges q rows pivots : List ℕ) (l e : Matrix) → HoldsPle (content old) (swaps old.rows exchanges) q (content new)
      → rows ≡ swaps height exchanges → height ≡ W.rows → pivots ≡ q
      → ((L E : Matrix) → HasShape W.field W.rows W.rows L → HasShape W.field W.rows W.cols E → Stored W q L E → l ≡ L)
      → ((L E : Matrix) → HasShape W.field W.rows W.rows L → HasShape W.field W.rows W.cols E → Stored W q L E → e ≡ E) → IsPle A rows pivots (length pivots) l e
  ple_made height exchanges q rows pivots l e holds ordered tall pivoted lower echelon =
      let held : HoldsPle A (swaps A.rows exchanges) q W = rw (sym first, last) holds in
      let l_shape = square held.l held.factors.l_shape in
      let e_shape = as_large held.e held.factors.e_shape in
      let order : rows ≡ swaps A.rows exchanges = ordered ∙ ap (λ n. swaps n exchanges) (tall ∙ high) in
      rw (order, pivoted, lower held.l held.e l_shape e_shape held.stored, echelon held.l held.e l_shape e_shape held.stored) held.factors

  -- the PLUQ, likewise
  pub pluq_made : (height width : ℕ) (exchanges q rows columns : List ℕ) (r : ℕ) (l u : Matrix)
      → HoldsPluq (content old) (swaps old.rows exchanges) (swaps old.cols q) r (content new)
      → rows ≡ swaps height exchanges → height ≡ W.rows → columns ≡ swaps width q → width ≡ W.cols
      → ((L U : Matrix) → HasShape W.field W.rows W.rows L → HasShape W.field W.rows W.cols U → StoredPluq W r L U → l ≡ L)
      → ((L U : Matrix) → HasShape W.field W.rows W.rows L → HasShape W.field W.rows W.cols U → StoredPluq W r L U → u ≡ U) → IsPluq A rows columns r l u
  pluq_made height width exchanges q rows columns r l u holds ordered tall exchanged broad lower upper =
      let held : HoldsPluq A (swaps A.rows exchanges) (swaps A.cols q) r W = rw (sym first, last) holds in
      let l_shape = square held.l held.factors.l_shape in
      let u_shape = as_large held.u held.factors.u_shape in
      let order : rows ≡ swaps A.rows exchanges = ordered ∙ ap (λ n. swaps n exchanges) (tall ∙ high) in
      let columns_order : columns ≡ swaps A.cols q = exchanged ∙ ap (λ n. swaps n q) (broad ∙ wide) in
      rw (order, columns_order, lower held.l held.u l_shape u_shape held.stored, upper held.l held.u l_shape u_shape held.stored) held.factors
