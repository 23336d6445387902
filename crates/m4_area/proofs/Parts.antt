-- The words of a rectangle are those of its parts, above one another or side by side. Assumes `Logic`.
use Rattle.std.proofs.Common.{◌≡◌, ℕ, zero, suc, ◌+◌, ◌*◌, ◌<◌, List, [], ◌∷◌, ◌++◌, length, map, set, arith, refl}
use Rattle.std.proofs.Math.ListN.{drop as drop_l, take as take_l}
use native.Mathlib.Nat.{suc-mul}
use Rattle.std.specs.List.{All}
use Rattle.std.specs.Simd.Lanes.{zip2}
use Rattle.std.proofs.lemmas.List.Elements.{All-head, All-tail}
use seplogic.Ra.Ura.{Ura}
use base.Fraction.{full_share}
use base.Logic.{SProp, ent, sep, emp, id⊢}
use base.Fml.{Fml, ftrue, fsep}
use types.Logic.{Logic, sem}
use types.Kit.{‵, ◌⊛◌, ◌$◌, ◌∵◌, !, qed, move, drop as let_go, use0, use1, use2, split, fsplit, fjoin, rewrite, done}
use denote.Builtin.{u64}
use denote.Index.{row}
use Rattle.m4_area.specs.Rows.{row_of}
use Rattle.m4_area.specs.Strided.{strided_owns}

-- the rows but for row r
abbrev pub other_rows : ℕ → ℕ → ℕ → List (List ℕ) → ℕ → Fml
other_rows b step r [] o = ftrue
other_rows b step zero (x ∷ rs) o = strided_owns b (o + step) step rs
other_rows b step (suc r) (x ∷ rs) o = fsep (row u64 full_share x b o) (other_rows b step r rs (o + step))

module _ {M : Type 1} {𝓤 : Ura M} (𝓛 : Logic 𝓤) (b : ℕ) where
  abbrev ⟦◌⟧ : Fml → SProp 𝓤
  ⟦ P ⟧ = sem 𝓛 P

  abbrev cells : List ℕ → ℕ → Fml
  cells xs o = row u64 full_share xs b o

  -- the first n words of a row, and the others
  pub row_cut : (n : ℕ) (xs : List ℕ) (o p : ℕ) → p ≡ o + n * 8
      → ent 𝓤 ⟦ cells xs o ⟧ (sep 𝓤 ⟦ cells (take_l n xs) o ⟧ ⟦ cells (drop_l n xs) p ⟧)
  row_cut zero xs o p e =
      let same : o ≡ p = omega arith in
      qed 𝓛 (‵ (cells xs o) ∷ []) ∵ rewrite ! 0 (λ k. ‵ (cells xs k)) same refl $ use0 𝓛 (‵ ftrue) (id⊢ 𝓤 (emp 𝓤)) $ done !
  row_cut (suc n) [] o p e = qed 𝓛 (‵ ftrue ∷ []) ∵ use0 𝓛 (‵ ftrue) (id⊢ 𝓤 (emp 𝓤)) $ done !
  row_cut (suc n) (x ∷ xs) o p e =
      qed 𝓛 (‵ (cells (x ∷ xs) o) ∷ []) ∵ fsplit ! $ move ! (1 ∷ []) $
      use1 𝓛 (‵ (cells (take_l n xs) (o + 8)) ⊛ ‵ (cells (drop_l n xs) p)) (row_cut n xs (o + 8) p (omega (arith, suc-mul n 8))) $ split ! $
      move ! (2 ∷ 0 ∷ []) $ fjoin ! $ done !

  -- and together again
  pub row_glue : (xs ys : List ℕ) (o p : ℕ) → p ≡ o + length xs * 8
      → ent 𝓤 (sep 𝓤 ⟦ cells xs o ⟧ ⟦ cells ys p ⟧) ⟦ cells (xs ++ ys) o ⟧
  row_glue [] ys o p e =
      let same : p ≡ o = omega arith in
      qed 𝓛 (‵ ftrue ∷ ‵ (cells ys p) ∷ []) ∵ let_go ! $ rewrite ! 0 (λ k. ‵ (cells ys k)) same refl $ done !
  row_glue (x ∷ xs) ys o p e =
      qed 𝓛 (‵ (cells (x ∷ xs) o) ∷ ‵ (cells ys p) ∷ []) ∵ fsplit ! $ move ! (1 ∷ 2 ∷ []) $
      use2 𝓛 (‵ (cells (xs ++ ys) (o + 8))) (row_glue xs ys (o + 8) p (omega (arith, suc-mul (length xs) 8))) $
      move ! (1 ∷ 0 ∷ []) $ fjoin ! $ done !

  abbrev rows_at : ℕ → List (List ℕ) → ℕ → Fml
  rows_at step rs o = strided_owns b o step rs

  -- the first n rows, and the others
  pub above_below : (step n : ℕ) (rs : List (List ℕ)) (o p : ℕ) → p ≡ o + n * step
      → ent 𝓤 ⟦ rows_at step rs o ⟧ (sep 𝓤 ⟦ rows_at step (take_l n rs) o ⟧ ⟦ rows_at step (drop_l n rs) p ⟧)
  above_below step zero rs o p e =
      let same : o ≡ p = omega arith in
      qed 𝓛 (‵ (rows_at step rs o) ∷ []) ∵ rewrite ! 0 (λ k. ‵ (rows_at step rs k)) same refl $ use0 𝓛 (‵ ftrue) (id⊢ 𝓤 (emp 𝓤)) $ done !
  above_below step (suc n) [] o p e = qed 𝓛 (‵ ftrue ∷ []) ∵ use0 𝓛 (‵ ftrue) (id⊢ 𝓤 (emp 𝓤)) $ done !
  above_below step (suc n) (r ∷ rs) o p e =
      qed 𝓛 (‵ (rows_at step (r ∷ rs) o) ∷ []) ∵ fsplit ! $ move ! (1 ∷ []) $
      use1 𝓛 (‵ (rows_at step (take_l n rs) (o + step)) ⊛ ‵ (rows_at step (drop_l n rs) p)) (above_below step n rs (o + step) p (omega (arith, suc-mul n step))) $ split ! $
      move ! (2 ∷ 0 ∷ []) $ fjoin ! $ done !

  pub stacked : (step : ℕ) (rs ss : List (List ℕ)) (o p : ℕ) → p ≡ o + length rs * step
      → ent 𝓤 (sep 𝓤 ⟦ rows_at step rs o ⟧ ⟦ rows_at step ss p ⟧) ⟦ rows_at step (rs ++ ss) o ⟧
  stacked step [] ss o p e =
      let same : p ≡ o = omega arith in
      qed 𝓛 (‵ ftrue ∷ ‵ (rows_at step ss p) ∷ []) ∵ let_go ! $ rewrite ! 0 (λ k. ‵ (rows_at step ss k)) same refl $ done !
  stacked step (r ∷ rs) ss o p e =
      qed 𝓛 (‵ (rows_at step (r ∷ rs) o) ∷ ‵ (rows_at step ss p) ∷ []) ∵ fsplit ! $ move ! (1 ∷ 2 ∷ []) $
      use2 𝓛 (‵ (rows_at step (rs ++ ss) (o + step))) (stacked step rs ss (o + step) p (omega (arith, suc-mul (length rs) step))) $
      move ! (1 ∷ 0 ∷ []) $ fjoin ! $ done !

  -- the first n words of each row, and the others
  pub left_right : (step n : ℕ) (rs : List (List ℕ)) (o p : ℕ) → p ≡ o + n * 8
      → ent 𝓤 ⟦ rows_at step rs o ⟧ (sep 𝓤 ⟦ rows_at step (map (take_l n) rs) o ⟧ ⟦ rows_at step (map (drop_l n) rs) p ⟧)
  left_right step n [] o p e = qed 𝓛 (‵ ftrue ∷ []) ∵ use0 𝓛 (‵ ftrue) (id⊢ 𝓤 (emp 𝓤)) $ done !
  left_right step n (r ∷ rs) o p e =
      qed 𝓛 (‵ (rows_at step (r ∷ rs) o) ∷ []) ∵ fsplit ! $
      use1 𝓛 (‵ (cells (take_l n r) o) ⊛ ‵ (cells (drop_l n r) p)) (row_cut n r o p e) $ split ! $ move ! (2 ∷ []) $
      use1 𝓛 (‵ (rows_at step (map (take_l n) rs) (o + step)) ⊛ ‵ (rows_at step (map (drop_l n) rs) (p + step))) (left_right step n rs (o + step) (p + step) (omega arith)) $ split ! $
      move ! (2 ∷ 0 ∷ []) $ fjoin ! $ move ! (2 ∷ 1 ∷ []) $ fjoin ! $ move ! (1 ∷ 0 ∷ []) $ done !

  pub side_by_side : (step n : ℕ) (rs ss : List (List ℕ)) (o p : ℕ) → p ≡ o + n * 8 → length rs ≡ length ss → All (λ r. length r ≡ n) rs
      → ent 𝓤 (sep 𝓤 ⟦ rows_at step rs o ⟧ ⟦ rows_at step ss p ⟧) ⟦ rows_at step (zip2 (λ r s. r ++ s) rs ss) o ⟧
  side_by_side step n [] ss o p e l w = qed 𝓛 (‵ ftrue ∷ ‵ (rows_at step ss p) ∷ []) ∵ move ! (1 ∷ []) $ let_go ! $ done !
  side_by_side step n (r ∷ rs) [] o p e l w = absurd (omega arith)
  side_by_side step n (r ∷ rs) (s ∷ ss) o p e l w =
      let wide : length r ≡ n = All-head (λ x. length x ≡ n) r rs w in
      qed 𝓛 (‵ (rows_at step (r ∷ rs) o) ∷ ‵ (rows_at step (s ∷ ss) p) ∷ []) ∵ fsplit ! $ move ! (2 ∷ []) $ fsplit ! $ move ! (2 ∷ 0 ∷ []) $
      use2 𝓛 (‵ (cells (r ++ s) o)) (row_glue r s o p (omega arith)) $ move ! (2 ∷ 1 ∷ []) $
      use2 𝓛 (‵ (rows_at step (zip2 (λ r' s'. r' ++ s') rs ss) (o + step))) (side_by_side step n rs ss (o + step) (p + step) (omega arith) (omega arith) (All-tail (λ x. length x ≡ n) r rs w)) $
      move ! (1 ∷ 0 ∷ []) $ fjoin ! $ done !

  -- row r is taken out
  pub row_out : (step r : ℕ) (rs : List (List ℕ)) (o p : ℕ) → r < length rs → p ≡ o + r * step
      → ent 𝓤 ⟦ rows_at step rs o ⟧ (sep 𝓤 ⟦ cells (row_of rs r) p ⟧ ⟦ other_rows b step r rs o ⟧)
  row_out step r [] o p l e = absurd (omega arith)
  row_out step zero (x ∷ rs) o p l e =
      let same : o ≡ p = omega arith in
      qed 𝓛 (‵ (rows_at step (x ∷ rs) o) ∷ []) ∵ fsplit ! $ rewrite ! 0 (λ k. ‵ (cells x k)) same refl $ done !
  row_out step (suc r) (x ∷ rs) o p l e =
      qed 𝓛 (‵ (rows_at step (x ∷ rs) o) ∷ []) ∵ fsplit ! $ move ! (1 ∷ []) $
      use1 𝓛 (‵ (cells (row_of rs r) p) ⊛ ‵ (other_rows b step r rs (o + step))) (row_out step r rs (o + step) p (omega arith) (omega (arith, suc-mul r step))) $ split ! $
      move ! (2 ∷ 1 ∷ []) $ fjoin ! $ move ! (1 ∷ 0 ∷ []) $ done !

  -- and another put in its place
  pub row_in : (step r : ℕ) (rs : List (List ℕ)) (new : List ℕ) (o p : ℕ) → r < length rs → p ≡ o + r * step
      → ent 𝓤 (sep 𝓤 ⟦ cells new p ⟧ ⟦ other_rows b step r rs o ⟧) ⟦ rows_at step (set rs r new) o ⟧
  row_in step r [] new o p l e = absurd (omega arith)
  row_in step zero (x ∷ rs) new o p l e =
      let same : p ≡ o = omega arith in
      qed 𝓛 (‵ (cells new p) ∷ ‵ (rows_at step rs (o + step)) ∷ []) ∵ rewrite ! 0 (λ k. ‵ (cells new k)) same refl $ fjoin ! $ done !
  row_in step (suc r) (x ∷ rs) new o p l e =
      qed 𝓛 (‵ (cells new p) ∷ ‵ (other_rows b step (suc r) (x ∷ rs) o) ∷ []) ∵ move ! (1 ∷ []) $ fsplit ! $ move ! (2 ∷ 1 ∷ []) $
      use2 𝓛 (‵ (rows_at step (set rs r new) (o + step))) (row_in step r rs new (o + step) p (omega arith) (omega (arith, suc-mul r step))) $
      move ! (1 ∷ 0 ∷ []) $ fjoin ! $ done !
