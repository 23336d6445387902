-- A `Vec` of words is its words and the way back, and words one after another are rows. Assumes `Logic`.
use Rattle.std.proofs.Common.{◌≡◌, ℕ, zero, suc, ◌+◌, ◌*◌, ◌<◌, List, [], ◌∷◌, ◌⊎◌, inl, inr, Bool, true, false, not, length, arith, refl, sym, ap, ◌∙◌, Vec}
use Rattle.std.proofs.Math.ListN.{drop as drop_l, take as take_l}
use Rattle.std.proofs.lemmas.List.{with_items_is}
use Rattle.std.proofs.Math.Nat.{mul-zero}
use Rattle.std.proofs.lemmas.List.Elements.{All-head, All-tail}
use Rattle.std.specs.List.{All, concat}
use Rattle.std.specs.Vec.{with_items}
use lib.Dec.{T}
use seplogic.Ra.Ura.{Ura}
use mir.Val.{Val}
use base.Fraction.{full_share}
use base.Logic.{SProp, ent, sep, emp, guard, wand, id⊢, never_e, all_e, apply∗}
use base.Fml.{Fml, ftrue, fsep, feq, fall, fex, fwand}
use types.Logic.{Logic, sem}
use types.Kit.{‵, ◌⊛◌, ◌$◌, ◌∵◌, !, qed, by, move, keep, drop, frame, each, assume, show, check, use0, use1, use2, split, fsplit, fjoin, feq_l, feq_i, rewrite, done}
use denote.Array.{Array}
use denote.ArrayMemory.{Array-apart, Array-whole}
use denote.Builtin.{u64}
use denote.Index.{row}
use denote.Memory.{part_at}
use denote.Param.Laws.{Laws, of_field}
use denote.Param.Shared.{copy_shared}
use denote.RattleType.{RattleType}
use denote.RawPtr.{Ptr, block_ptr, null_ptr, block_of, count_of, in_block}
use denote.Struct.Field.{u64-field}
use denote.Struct.Laws.{u64-laws, u64-copy}
use Rattle.std.specs.Allocator.{block_with_items}
use Rattle.std.specs.contracts.alloc.Global as Global
use Rattle.std.specs.contracts.impls.GlobalAllocator.TheImpl.{ghosts}
use Rattle.std.proofs.alloc.Global.TheLaws as global_laws
use Rattle.std_alloc.specs.Vec.Ownership.{owns_if, has_block}
use Rattle.std_alloc.specs.contracts.vec.Vec as vec
use Rattle.std_alloc.proofs.vec.Vec.TheLaws as vec_laws
use Rattle.std_alloc.proofs.VecSteps.Opens.{not_live}
use Rattle.m4_area.specs.Strided.{strided_owns}
use Rattle.m4_area.specs.Storage.{Frame, IsWhole, rows_of}
use Rattle.m4_area.specs.contracts.storage.Storage as Storage
use Rattle.m4_area.proofs.Parts.{row_cut, row_glue, other_rows, row_out}
use Rattle.m4_area.specs.Rows.{row_of}
use Rattle.m4_area.proofs.RowLemmas.{length-concat}
use Rattle.m4_area.proofs.Walks.{plainly, one, one_made}

abbrev pub V : RattleType
V = vec.the_row u64 Global.the_row ghosts

abbrev pub V-laws : Laws V
V-laws = vec_laws.the_row_laws u64 Global.the_row ghosts (of_field u64-field u64-laws refl (copy_shared u64-field u64-copy)) global_laws.the_row_laws

module _ {M : Type 1} {𝓤 : Ura M} (𝓛 : Logic 𝓤) (b : ℕ) where
  abbrev ⟦◌⟧ : Fml → SProp 𝓤
  ⟦ P ⟧ = sem 𝓛 P

  abbrev cells : List ℕ → ℕ → Fml
  cells xs o = row u64 full_share xs b o

  -- no words need no memory
  pub no_cells : (xs : List ℕ) (o : ℕ) → length xs ≡ 0 → ent 𝓤 (emp 𝓤) ⟦ cells xs o ⟧
  no_cells [] o e = id⊢ 𝓤 (emp 𝓤)
  no_cells (x ∷ xs) o e = absurd (omega arith)

  -- words one after another, as rows
  pub in_rows : (n w : ℕ) (xs : List ℕ) (o : ℕ) → ent 𝓤 ⟦ cells xs o ⟧ ⟦ strided_owns b o (w * 8) (rows_of n w xs) ⟧
  unfolding rows_of
  in_rows zero w xs o = qed 𝓛 (‵ (cells xs o) ∷ []) ∵ use0 𝓛 (‵ ftrue) (id⊢ 𝓤 (emp 𝓤)) $ move ! (1 ∷ []) $ drop ! $ done !
  in_rows (suc n) w xs o =
      qed 𝓛 (‵ (cells xs o) ∷ []) ∵ use1 𝓛 (‵ (cells (take_l w xs) o) ⊛ ‵ (cells (drop_l w xs) (o + w * 8))) (row_cut 𝓛 b w xs o (o + w * 8) refl) $ split ! $ move ! (1 ∷ []) $
      use1 𝓛 (‵ (strided_owns b (o + w * 8) (w * 8) (rows_of n w (drop_l w xs)))) (in_rows n w (drop_l w xs) (o + w * 8)) $ move ! (1 ∷ 0 ∷ []) $ fjoin ! $ done !

  pub in_empty_rows : (n step : ℕ) (xs : List ℕ) (o : ℕ) → ent 𝓤 (emp 𝓤) ⟦ strided_owns b o step (rows_of n 0 xs) ⟧
  unfolding rows_of
  in_empty_rows zero step xs o = id⊢ 𝓤 (emp 𝓤)
  in_empty_rows (suc n) step xs o =
      qed 𝓛 [] ∵ use0 𝓛 (‵ (strided_owns b (o + step) step (rows_of n 0 xs))) (in_empty_rows n step xs (o + step)) $ use0 𝓛 (‵ ftrue) (id⊢ 𝓤 (emp 𝓤)) $ fjoin ! $ done !

  -- and back
  pub out_of_rows : (w : ℕ) (rs : List (List ℕ)) (o : ℕ) → All (λ r. length r ≡ w) rs → ent 𝓤 ⟦ strided_owns b o (w * 8) rs ⟧ ⟦ cells (concat rs) o ⟧
  out_of_rows w [] o all = id⊢ 𝓤 (emp 𝓤)
  out_of_rows w (r ∷ rs) o all =
      let wide : length r ≡ w = All-head (λ x. length x ≡ w) r rs all in
      let here : o + w * 8 ≡ o + length r * 8 = ap (λ k. o + k * 8) (sym wide) in
      qed 𝓛 (‵ (strided_owns b o (w * 8) (r ∷ rs)) ∷ []) ∵ fsplit ! $ move ! (1 ∷ []) $
      use1 𝓛 (‵ (cells (concat rs) (o + w * 8))) (out_of_rows w rs (o + w * 8) (All-tail (λ x. length x ≡ w) r rs all)) $ move ! (1 ∷ 0 ∷ []) $
      by ! (row_glue 𝓛 b r (concat rs) o (o + w * 8) here)

  pub rows_made : (n w stride : ℕ) (xs : List ℕ) (o : ℕ) → (stride ≡ w) ⊎ (w ≡ 0) → ent 𝓤 ⟦ cells xs o ⟧ ⟦ strided_owns b o (stride * 8) (rows_of n w xs) ⟧
  rows_made n w stride xs o (inl e) =
      qed 𝓛 (‵ (cells xs o) ∷ []) ∵ use1 𝓛 (‵ (strided_owns b o (w * 8) (rows_of n w xs))) (in_rows n w xs o) $
      rewrite ! 0 (λ s. ‵ (strided_owns b o (s * 8) (rows_of n w xs))) (sym e) refl $ done !
  rows_made n w stride xs o (inr e) =
      qed 𝓛 (‵ (cells xs o) ∷ []) ∵ drop ! $ use0 𝓛 (‵ (strided_owns b o (stride * 8) (rows_of n 0 xs))) (in_empty_rows n (stride * 8) xs o) $
      rewrite ! 0 (λ k. ‵ (strided_owns b o (stride * 8) (rows_of n k xs))) (sym e) refl $ done !

  pub rows_unmade : (w stride : ℕ) (rs : List (List ℕ)) (o : ℕ) → (stride ≡ w) ⊎ (w ≡ 0) → All (λ r. length r ≡ w) rs
      → ent 𝓤 ⟦ strided_owns b o (stride * 8) rs ⟧ ⟦ cells (concat rs) o ⟧
  rows_unmade w stride rs o (inl e) all =
      qed 𝓛 (‵ (strided_owns b o (stride * 8) rs) ∷ []) ∵ rewrite ! 0 (λ s. ‵ (strided_owns b o (s * 8) rs)) e refl $ by ! (out_of_rows w rs o all)
  rows_unmade w stride rs o (inr e) all =
      let none : length rs * w ≡ 0 = ap (λ k. length rs * k) e ∙ mul-zero (length rs) in
      qed 𝓛 (‵ (strided_owns b o (stride * 8) rs) ∷ []) ∵ drop ! $ by ! (no_cells (concat rs) o (length-concat w rs all ∙ none))

  -- the words of the first row of an area, as rows
  pub folded : (step n w stride : ℕ) (rs : List (List ℕ)) (o : ℕ) → 0 < length rs → (stride ≡ w) ⊎ (w ≡ 0)
      → ent 𝓤 ⟦ strided_owns b o step rs ⟧ ⟦ strided_owns b o (stride * 8) (rows_of n w (row_of rs 0)) ⟧
  folded step n w stride rs o some tight =
      let here : o ≡ o + 0 * step = omega arith in
      qed 𝓛 (‵ (strided_owns b o step rs) ∷ []) ∵
      use1 𝓛 (‵ (cells (row_of rs 0) o) ⊛ ‵ (other_rows b step 0 rs o)) (row_out 𝓛 b step 0 rs o o some here) $ split ! $ move ! (1 ∷ []) $ drop ! $
      by ! (rows_made n w stride (row_of rs 0) o tight)

  -- and the words of all its rows, as one
  pub unfolded : (step w stride : ℕ) (rs : List (List ℕ)) (o : ℕ) → (stride ≡ w) ⊎ (w ≡ 0) → All (λ r. length r ≡ w) rs
      → ent 𝓤 ⟦ strided_owns b o (stride * 8) rs ⟧ ⟦ strided_owns b o step (concat rs ∷ []) ⟧
  unfolded step w stride rs o tight all =
      qed 𝓛 (‵ (strided_owns b o (stride * 8) rs) ∷ []) ∵ use1 𝓛 (‵ (cells (concat rs) o)) (rows_unmade w stride rs o tight all) $
      use0 𝓛 (‵ ftrue) (id⊢ 𝓤 (emp 𝓤)) $ move ! (1 ∷ 0 ∷ []) $ fjoin ! $ done !

module _ {M : Type 1} {𝓤 : Ura M} (𝓛 : Logic 𝓤) (v : Vec ℕ (Global.the_row).Denot) where
  abbrev Blk : Ptr → List ℕ → Fml
  Blk p xs = block_with_items (ghosts.dealloc_token v.alloc) u64 p v.len v.cap xs

  module _ (b o : ℕ) where
    abbrev Given : List ℕ → Fml
    Given ys = fsep (feq ℕ (length ys) v.len) (row u64 full_share ys b o)

    abbrev Back : Bool → Fml
    Back y = fall (List ℕ) (λ ys. fwand (Given ys) (owns_if y (Blk (block_ptr b o) ys)))

    -- the words of a block, and the way back
    words_out : (y : Bool) → (T (not y) → length v.items ≡ 0)
        → ent 𝓤 (sem 𝓛 (owns_if y (Blk (block_ptr b o) v.items))) (sep 𝓤 (sem 𝓛 (row u64 full_share v.items b o)) (sem 𝓛 (Back y)))
    words_out true none =
        qed 𝓛 (‵ (Blk (block_ptr b o) v.items) ∷ []) ∵ fsplit ! $
        use1 𝓛 (‵ (fsep (feq ℕ (length v.items) v.len) (row u64 full_share v.items b o))) (Array-apart 𝓛 u64 full_share tt v.len v.items b o) $ fsplit ! $ drop ! $ frame ! $
        each ! (λ ys. wand 𝓤 (sem 𝓛 (Given ys)) (sem 𝓛 (Blk (block_ptr b o) ys))) (λ ys. assume ! (‵ (Given ys)) $
        use1 𝓛 (‵ (part_at (Array u64 v.len) full_share ys b o)) (Array-whole 𝓛 u64 full_share v.len ys b o) $ fjoin ! $ done !)
    words_out false none =
        qed 𝓛 (‵ ftrue ∷ []) ∵ use0 𝓛 (‵ (row u64 full_share v.items b o)) (no_cells 𝓛 b v.items o (none tt)) $ frame ! $
        each ! (λ ys. wand 𝓤 (sem 𝓛 (Given ys)) (sem 𝓛 ftrue)) (λ ys. assume ! (‵ (Given ys)) $ drop ! $ done !)

  -- a `Vec` is its words and what waits for them
  pub carve : (u : Val) (p : Ptr) (stride rows width : ℕ) → v.ptr ≡ p
      → let f : Frame = record { place = record { block = block_of p; base = count_of p; stride = stride }; skip = 0; rows = rows; width = width } in
      IsWhole f → v.len ≡ rows * width
      → ent 𝓤 (sem 𝓛 (V.own_val v (u ∷ []))) (guard 𝓤 (v.ptr ≡ block_ptr (block_of p) (count_of p)) (sep 𝓤 (sem 𝓛 (row u64 full_share v.items (block_of p) (count_of p))) (sem 𝓛 (Storage.the_own f (one u ∷ [])))))
  carve u null_ptr stride rows width at whole len =
      qed 𝓛 (‵ (V.own_val v (u ∷ [])) ∷ []) ∵ fsplit ! $ move ! (1 ∷ []) $ fsplit ! $ move ! (1 ∷ []) $
      rewrite ! 0 (λ p. ‵ (in_block p (owns_if (has_block v.cap) (Blk p v.items)))) at refl $ keep ! (0 ∷ []) $ by ! (never_e 𝓤 _)
  carve u (block_ptr b o) stride rows width at whole len =
      let y = has_block v.cap in
      let f : Frame = record { place = record { block = b; base = o; stride = stride }; skip = 0; rows = rows; width = width } in
      let Words = λ (ys : List ℕ). fsep (feq ℕ (length ys) (rows * width)) (row u64 full_share ys b o) in
      let Whole = λ (ys : List ℕ). (plainly (V ∷ [])).own_val (with_items v ys, tt) (one u ∷ []) in
      let Way = λ (w : Vec ℕ (Global.the_row).Denot). fsep (feq ℕ w.len (rows * width)) (fall (List ℕ) (λ ys. fwand (Words ys) ((plainly (V ∷ [])).own_val (with_items w ys, tt) (one u ∷ [])))) in
      qed 𝓛 (‵ (V.own_val v (u ∷ [])) ∷ []) ∵ check ! at $ fsplit ! $ move ! (1 ∷ []) $ fsplit ! $ move ! (1 ∷ []) $
      rewrite ! 0 (λ p. ‵ (in_block p (owns_if y (Blk p v.items)))) at refl $
      use1 𝓛 (‵ (row u64 full_share v.items b o) ⊛ ‵ (Back b o y)) (words_out b o y (λ t. let none : v.cap ≡ 0 = not_live v.cap t in omega (arith, v.ok.0, v.ok.1))) $ split ! $ frame ! $
      -- [the way back; the bound; the fields]
      show ! (λ i. sem 𝓛 (fex (IsWhole f) (λ _. Way i.vec))) (record { vec = v }) $ show ! (λ _. sem 𝓛 (Way v)) whole $
      feq_i ! ℕ v.len (rows * width) len $ frame ! $ each ! (λ ys. wand 𝓤 (sem 𝓛 (Words ys)) (sem 𝓛 (Whole ys))) (λ ys. assume ! (‵ (Words ys)) $ fsplit ! $ feq_l ! (λ long.
      let same : length ys ≡ v.len = long ∙ sym len in
      let zs = (with_items v ys).items in
      feq_i ! ℕ (length ys) v.len same $ fjoin ! $ move ! (1 ∷ []) $
      use1 𝓛 (‵ (fwand (Given b o ys) (owns_if y (Blk (block_ptr b o) ys)))) (all_e 𝓤 (λ xs. sem 𝓛 (fwand (Given b o xs) (owns_if y (Blk (block_ptr b o) xs)))) ys) $ move ! (1 ∷ 0 ∷ []) $
      use2 𝓛 (‵ (owns_if y (Blk (block_ptr b o) ys))) (apply∗ 𝓤 (sem 𝓛 (Given b o ys)) (sem 𝓛 (owns_if y (Blk (block_ptr b o) ys)))) $
      rewrite ! 0 (λ xs. ‵ (owns_if y (Blk (block_ptr b o) xs))) (sym (with_items_is v ys same)) refl $
      rewrite ! 0 (λ p. ‵ (in_block p (owns_if y (Blk p zs)))) (sym at) refl $
      move ! (1 ∷ 0 ∷ []) $ fjoin ! $ move ! (1 ∷ 0 ∷ []) $ fjoin ! $ one_made ! V (with_items v ys) u $ done !))
