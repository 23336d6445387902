-- What the walks of `row` and `row_mut` share: what both ask, and the slice that their code makes. Assumes `Logic`.
use Rattle.std.proofs.Common.{◌≡◌, ℕ, ◌+◌, ◌*◌, ◌^◌, ◌<◌, List, [], ◌∷◌, ◌++◌, length, refl, ap, ◌∙◌, arith}
use seplogic.Ra.Ura.{Ura}
use base.Logic.{SProp, ent}
use mir.Syntax.{Fn, Mutability, Ty, named, erased, local, value_local, ty_int, ty_ptr, ty_ref, w64, unsigned, mul, offset, op2, seq, block, assign, place, aggregate, rv_opd, int, copy, return}
use mir.Val.{Val, vint, vptr}
use prog.Wp.{Calls, Loops, WpFn}
use contract.Monad.{fact}
use types.Logic.{Logic}
use types.Kit.{Goal, Item, Seq, Step, step, ⋆, ‵, raw, ◌⊛◌, prop, upd, at_ret, ◌$◌, ◌∵◌, !, qed, by, drop, split, fsplit, feq_l, flt_l, regoal, suffices, done}
use types.Part.{agg}
use types.Run.{enter, returns, and_then, no_more, of_opd, bin, lit, first, blocks, exec}
use types.ByLocal.{alloc_all, pass_all, free_all, look_at, get, sets, sets_last, env}
use denote.Builtin.{usize, RawPtr}
use denote.Memory.{pointee}
use denote.RattleType.{RattleType, Denots, Valss, owns}
use denote.RawPtr.{Ptr, block_ptr, count_of, ptr_val}
use denote.Slice.{slice_ty, slice_val}
use denote.Steps.{heard}
use Rattle.m4_area.specs.Rows.{row_of}
use Rattle.m4_area.specs.Strided.{IsRowAt}
use Rattle.m4_area.proofs.Walks.{A}

-- What both ask of the area, and what follows for the machine's numbers.
pub record Asked (s : A.Denot) (base : Ptr) (start r n : ℕ) : Type 0 where
  pub within : r < length s.rows
  pub here : base ≡ block_ptr s.block (count_of base)
  pub there : start * 8 + count_of base ≡ s.first + r * s.step
  pub wide : length (row_of s.rows r) ≡ n
  pub byte_fits : start * 8 < 2 ^ 64
  pub bytes_fit : length (row_of s.rows r) * 8 < 2 ^ 63
  pub count_fits : length (row_of s.rows r) < 2 ^ 64

what_is_asked : (s : A.Denot) (base : Ptr) (start r n : ℕ) → r < length s.rows → IsRowAt s.block s.first s.step base start r → length (row_of s.rows r) ≡ n → start + n < 2 ^ 60
    → Asked s base start r n
what_is_asked s base start r n within at wide small = record {
  within = within;
  here = at.within;
  there = omega (arith, at.byte);
  wide = wide;
  byte_fits = omega arith;
  bytes_fit = omega arith;
  count_fits = omega arith;
}

-- The code of both, up to what a reference lets its owner do: the pointer goes on by `start` words, and the slice is
-- made of it and the number of words.
abbrev slice_of : Mutability → Ty
slice_of may = slice_ty (ty_ref (named 0) may (ty_int w64))

abbrev slice_code : Mutability → Fn
slice_code may = record {
  lifetimes = 1;
  outlives = [];
  ty_params = [];
  givens = 0;
  params = 5;
  locals = local (slice_of may) value_local ∷ local (ty_ref (named 0) may (pointee A.written)) value_local ∷ local ty_ptr value_local ∷ local (ty_int w64) value_local ∷ local (ty_int w64) value_local ∷ local (ty_int w64) value_local
      ∷ local (slice_ty (ty_ref erased may (ty_int w64))) value_local ∷ local (ty_int w64) value_local ∷ local ty_ptr value_local ∷ [];
  body = seq (block (seq (assign (place 7 []) (op2 (mul unsigned) (copy (place 3 [])) (int w64 8))) (seq (assign (place 8 []) (op2 offset (copy (place 2 [])) (copy (place 7 []))))
      (assign (place 6 []) (aggregate (copy (place 8 []) ∷ copy (place 5 []) ∷ [])))))) (seq (assign (place 0 []) (rv_opd (copy (place 6 [])))) return);
}

-- the pointer, where the row begins, its number and its width
abbrev Rest : List RattleType
Rest = RawPtr ∷ usize ∷ usize ∷ usize ∷ []

module _ {M : Type 1} {𝓤 : Ura M} (𝓛 : Logic 𝓤) where
  open 𝓛 use {H}

  code_makes : (may : Mutability) (C : Calls 𝓤 H) (Λ : Loops 𝓤 H) (self : ℕ × ℕ) (b o start r n : ℕ) (Kf : Val → SProp 𝓤) (P : SProp 𝓤)
      → start < 2 ^ 64 → r < 2 ^ 64 → n < 2 ^ 64 → start * 8 < 2 ^ 64 → ent 𝓤 P (Kf (slice_val (b, start * 8 + o) n))
      → ent 𝓤 P (WpFn 𝓤 H C Λ (slice_code may) (vptr self.0 self.1 ∷ vptr b o ∷ vint w64 start ∷ vint w64 r ∷ vint w64 n ∷ []) Kf)
  code_makes may C Λ self b o start r n Kf P fits₂ fits₃ fits byte_fits h =
      qed 𝓛 (raw P ∷ []) ∵
      enter ! C Λ (slice_code may) (vptr self.0 self.1 ∷ vptr b o ∷ vint w64 start ∷ vint w64 r ∷ vint w64 n ∷ []) Kf $
      alloc_all ! (λ l. pass_all ! refl ((tt, tt), ((tt, tt), ((tt, record { fits = fits₂ }), ((tt, record { fits = fits₃ }), ((tt, record { fits = fits }), tt))))) $
      first ! $ blocks ! $
      sets ! (bin ! (get ! refl) (lit ! tt) (record { fits = byte_fits })) refl (tt, record { fits = byte_fits }) $
      sets ! (bin ! (get ! refl) (get ! refl) tt) refl (tt, tt) $
      sets_last ! (agg ! (and_then ! (get ! refl) (and_then ! (get ! refl) (no_more !)))) refl (tt, (tt, (record { fits = fits }, tt))) $
      exec ! C Λ (env (slice_code may).locals l) (seq (assign (place 0 []) (rv_opd (copy (place 6 [])))) return) (at_ret (env (slice_code may).locals l) Kf) $
      sets ! (of_opd ! (get ! refl)) refl (tt, (tt, (record { fits = fits }, tt))) $
      returns ! (look_at ! 0 refl) $ free_all ! refl $ suffices ! P h $ done !)

module _ {M : Type 1} {𝓤 : Ura M} {𝓛 : Logic 𝓤} {K : Type 0} {Γ : List (Item 𝓤)} where
  open 𝓛 use {H}

  -- what is asked is heard
  pub asks : {G : Goal 𝓤 H} → K → (s : A.Denot) (base : Ptr) (start r n : ℕ) → (Asked s base start r n → Seq K 𝓛 Γ G)
      → Seq K 𝓛 ((raw (fact 𝓤 (r < length s.rows)) ⊛ (raw (fact 𝓤 (IsRowAt s.block s.first s.step base start r)) ⊛ (raw (fact 𝓤 (length (row_of s.rows r) ≡ n)) ⊛ raw (fact 𝓤 (start + n < 2 ^ 60))))) ∷ Γ) G
  asks t s base start r n k =
      split t $ heard t (r < length s.rows) (λ within. split t $ heard t (IsRowAt s.block s.first s.step base start r) (λ at. split t $ heard t (length (row_of s.rows r) ≡ n) (λ wide. heard t (start + n < 2 ^ 60) (λ small.
      k (what_is_asked s base start r n within at wide small)))))

  -- the machine values of the arguments are those of their types, and the code makes the slice
  pub makes_slice : K → (may : Mutability) (C : Calls 𝓤 H) (Λ : Loops 𝓤 H) (self : ℕ × ℕ) (vs : List Val) (a : Denots Rest) (vss : Valss Rest) (b o : ℕ) (Kf : Val → SProp 𝓤)
      → vs ≡ vptr self.0 self.1 ∷ [] → a.0 ≡ block_ptr b o → a.1.0 * 8 < 2 ^ 64
      → Step K 𝓛 Γ (prop (Kf (slice_val (b, a.1.0 * 8 + o) a.1.1.1.0))) (‵ (owns Rest a vss) ∷ Γ) (prop (WpFn 𝓤 H C Λ (slice_code may) (vs ++ (vss.0 ++ (vss.1.0 ++ (vss.1.1.0 ++ (vss.1.1.1.0 ++ []))))) Kf))
  makes_slice t may C Λ self vs a vss b o Kf is₀ here byte_fits = step (λ s.
      fsplit t $ feq_l t (λ is₁. fsplit t $ fsplit t $ feq_l t (λ is₂. flt_l t (λ fits₂. fsplit t $ fsplit t $ feq_l t (λ is₃. flt_l t (λ fits₃. fsplit t $ fsplit t $ feq_l t (λ is₄. flt_l t (λ fits. drop t $
      let Runs : List Val → List Val → List Val → List Val → List Val → Goal 𝓤 H = λ us ws xs ys zs. prop (WpFn 𝓤 H C Λ (slice_code may) (us ++ (ws ++ (xs ++ (ys ++ (zs ++ []))))) Kf) in
      let at_self = vptr self.0 self.1 ∷ [] in
      regoal t (λ us. Runs us vss.0 vss.1.0 vss.1.1.0 vss.1.1.1.0) is₀ refl $
      regoal t (λ us. Runs at_self us vss.1.0 vss.1.1.0 vss.1.1.1.0) (is₁ ∙ ap (λ p. ptr_val p ∷ []) here) refl $
      regoal t (λ us. Runs at_self (vptr b o ∷ []) us vss.1.1.0 vss.1.1.1.0) is₂ refl $
      regoal t (λ us. Runs at_self (vptr b o ∷ []) (vint w64 a.1.0 ∷ []) us vss.1.1.1.0) is₃ refl $
      regoal t (λ us. Runs at_self (vptr b o ∷ []) (vint w64 a.1.0 ∷ []) (vint w64 a.1.1.0 ∷ []) us) is₄ refl $
      by t (code_makes 𝓛 may C Λ self b o a.1.0 a.1.1.0 a.1.1.1.0 Kf (⋆ 𝓛 Γ) fits₂ fits₃ fits byte_fits s.prf)))))))))

  -- a goal under an update, once the updates are made
  pub updated : K → {P : SProp 𝓤} → Step K 𝓛 Γ (prop (H.⇛ P)) Γ (upd P)
  updated t = step (λ s. record { prf = s.prf })
