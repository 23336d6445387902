-- How a `&` to the words of a rectangle is made, row by row and word by word. Assumes `Logic`.
use Rattle.std.proofs.Common.{◌≡◌, ℕ, zero, suc, ◌+◌, ◌*◌, ◌<◌, List, [], ◌∷◌, length, arith, refl}
use native.Mathlib.Nat.{suc-mul}
use seplogic.Ra.Ura.{Ura}
use base.Fraction.{full_share}
use base.Fml.{Lft, ftrue}
use contract.BorrowLft.{⊑_static}
use ghost.Rules.{span}
use base.Logic.{ent}
use types.Logic.{Logic, sem}
use types.Kit.{‵, ◌$◌, ◌∵◌, !, qed, by, move, drop, fsplit, rewrite, done}
use mir.Syntax.{w64}
use denote.Builtin.{u64}
use denote.Copied.{uint_Copied}
use denote.Index.{row}
use denote.Memory.{part_at, shared_of}
use denote.Plain.{uint_row_laws}
use denote.Sharing.{ShrLaws}
use denote.SharingLaws.{beside_shr_laws, said_shr_laws}
use denote.Slice.{elements_shared, elements_shr_laws}
use denote.Struct.Lending.{Lends, Lends-nothing, Lends-both}
use Rattle.m4_area.specs.Rows.{row_of}
use Rattle.m4_area.specs.Strided.{strided_owns, strided_shares}

pub strided-laws : (b o step : ℕ) (rs : List (List ℕ)) → ShrLaws (strided_shares b o step rs)
strided-laws b o step [] = said_shr_laws ftrue tt
strided-laws b o step (r ∷ rs) =
    beside_shr_laws (elements_shared u64 r b o) (strided_shares b (o + step) step rs) (elements_shr_laws u64 (uint_row_laws w64) r b o) (strided-laws b (o + step) step rs)

module _ {M : Type 1} {𝓤 : Ura M} (𝓛 : Logic 𝓤) (l : Lft) where
  row-lends : (b o : ℕ) (xs : List ℕ) → Lends 𝓛 (row u64 full_share xs b o) (elements_shared u64 xs b o) l
  row-lends b o [] = Lends-nothing 𝓛 ftrue l
  row-lends b o (x ∷ xs) =
      Lends-both 𝓛 (part_at u64 full_share x b o) (row u64 full_share xs b (o + 8)) (shared_of u64 x b o) (elements_shared u64 xs b (o + 8)) l
      (λ κ ts inc sp. (uint_Copied 𝓛 w64).shares full_share [] x κ ts b o (⊑_static (span ts)) sp)
      (row-lends b (o + 8) xs)

  pub strided-lends : (b o step : ℕ) (rs : List (List ℕ)) → Lends 𝓛 (strided_owns b o step rs) (strided_shares b o step rs) l
  strided-lends b o step [] = Lends-nothing 𝓛 ftrue l
  strided-lends b o step (r ∷ rs) =
      Lends-both 𝓛 (row u64 full_share r b o) (strided_owns b (o + step) step rs) (elements_shared u64 r b o) (strided_shares b (o + step) step rs) l
      (row-lends b o r) (strided-lends b (o + step) step rs)

-- Of shared rows, row r alone.
module _ {M : Type 1} {𝓤 : Ura M} (𝓛 : Logic 𝓤) (b step : ℕ) (κ : Lft) where
  pub row_seen : (r : ℕ) (rs : List (List ℕ)) (o p : ℕ) → r < length rs → p ≡ o + r * step
      → ent 𝓤 (sem 𝓛 (strided_shares b o step rs κ)) (sem 𝓛 (elements_shared u64 (row_of rs r) b p κ))
  row_seen r [] o p l e = absurd (omega arith)
  row_seen zero (x ∷ rs) o p l e =
      let same : o ≡ p = omega arith in
      qed 𝓛 (‵ (strided_shares b o step (x ∷ rs) κ) ∷ []) ∵ fsplit ! $ move ! (1 ∷ []) $ drop ! $ rewrite ! 0 (λ k. ‵ (elements_shared u64 x b k κ)) same refl $ done !
  row_seen (suc r) (x ∷ rs) o p l e =
      qed 𝓛 (‵ (strided_shares b o step (x ∷ rs) κ) ∷ []) ∵ fsplit ! $ drop ! $
      by ! (row_seen r rs (o + step) p (omega arith) (omega (arith, suc-mul r step)))
