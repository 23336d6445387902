-- `row_mut` lends one row's words, and the area follows them. Assumes `Logic`.
use Rattle.std.proofs.Common.{◌≡◌, ℕ, ◌+◌, ◌*◌, ◌^◌, ◌<◌, List, [], ◌∷◌, length, set, refl, sym}
use Rattle.std.proofs.mem.Facts.{says_two}
use Rattle.std.proofs.raw_atomic.Walks.{proved_at}
use Rattle.std.proofs.alloc.Calls.{Goes-blank}
use seplogic.Ra.Ura.{Ura}
use base.Fraction.{full_share}
use base.Logic.{ent, sep, id⊢}
use base.Fml.{GName, Fml, ftrue, fsep, flft}
use mir.Syntax.{mut, named}
use mir.Val.{Val}
use contract.Monad.{fact}
use contract.Running.{tables}
use types.Logic.{Logic, sem}
use types.Kit.{updating, ‵, raw, ◌⊛◌, some, later, ◌$◌, ◌∵◌, !, qed, move, drop, use1, use2, split, join, fsplit, fsplit3, fjoin, fpack, feq_l, pick, await, group, rewrite, suffices, frame, done}
use types.SemTy.{cells}
use denote.Array.{Array}
use denote.Builtin.{u64, usize, RawPtr}
use denote.Exit.{yes, no}
use denote.Follow.{follows}
use denote.FollowSlice.{Elements, lends_Elements}
use denote.Index.{row, whole_in, whole_out}
use denote.Memory.{cell_at, mem, part_of}
use denote.RattleType.{owns}
use denote.RawPtr.{count_of}
use denote.Signature.{plain, types_at, mut_ref_to}
use denote.Slice.{MutSlice, slice_val}
use denote.Steps.{nothing, opens}
use denote.Triple.Walked.{Stays, walk_of, stay_dropped, ends_at, Goes-spent_ref}
use Rattle.m4_area.specs.Rows.{row_of}
use Rattle.m4_area.specs.Strided.{IsRowAt, strided_owns}
use Rattle.m4_area.specs.AreaLending.{row_left}
use Rattle.m4_area.proofs.Parts.{other_rows, row_out, row_in}
use Rattle.m4_area.proofs.RowLemmas.{refill_same}
use Rattle.m4_area.proofs.RowWalks.{asks, makes_slice, updated}
use Rattle.m4_area.proofs.Walks.{A, none, area_had, area_made}
use Rattle.m4_area.specs.contracts.area.Area.row_mut as f
use Rattle.m4_area.proofs.area.Area.row_mut.Statement.{statement}
use Rattle.m4_area.proofs.area.Area.row_mut.Code as code

abbrev stayed : Stays f.ended.signature.params f.ended.kept
stayed = (stay_dropped (mut_ref_to (0 ∷ []) tt (plain (λ _. A))) no, (stay_dropped (plain (λ _. RawPtr)) yes, (stay_dropped (plain (λ _. usize)) yes, (stay_dropped (plain (λ _. usize)) yes, (stay_dropped (plain (λ _. usize)) yes, tt)))))

-- the other rows, and the area's place in memory, which takes no bytes
module _ (h : A.Denot) (r : ℕ) (rb ro : ℕ) where
  abbrev Rest : Fml
  Rest = fsep (other_rows h.block h.step r h.rows h.first) (cell_at full_share A.mir (none ∷ []) rb ro)

  module _ {M : Type 1} {𝓤 : Ura M} (𝓛 : Logic 𝓤) (p : ℕ) (within : r < length h.rows) (there : p ≡ h.first + r * h.step) where
    -- with any words of the same number in the row, the area is whole again
    back : (ws : List ℕ) → length ws ≡ length (row_of h.rows r)
        → ent 𝓤 (sep 𝓤 (sem 𝓛 (cells (mem u64) ws h.block p)) (sem 𝓛 Rest)) (sem 𝓛 ((mem A).own_at (row_left h r ws) rb ro))
    unfolding part_of
    back ws same =
        qed 𝓛 (‵ (cells (mem u64) ws h.block p) ∷ ‵ Rest ∷ []) ∵
        use1 𝓛 (‵ (row u64 full_share ws h.block p)) (whole_out 𝓛 u64 ws h.block p) $ move ! (1 ∷ []) $ fsplit ! $ move ! (2 ∷ 0 ∷ []) $
        use2 𝓛 (‵ (strided_owns h.block h.first h.step (set h.rows r ws))) (row_in 𝓛 h.block h.step r h.rows ws h.first p within there) $
        rewrite ! 0 (λ l. ‵ (strided_owns h.block h.first h.step (set h.rows r l))) (sym (refill_same (row_of h.rows r) ws same)) refl $
        area_made ! (row_left h r ws) $ move ! (1 ∷ 0 ∷ []) $ fjoin ! $
        fpack ! (List Val) (λ us. fsep (cell_at full_share A.mir us rb ro) (A.own_val (row_left h r ws) us)) (none ∷ []) $ done !

pub row_mut_spec : {M : Type 1} → statement M
row_mut_spec 𝓤 𝓛 𝓜 𝓡 wired =
    let c = f.clauses 𝓛 𝓜.mem 𝓡.returns in
    let W = walk_of 𝓛 f.ended stayed c in
    let 𝓣 = tables 𝓤 𝓛.H 𝓜 𝓡 𝓡.env in
    let number = Goes-blank 𝓛 1 (plain (λ _. usize)) yes (λ κs x w. tt) in
    proved_at 𝓛 f.ended stayed c 𝓜 𝓡
    (Goes-spent_ref 𝓛 1 (0 ∷ []) tt (plain (λ _. A)), (Goes-blank 𝓛 1 (plain (λ _. RawPtr)) yes (λ κs x w. tt), (number, (number, (number, tt)))))
    f.Key.name code.function (code.unfolded 𝓤 𝓛.H 𝓜 𝓡 wired) (λ y are.
    let κ = y.0.0.0 in
    let q = y.0.1.0 in
    let a = y.0.3 in
    let vss = y.0.4 in
    let h = a.0.now in
    let γ = a.0.ghost_name in
    let rb = a.0.ref_ptr.0 in
    let ro = a.0.ref_ptr.1 in
    let from = a.1.0 in
    let start = a.1.1.0 in
    let r = a.1.1.1.0 in
    let n = a.1.1.1.1.0 in
    let xs = row_of h.rows r in
    let b = h.block in
    let o = count_of from in
    let p = start * 8 + o in
    qed 𝓛 (((‵ (flft κ q) ⊛ ‵ ftrue) ⊛ ‵ (owns (types_at f.signature.params y.0.0) a vss)) ∷ (raw (fact 𝓤 (r < length h.rows)) ⊛ (raw (fact 𝓤 (IsRowAt b h.first h.step from start r)) ⊛ (raw (fact 𝓤 (length xs ≡ n)) ⊛ raw (fact 𝓤 (start + n < 2 ^ 60))))) ∷ []) ∵
    move ! (1 ∷ []) $ asks ! h from start r n (λ asked. split ! $ split ! $ move ! (1 ∷ []) $ drop ! $ move ! (1 ∷ []) $
    fsplit ! $ fsplit3 ! $ feq_l ! (λ is₀. move ! (2 ∷ []) $
    makes_slice ! mut 𝓣.C 𝓣.Λ a.0.ref_ptr vss.0 a.1 vss.1 b o (W.post y) is₀ asked.here asked.byte_fits $ updating ! $
    -- [obs; bor; token]
    opens ! tt A rb ro (λ us. move ! (1 ∷ []) $ area_had ! h us (λ bare. rewrite ! 1 (λ ws. ‵ (cell_at full_share A.mir ws rb ro)) bare refl $
    -- [the rows; the area's cell; the open borrow; obs; auth]
    use1 𝓛 (‵ (row u64 full_share xs b p) ⊛ ‵ (other_rows b h.step r h.rows h.first)) (row_out 𝓛 b h.step r h.rows h.first p asked.within asked.there) $ split ! $
    use1 𝓛 (‵ (cells (mem u64) xs b p)) (whole_in 𝓛 u64 xs b p) $ move ! (1 ∷ 2 ∷ []) $ fjoin ! $
    -- [the rest; the row; the open borrow; obs; auth]
    move ! (2 ∷ 3 ∷ 4 ∷ 1 ∷ 0 ∷ []) $ group ! 5 $
    use1 𝓛 (later (some (λ (γ' : GName). raw (Elements 𝓛 A u64 (row_left h r) (named 0) κ q rb ro b p γ xs (asked.count_fits, asked.bytes_fit) (sem 𝓛 (Rest h r rb ro)) (back h r rb ro 𝓛 p asked.within asked.there) γ'))))
    (lends_Elements 𝓛 A u64 (row_left h r) (named 0) κ q rb ro b p γ xs (asked.count_fits, asked.bytes_fit) (sem 𝓛 (Rest h r rb ro)) (back h r rb ro 𝓛 p asked.within asked.there) (A.coded.code h) (A.coded.code h)) $ await ! tt $ pick ! (λ γ'.
    use1 𝓛 (‵ ((MutSlice (named 0) κ u64).own_val (record { ref_ptr = (b, p); ghost_name = γ'; now = xs }) (slice_val (b, p) (length xs) ∷ [])) ⊛ (‵ (flft κ q) ⊛ ‵ (follows A (Array u64 0) γ γ' (row_left h r)))) (id⊢ 𝓤 _) $
    split ! $ move ! (1 ∷ []) $ split ! $ move ! (2 ∷ 0 ∷ 1 ∷ []) $
    updated ! $
    -- [the slice; the token; follows]
    rewrite ! 0 (λ k. ‵ ((MutSlice (named 0) κ u64).own_val (record { ref_ptr = (b, p); ghost_name = γ'; now = xs }) (slice_val (b, p) k ∷ []))) asked.wide refl $
    suffices ! _ (ends_at 𝓛 f.ended stayed c y (slice_val (b, p) n) (record { ref_ptr = (b, p); ghost_name = γ'; now = xs }) (tt, (tt, (tt, (tt, (tt, tt))))) (tt, (tt, (tt, (tt, (tt, tt)))))) $
    nothing ! $ nothing ! $ fjoin ! $ nothing ! $ fjoin ! $ nothing ! $ fjoin ! $ nothing ! $ fjoin ! $ nothing ! $ fjoin ! $ join ! $
    nothing ! $ move ! (2 ∷ 0 ∷ []) $ join ! $ join ! $ frame ! $ says_two ! (refl, asked.wide) $ done !))))))
