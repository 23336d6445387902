-- `detach` takes the words out, and leaves the way back. Assumes `Logic`.
use Rattle.std.proofs.Common.{◌≡◌, ◌*◌, ◌⊎◌, List, [], ◌∷◌, ◌++◌, refl, w64}
use Rattle.std.proofs.raw_atomic.Walks.{proved_at}
use Rattle.std.proofs.alloc.Calls.{Goes-blank}
use base.Fraction.{full_share}
use base.Fml.{ftrue}
use mir.Val.{Val, vint}
use prog.Wp.{WpFn}
use contract.Monad.{fact}
use contract.Running.{tables}
use types.Kit.{Goal, ‵, raw, ◌⊛◌, given, prop, ◌$◌, ◌∵◌, !, qed, move, drop, use1, split, fsplit, fjoin, fpack, feq_l, flt_l, learn, regoal, suffices, done}
use types.Part.{agg}
use types.Run.{enter, returns, of_opd, and_then, no_more}
use types.ByLocal.{alloc_all, pass_all, free_all, look_at, get, sets}
use denote.Builtin.{u64, usize}
use denote.Exit.{yes}
use denote.Index.{row}
use denote.Laws.{Typed}
use denote.Param.{layout}
use denote.RattleType.{RattleType, owns}
use denote.RawPtr.{block_ptr, block_of, count_of}
use denote.Signature.{plain, types_at}
use denote.Steps.{nothing, heard}
use denote.Struct.Struct.{as_fields}
use denote.Triple.Entry.{alive}
use denote.Triple.Walked.{Stays, walk_of, stay_dropped, ends_at, says}
use Rattle.m4_area.specs.Storage.{Frame, rows_of}
use Rattle.m4_area.specs.Strided.{strided_owns}
use Rattle.m4_area.specs.contracts.storage.Storage as Storage
use Rattle.m4_area.proofs.Vecs.{V, V-laws, carve, rows_made}
use Rattle.m4_area.proofs.Walks.{A, none, one, two, tells, area_made, two_made}
use Rattle.m4_area.specs.contracts.storage.detach as f
use Rattle.m4_area.proofs.storage.detach.Statement.{statement}
use Rattle.m4_area.proofs.storage.detach.Code as code

abbrev stayed : Stays f.ended.signature.params f.ended.kept
stayed = (stay_dropped (plain (λ _. V)) yes, (stay_dropped (plain (λ _. usize)) yes, (stay_dropped (plain (λ _. usize)) yes, (stay_dropped (plain (λ _. usize)) yes, tt))))

pub detach_spec : {M : Type 1} → statement M
detach_spec 𝓤 𝓛 𝓜 𝓡 wired =
    let c = f.clauses 𝓛 𝓜.mem 𝓡.returns in
    let W = walk_of 𝓛 f.ended stayed c in
    let 𝓣 = tables 𝓤 𝓛.H 𝓜 𝓡 𝓡.env in
    let number = Goes-blank 𝓛 0 (plain (λ _. usize)) yes (λ κs x w. tt) in
    proved_at 𝓛 f.ended stayed c 𝓜 𝓡
    (Goes-blank 𝓛 0 (plain (λ _. V)) yes (λ κs x w. tt), (number, (number, (number, tt))))
    f.Key.name code.function (code.unfolded 𝓤 𝓛.H 𝓜 𝓡 wired) (λ y are.
    let a = y.0.3 in
    let vss = y.0.4 in
    let v = a.0 in
    let rows = a.1.0 in
    let width = a.1.1.0 in
    let stride = a.1.1.1.0 in
    let b = block_of v.ptr in
    let o = count_of v.ptr in
    let S : RattleType = Storage.the_row in
    let frame : Frame = record { place = record { block = b; base = o; stride = stride }; skip = 0; rows = rows; width = width } in
    let area : A.Denot = record { block = b; first = o; step = stride * 8; rows = rows_of rows width v.items } in
    let Count = v.len ≡ rows * width in
    let Tight = (stride ≡ width) ⊎ (width ≡ 0) in
    qed 𝓛 ((raw (alive 𝓛 f.signature y.0.0 y.0.1) ⊛ ‵ (owns (types_at f.signature.params y.0.0) a vss)) ∷ (raw (fact 𝓤 Count) ⊛ raw (fact 𝓤 Tight)) ∷ []) ∵
    move ! (1 ∷ []) $ split ! $ heard ! Count (λ count. heard ! Tight (λ tight. split ! $ move ! (1 ∷ []) $
    fsplit ! $ tells ! V V-laws v vss.0 (λ u is₀ good. move ! (1 ∷ []) $
    fsplit ! $ fsplit ! $ feq_l ! (λ is₁. flt_l ! (λ fits₁. fsplit ! $ fsplit ! $ feq_l ! (λ is₂. flt_l ! (λ fits₂. fsplit ! $ fsplit ! $ feq_l ! (λ is₃. flt_l ! (λ fits₃. drop ! $
    let inner = as_fields (layout V ∷ []) (u ∷ []) (good, tt) in
    let Words : List Val → List Val → List Val → List Val → Goal 𝓤 𝓛.H = λ us vs ws ts. prop (WpFn 𝓤 𝓛.H 𝓣.C 𝓣.Λ code.function (us ++ (vs ++ (ws ++ (ts ++ [])))) (W.post y)) in
    regoal ! (λ us. Words us vss.1.0 vss.1.1.0 vss.1.1.1.0) is₀ refl $
    regoal ! (λ us. Words (u ∷ []) us vss.1.1.0 vss.1.1.1.0) is₁ refl $
    regoal ! (λ us. Words (u ∷ []) (vint w64 rows ∷ []) us vss.1.1.1.0) is₂ refl $
    regoal ! (λ us. Words (u ∷ []) (vint w64 rows ∷ []) (vint w64 width ∷ []) us) is₃ refl $
    use1 𝓛 (given (v.ptr ≡ block_ptr b o) (‵ (row u64 full_share v.items b o) ⊛ ‵ (Storage.the_own frame (one u ∷ [])))) (carve 𝓛 v u v.ptr stride rows width refl (record { skip = refl; tight = tight }) count) $ learn ! (λ at. split ! $
    use1 𝓛 (‵ (strided_owns b o (stride * 8) (rows_of rows width v.items))) (rows_made 𝓛 b rows width stride v.items o tight) $ area_made ! area $
    move ! (1 ∷ []) $ nothing ! $ fpack ! (Typed S.mir (one u ∷ [])) (λ _. ftrue) (inner, tt) $ fjoin ! $ move ! (1 ∷ 0 ∷ []) $
    two_made ! A S area frame none (one u) $
    enter ! 𝓣.C 𝓣.Λ code.function (u ∷ vint w64 rows ∷ vint w64 width ∷ vint w64 stride ∷ []) (W.post y) $
    alloc_all ! (λ l. pass_all ! refl (good, ((tt, record { fits = fits₁ }), ((tt, record { fits = fits₂ }), ((tt, record { fits = fits₃ }), tt)))) $
    sets ! (agg ! (no_more !)) refl (tt, tt) $
    sets ! (of_opd ! (get ! refl)) refl good $
    sets ! (agg ! (and_then ! (get ! refl) (no_more !))) refl inner $
    sets ! (agg ! (and_then ! (get ! refl) (and_then ! (get ! refl) (no_more !)))) refl (as_fields (layout A ∷ layout S ∷ []) (none ∷ one u ∷ []) ((tt, tt), (inner, tt))) $
    returns ! (look_at ! 0 refl) $ free_all ! refl $
    suffices ! _ (ends_at 𝓛 f.ended stayed c y (two none (one u)) (area, frame) (tt, (tt, (tt, (tt, tt)))) (tt, (tt, (tt, (tt, tt))))) $
    says ! (record { within = at; step = refl; words_in_rows = refl; waits = refl }) $
    nothing ! $ nothing ! $ fjoin ! $ nothing ! $ fjoin ! $ nothing ! $ fjoin ! $ nothing ! $ fjoin ! $ move ! (2 ∷ 0 ∷ 1 ∷ []) $ done !))))))))))))
