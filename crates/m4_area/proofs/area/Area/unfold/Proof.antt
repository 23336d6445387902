-- `unfold` takes the words of rows as one row. Assumes `Logic`.
use Rattle.std.proofs.Common.{◌≡◌, ℕ, ◌+◌, ◌*◌, ◌<◌, ◌⊎◌, List, [], ◌∷◌, ◌++◌, length, refl, w64}
use Rattle.std.specs.List.{All, concat}
use Rattle.std.proofs.raw_atomic.Walks.{proved_at}
use Rattle.std.proofs.alloc.Calls.{Goes-blank}
use mir.Val.{Val, vint}
use prog.Wp.{WpFn}
use contract.Monad.{fact}
use contract.Running.{tables}
use types.Kit.{Goal, ‵, raw, ◌⊛◌, prop, ◌$◌, ◌∵◌, !, qed, move, drop, use1, split, fsplit, fjoin, feq_l, flt_l, regoal, rewrite, suffices, done}
use types.Part.{agg}
use types.Run.{enter, returns, no_more}
use types.ByLocal.{alloc_all, pass_all, free_all, look_at, sets}
use denote.Builtin.{usize}
use denote.Exit.{yes}
use denote.RattleType.{owns}
use denote.Signature.{plain, types_at}
use denote.Steps.{nothing, heard}
use denote.Triple.Entry.{alive}
use denote.Triple.Walked.{Stays, walk_of, stay_dropped, ends_at, says}
use Rattle.m4_area.specs.Rows.{row_of}
use Rattle.m4_area.specs.Storage.{rows_of}
use Rattle.m4_area.specs.Strided.{strided_owns}
use Rattle.m4_area.proofs.Vecs.{folded, unfolded}
use Rattle.m4_area.proofs.Walks.{A, none, area_made, area_had}
use Rattle.m4_area.specs.contracts.area.Area.unfold as f
use Rattle.m4_area.proofs.area.Area.unfold.Statement.{statement}
use Rattle.m4_area.proofs.area.Area.unfold.Code as code

abbrev stayed : Stays f.ended.signature.params f.ended.kept
stayed = (stay_dropped (plain (λ _. A)) yes, (stay_dropped (plain (λ _. usize)) yes, (stay_dropped (plain (λ _. usize)) yes, (stay_dropped (plain (λ _. usize)) yes, tt))))

pub unfold_spec : {M : Type 1} → statement M
unfold_spec 𝓤 𝓛 𝓜 𝓡 wired =
    let c = f.clauses 𝓛 𝓜.mem 𝓡.returns in
    let W = walk_of 𝓛 f.ended stayed c in
    let 𝓣 = tables 𝓤 𝓛.H 𝓜 𝓡 𝓡.env in
    let number = Goes-blank 𝓛 0 (plain (λ _. usize)) yes (λ κs x w. tt) in
    proved_at 𝓛 f.ended stayed c 𝓜 𝓡
    (Goes-blank 𝓛 0 (plain (λ _. A)) yes (λ κs x w. tt), (number, (number, (number, tt))))
    f.Key.name code.function (code.unfolded 𝓤 𝓛.H 𝓜 𝓡 wired) (λ y are.
    let a = y.0.3 in
    let vss = y.0.4 in
    let s = a.0 in
    let n₁ = a.1.0 in
    let n₂ = a.1.1.0 in
    let n₃ = a.1.1.1.0 in
    let whole : A.Denot = record s { step = n₃ * 8; rows = concat s.rows ∷ [] } in
    let Step = s.step ≡ n₂ * 8 in
    let Tight = (n₂ ≡ n₁) ⊎ (n₁ ≡ 0) in
    let Widths = All (λ row. length row ≡ n₁) s.rows in
    qed 𝓛 ((raw (alive 𝓛 f.signature y.0.0 y.0.1) ⊛ ‵ (owns (types_at f.signature.params y.0.0) a vss)) ∷ (raw (fact 𝓤 Step) ⊛ (raw (fact 𝓤 Tight) ⊛ raw (fact 𝓤 Widths))) ∷ []) ∵
    move ! (1 ∷ []) $ split ! $ heard ! Step (λ step. split ! $ heard ! Tight (λ tight. heard ! Widths (λ widths. split ! $ move ! (1 ∷ []) $
    fsplit ! $ area_had ! s vss.0 (λ is₀. move ! (1 ∷ []) $
    fsplit ! $ fsplit ! $ feq_l ! (λ is₁. flt_l ! (λ fits₁. fsplit ! $ fsplit ! $ feq_l ! (λ is₂. flt_l ! (λ fits₂. fsplit ! $ fsplit ! $ feq_l ! (λ is₃. flt_l ! (λ fits₃. drop ! $
    let Words : List Val → List Val → List Val → List Val → Goal 𝓤 𝓛.H = λ us vs ws ts. prop (WpFn 𝓤 𝓛.H 𝓣.C 𝓣.Λ code.function (us ++ (vs ++ (ws ++ (ts ++ [])))) (W.post y)) in
    regoal ! (λ us. Words us vss.1.0 vss.1.1.0 vss.1.1.1.0) is₀ refl $
    regoal ! (λ us. Words (none ∷ []) us vss.1.1.0 vss.1.1.1.0) is₁ refl $
    regoal ! (λ us. Words (none ∷ []) (vint w64 n₁ ∷ []) us vss.1.1.1.0) is₂ refl $
    regoal ! (λ us. Words (none ∷ []) (vint w64 n₁ ∷ []) (vint w64 n₂ ∷ []) us) is₃ refl $
    enter ! _ _ _ _ _ $ alloc_all ! (λ l. pass_all ! refl ((tt, tt), ((tt, record { fits = fits₁ }), ((tt, record { fits = fits₂ }), ((tt, record { fits = fits₃ }), tt)))) $
    sets ! (agg ! (no_more !)) refl (tt, tt) $
    rewrite ! 0 (λ k. ‵ (strided_owns s.block s.first k s.rows)) step refl $
    use1 𝓛 (‵ (strided_owns s.block s.first (n₃ * 8) (concat s.rows ∷ []))) (unfolded 𝓛 s.block (n₃ * 8) n₁ n₂ s.rows s.first tight widths) $
    area_made ! whole $
    returns ! (look_at ! 0 refl) $ free_all ! refl $
    suffices ! _ (ends_at 𝓛 f.ended stayed c y none whole (tt, (tt, (tt, (tt, tt)))) (tt, (tt, (tt, (tt, tt))))) $ says ! refl $
    nothing ! $ nothing ! $ fjoin ! $ nothing ! $ fjoin ! $ nothing ! $ fjoin ! $ nothing ! $ fjoin ! $ move ! (2 ∷ 0 ∷ 1 ∷ []) $ done !))))))))))))
