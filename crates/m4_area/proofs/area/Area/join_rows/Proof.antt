-- `join_rows` stacks the rows. Assumes `Logic`.
use Rattle.std.proofs.Common.{◌≡◌, ◌+◌, ◌*◌, List, [], ◌∷◌, ◌++◌, length, refl}
use Rattle.m4_area.proofs.Parts.{stacked}
use Rattle.std.proofs.raw_atomic.Walks.{proved_at}
use Rattle.std.proofs.alloc.Calls.{Goes-blank}
use mir.Val.{Val}
use prog.Wp.{WpFn}
use contract.Monad.{fact}
use contract.Running.{tables}
use types.Kit.{‵, raw, ◌⊛◌, prop, ◌$◌, ◌∵◌, !, qed, move, drop, use2, split, fsplit, fjoin, regoal, rewrite, suffices, done}
use types.Part.{agg}
use types.Run.{enter, returns, no_more}
use types.ByLocal.{alloc_all, pass_all, free_all, look_at, sets}
use denote.Exit.{yes}
use denote.RattleType.{owns}
use denote.Signature.{plain, types_at}
use denote.Steps.{nothing, heard}
use denote.Triple.Entry.{alive}
use denote.Triple.Walked.{Stays, walk_of, stay_dropped, ends_at, says}
use Rattle.m4_area.specs.Strided.{strided_owns}
use Rattle.m4_area.proofs.Walks.{A, none, area_made, area_had}
use Rattle.m4_area.specs.contracts.area.Area.join_rows as f
use Rattle.m4_area.proofs.area.Area.join_rows.Statement.{statement}
use Rattle.m4_area.proofs.area.Area.join_rows.Code as code

abbrev stayed : Stays f.ended.signature.params f.ended.kept
stayed = (stay_dropped (plain (λ _. A)) yes, (stay_dropped (plain (λ _. A)) yes, tt))

pub join_rows_spec : {M : Type 1} → statement M
join_rows_spec 𝓤 𝓛 𝓜 𝓡 wired =
    let c = f.clauses 𝓛 𝓜.mem 𝓡.returns in
    let W = walk_of 𝓛 f.ended stayed c in
    let 𝓣 = tables 𝓤 𝓛.H 𝓜 𝓡 𝓡.env in
    proved_at 𝓛 f.ended stayed c 𝓜 𝓡
    (Goes-blank 𝓛 0 (plain (λ _. A)) yes (λ κs x w. tt), (Goes-blank 𝓛 0 (plain (λ _. A)) yes (λ κs x w. tt), tt))
    f.Key.name code.function (code.unfolded 𝓤 𝓛.H 𝓜 𝓡 wired) (λ y are.
    let a = y.0.3 in
    let vss = y.0.4 in
    let s = a.0 in
    let t = a.1.0 in
    let whole : A.Denot = record s { rows = s.rows ++ t.rows } in
    qed 𝓛 ((raw (alive 𝓛 f.signature y.0.0 y.0.1) ⊛ ‵ (owns (types_at f.signature.params y.0.0) a vss)) ∷ (raw (fact 𝓤 (t.block ≡ s.block)) ⊛ (raw (fact 𝓤 (t.step ≡ s.step)) ⊛ raw (fact 𝓤 (t.first ≡ s.first + length s.rows * s.step)))) ∷ []) ∵
    move ! (1 ∷ []) $ split ! $ heard ! (t.block ≡ s.block) (λ same_block. split ! $ heard ! (t.step ≡ s.step) (λ same_step. heard ! (t.first ≡ s.first + length s.rows * s.step) (λ meets. split ! $ move ! (1 ∷ []) $
    fsplit ! $ area_had ! s vss.0 (λ is₀. move ! (1 ∷ []) $ fsplit ! $ area_had ! t vss.1.0 (λ is₁. move ! (1 ∷ []) $ drop ! $
    regoal ! (λ (us : List Val). prop (WpFn 𝓤 𝓛.H 𝓣.C 𝓣.Λ code.function (us ++ (vss.1.0 ++ [])) (W.post y))) is₀ refl $
    regoal ! (λ (us : List Val). prop (WpFn 𝓤 𝓛.H 𝓣.C 𝓣.Λ code.function ((none ∷ []) ++ (us ++ [])) (W.post y))) is₁ refl $
    enter ! _ _ _ _ _ $ alloc_all ! (λ l. pass_all ! refl ((tt, tt), ((tt, tt), tt)) $
    sets ! (agg ! (no_more !)) refl (tt, tt) $
    rewrite ! 0 (λ n. ‵ (strided_owns n t.first t.step t.rows)) same_block refl $
    rewrite ! 0 (λ n. ‵ (strided_owns s.block t.first n t.rows)) same_step refl $ move ! (1 ∷ 0 ∷ []) $
    use2 𝓛 (‵ (strided_owns s.block s.first s.step (s.rows ++ t.rows))) (stacked 𝓛 s.block s.step s.rows t.rows s.first t.first meets) $
    area_made ! whole $
    returns ! (look_at ! 0 refl) $ free_all ! refl $
    suffices ! _ (ends_at 𝓛 f.ended stayed c y none whole (tt, (tt, tt)) (tt, (tt, tt))) $ says ! refl $
    nothing ! $ nothing ! $ fjoin ! $ nothing ! $ fjoin ! $ move ! (2 ∷ 0 ∷ 1 ∷ []) $ done !)))))))
