-- `attach` hands the words to what waits for them. Assumes `Logic`.
use Rattle.std.proofs.Common.{◌≡◌, ℕ, ◌+◌, ◌*◌, arith, List, [], ◌∷◌, ◌++◌, length, refl, sym, ap, subst, ◌∙◌}
use Rattle.std.specs.List.{All, concat}
use Rattle.std.specs.Vec.{with_items}
use Rattle.std.proofs.lemmas.List.{with_items_is}
use Rattle.std.proofs.raw_atomic.Walks.{proved_at}
use Rattle.std.proofs.alloc.Calls.{Goes-blank}
use base.Fraction.{full_share}
use base.Fml.{fsep, feq, fwand}
use base.Logic.{all_e, apply∗}
use mir.Val.{Val}
use prog.Wp.{WpFn}
use contract.Monad.{fact}
use contract.Running.{tables}
use types.Logic.{sem}
use types.Kit.{‵, raw, ◌⊛◌, prop, ◌$◌, ◌∵◌, !, qed, move, drop, use1, use2, split, fsplit, fjoin, fpick, feq_l, feq_i, rewrite, regoal, suffices, done}
use types.Part.{sub, whole}
use types.Run.{enter, returns, of_opd, fld, stop}
use types.ByLocal.{alloc_all, pass_all, free_all, look_at, get, get_in, sets}
use denote.Builtin.{u64}
use denote.Exit.{yes}
use denote.Index.{row}
use denote.Laws.{Typed}
use denote.RattleType.{RattleType, owns}
use denote.Signature.{plain, types_at}
use denote.Steps.{nothing, heard}
use denote.Triple.Entry.{alive}
use denote.Triple.Walked.{Stays, walk_of, stay_dropped, ends_at, says}
use Rattle.m4_area.specs.Strided.{strided_owns}
use Rattle.m4_area.specs.contracts.storage.Storage as Storage
use Rattle.m4_area.proofs.RowLemmas.{length-concat}
use Rattle.m4_area.proofs.Vecs.{V, V-laws, rows_unmade}
use Rattle.m4_area.proofs.Walks.{A, none, one, plainly, area_had, one_had}
use Rattle.m4_area.specs.contracts.storage.attach as f
use Rattle.m4_area.proofs.storage.attach.Statement.{statement}
use Rattle.m4_area.proofs.storage.attach.Code as code

abbrev S : RattleType
S = Storage.the_row

abbrev stayed : Stays f.ended.signature.params f.ended.kept
stayed = (stay_dropped (plain (λ _. A)) yes, (stay_dropped (plain (λ _. S)) yes, tt))

pub attach_spec : {M : Type 1} → statement M
attach_spec 𝓤 𝓛 𝓜 𝓡 wired =
    let c = f.clauses 𝓛 𝓜.mem 𝓡.returns in
    let W = walk_of 𝓛 f.ended stayed c in
    let 𝓣 = tables 𝓤 𝓛.H 𝓜 𝓡 𝓡.env in
    proved_at 𝓛 f.ended stayed c 𝓜 𝓡
    (Goes-blank 𝓛 0 (plain (λ _. A)) yes (λ κs x w. tt), (Goes-blank 𝓛 0 (plain (λ _. S)) yes (λ κs x w. tt), tt))
    f.Key.name code.function (code.unfolded 𝓤 𝓛.H 𝓜 𝓡 wired) (λ y are.
    let a = y.0.3 in
    let vss = y.0.4 in
    let s = a.0 in
    let t = a.1.0 in
    let b = t.place.block in
    let o = t.place.base in
    let n = t.rows * t.width in
    let xs = concat s.rows in
    let Block = s.block ≡ b in
    let First = s.first ≡ o + t.skip * 8 in
    let Step = s.step ≡ t.place.stride * 8 in
    let Rows = length s.rows ≡ t.rows in
    let Widths = All (λ row. length row ≡ t.width) s.rows in
    qed 𝓛 ((raw (alive 𝓛 f.signature y.0.0 y.0.1) ⊛ ‵ (owns (types_at f.signature.params y.0.0) a vss)) ∷ (raw (fact 𝓤 Block) ⊛ (raw (fact 𝓤 First) ⊛ (raw (fact 𝓤 Step) ⊛ (raw (fact 𝓤 Rows) ⊛ raw (fact 𝓤 Widths))))) ∷ []) ∵
    move ! (1 ∷ []) $ split ! $ heard ! Block (λ block. split ! $ heard ! First (λ first. split ! $ heard ! Step (λ step. split ! $ heard ! Rows (λ rows. heard ! Widths (λ widths. split ! $ move ! (1 ∷ []) $
    let count : length xs ≡ n = length-concat t.width s.rows widths ∙ ap (λ k. k * t.width) rows in
    fsplit ! $ area_had ! s vss.0 (λ is₀. move ! (1 ∷ []) $ fsplit ! $ fsplit ! $ fpick ! (λ typed. drop ! $ fpick ! (λ v. fpick ! (λ fits. fsplit ! $ feq_l ! (λ len.
    let Given = λ (ys : List ℕ). fsep (feq ℕ (length ys) n) (row u64 full_share ys b o) in
    let Whole = λ (ys : List ℕ). (plainly (V ∷ [])).own_val (with_items v.vec ys, tt) vss.1.0 in
    -- [the way back; nothing; the rows; the tokens]
    use1 𝓛 (‵ (fwand (Given xs) (Whole xs))) (all_e 𝓤 (λ ys. sem 𝓛 (fwand (Given ys) (Whole ys))) xs) $ move ! (2 ∷ []) $
    rewrite ! 0 (λ k. ‵ (strided_owns k s.first s.step s.rows)) block refl $
    let at_base : s.first ≡ o = omega (arith, first, fits.skip) in
    rewrite ! 0 (λ k. ‵ (strided_owns b k s.step s.rows)) at_base refl $
    rewrite ! 0 (λ k. ‵ (strided_owns b o k s.rows)) step refl $
    use1 𝓛 (‵ (row u64 full_share xs b o)) (rows_unmade 𝓛 b t.width t.place.stride s.rows o fits.tight widths) $
    feq_i ! ℕ (length xs) n count $ fjoin ! $
    use2 𝓛 (‵ (Whole xs)) (apply∗ 𝓤 (sem 𝓛 (Given xs)) (sem 𝓛 (Whole xs))) $ one_had ! V V-laws (with_items v.vec xs) vss.1.0 (λ u is₁ good.
    move ! (1 ∷ []) $ drop ! $
    regoal ! (λ (us : List Val). prop (WpFn 𝓤 𝓛.H 𝓣.C 𝓣.Λ code.function (us ++ (vss.1.0 ++ [])) (W.post y))) is₀ refl $
    regoal ! (λ (us : List Val). prop (WpFn 𝓤 𝓛.H 𝓣.C 𝓣.Λ code.function ((none ∷ []) ++ (us ++ [])) (W.post y))) is₁ refl $
    enter ! 𝓣.C 𝓣.Λ code.function (none ∷ one u ∷ []) (W.post y) $ alloc_all ! (λ l. pass_all ! refl ((tt, tt), ((subst (Typed S.mir) is₁ typed).0, tt)) $
    sets ! (of_opd ! (get_in ! (fld ! refl (stop !)) (sub ! 0 refl (whole !)))) refl good $
    sets ! (of_opd ! (get ! refl)) refl good $
    returns ! (look_at ! 0 refl) $ free_all ! refl $
    suffices ! _ (ends_at 𝓛 f.ended stayed c y u (with_items v.vec xs) (tt, (tt, tt)) (tt, (tt, tt))) $ says ! (with_items_is v.vec xs (count ∙ sym len)) $
    nothing ! $ nothing ! $ fjoin ! $ nothing ! $ fjoin ! $ move ! (2 ∷ 0 ∷ 1 ∷ []) $ done !)))))))))))))
