-- The walk of a function that cuts an area in two. Assumes `Logic`.
use Rattle.std.proofs.Common.{◌≡◌, ℕ, List, [], ◌∷◌, ◌++◌, refl}
use Rattle.std.proofs.mem.Facts.{says_two}
use Rattle.std.proofs.raw_atomic.Walks.{proved_at}
use Rattle.std.proofs.alloc.Calls.{Goes-blank}
use seplogic.Ra.Ura.{Ura}
use base.Logic.{ent, sep}
use base.Fml.{Fml}
use mir.Syntax.{Fn, Callee, local, value_local, ty_int, w64, seq, assign, place, aggregate, copy, return}
use mir.Val.{Val}
use prog.Model.{Model}
use prog.Wp.{WpFn, Closed}
use contract.Monad.{fact}
use contract.Running.{Running, tables}
use types.Logic.{Logic, sem}
use types.Kit.{‵, raw, ◌⊛◌, prop, ◌$◌, ◌∵◌, !, qed, move, drop, use1, split, fsplit, fjoin, feq_l, flt_l, regoal, suffices, done}
use types.Part.{agg}
use types.Run.{enter, returns, and_then, no_more}
use types.ByLocal.{alloc_all, pass_all, free_all, look_at, get, sets}
use denote.Builtin.{usize}
use denote.Exit.{yes}
use denote.Param.{layout}
use denote.RattleType.{RattleType, owns}
use denote.Signature.{plain, types_at}
use denote.Steps.{nothing, heard}
use denote.Struct.Tuple.{Tuple}
use denote.Triple.Clauses.{Ended, Clauses, closing}
use denote.Triple.Entry.{alive}
use denote.Triple.Spec.{Meets}
use denote.Triple.Walked.{Stays, walk_of, stay_dropped, ends_at}
use Rattle.m4_area.specs.Strided.{strided_owns}
use Rattle.m4_area.proofs.Walks.{A, none, two, area_made, area_had, two_made}

abbrev Pair : RattleType
Pair = Tuple (A ∷ A ∷ [])

-- It takes an area and a number, and gives two areas.
abbrev cut : Ended
cut = record {
  signature = record {
    lifetimes = 0;
    outlives = [];
    params = plain (λ _. A) ∷ plain (λ _. usize) ∷ [];
    result = plain (λ _. Pair);
  };
  kept = (yes, (yes, tt));
}

-- Its body makes both of nothing, and then the pair.
abbrev cut_code : Fn
cut_code = record {
  lifetimes = 0;
  outlives = [];
  ty_params = [];
  givens = 0;
  params = 2;
  locals = local (layout Pair) value_local ∷ local (layout A) value_local ∷ local (ty_int w64) value_local ∷ local (layout A) value_local ∷ local (layout A) value_local ∷ [];
  body = seq (assign (place 3 []) (aggregate [])) (seq (assign (place 4 []) (aggregate [])) (seq (assign (place 0 []) (aggregate (copy (place 3 []) ∷ copy (place 4 []) ∷ []))) return));
}

abbrev words_of : A.Denot → Fml
words_of a = strided_owns a.block a.first a.step a.rows

abbrev stayed : Stays cut.signature.params cut.kept
stayed = (stay_dropped (plain (λ _. A)) yes, (stay_dropped (plain (λ _. usize)) yes, tt))

-- which two areas they are, where `Asked` holds of the area and the number
module _ (Asked : A.Denot → ℕ → Type 0) (first second : A.Denot → ℕ → A.Denot) {M : Type 1} {𝓤 : Ura M} (𝓛 : Logic 𝓤) where
  abbrev promised : Clauses 𝓤 cut
  promised = λ κs a. record {
    ghost = Unit {0};
    requires = λ _. fact 𝓤 (Asked a.0 a.1.0);
    ensures = λ _ out _. sep 𝓤 (fact 𝓤 (out.0 ≡ first a.0 a.1.0)) (fact 𝓤 (out.1 ≡ second a.0 a.1.0));
  }

  -- its contract is met where the words of the area are those of the two
  pub cuts : ((s : A.Denot) (n : ℕ) → ent 𝓤 (sem 𝓛 (words_of s)) (sep 𝓤 (sem 𝓛 (words_of (first s n))) (sem 𝓛 (words_of (second s n)))))
      → (𝓜 : Model 𝓤 𝓛.H) (𝓡 : Running 𝓤 𝓛.H 𝓜) → let 𝓣 = tables 𝓤 𝓛.H 𝓜 𝓡 𝓡.env in (name : Callee) → Closed 𝓤 𝓛.H 𝓣.C 𝓣.Λ name cut_code
      → Meets 𝓛 cut.signature (𝓣.C name) (closing 𝓛 cut promised)
  cuts parted 𝓜 𝓡 name unfolded =
      let c = promised in
      let W = walk_of 𝓛 cut stayed c in
      let 𝓣 = tables 𝓤 𝓛.H 𝓜 𝓡 𝓡.env in
      proved_at 𝓛 cut stayed c 𝓜 𝓡
      (Goes-blank 𝓛 0 (plain (λ _. A)) yes (λ κs x w. tt), (Goes-blank 𝓛 0 (plain (λ _. usize)) yes (λ κs x w. tt), tt))
      name cut_code unfolded (λ y are.
      let a = y.0.3 in
      let vss = y.0.4 in
      let s = a.0 in
      let n = a.1.0 in
      qed 𝓛 ((raw (alive 𝓛 cut.signature y.0.0 y.0.1) ⊛ ‵ (owns (types_at cut.signature.params y.0.0) a vss)) ∷ raw (fact 𝓤 (Asked s n)) ∷ []) ∵
      move ! (1 ∷ []) $ heard ! (Asked s n) (λ asked. split ! $ move ! (1 ∷ []) $
      fsplit ! $ area_had ! s vss.0 (λ is₀. move ! (1 ∷ []) $ fsplit ! $ fsplit ! $ feq_l ! (λ is₁. flt_l ! (λ fits. drop ! $
      regoal ! (λ (us : List Val). prop (WpFn 𝓤 𝓛.H 𝓣.C 𝓣.Λ cut_code (us ++ (vss.1.0 ++ [])) (W.post y))) is₀ refl $
      regoal ! (λ (us : List Val). prop (WpFn 𝓤 𝓛.H 𝓣.C 𝓣.Λ cut_code ((none ∷ []) ++ (us ++ [])) (W.post y))) is₁ refl $
      enter ! _ _ _ _ _ $ alloc_all ! (λ l. pass_all ! refl ((tt, tt), ((tt, record { fits = fits }), tt)) $
      sets ! (agg ! (no_more !)) refl (tt, tt) $
      sets ! (agg ! (no_more !)) refl (tt, tt) $
      sets ! (agg ! (and_then ! (get ! refl) (and_then ! (get ! refl) (no_more !)))) refl (tt, (tt, (tt, tt))) $
      use1 𝓛 (‵ (words_of (first s n)) ⊛ ‵ (words_of (second s n))) (parted s n) $ split ! $
      area_made ! (first s n) $ move ! (1 ∷ []) $ area_made ! (second s n) $ move ! (1 ∷ 0 ∷ []) $ two_made ! A A (first s n) (second s n) none none $
      returns ! (look_at ! 0 refl) $ free_all ! refl $
      suffices ! _ (ends_at 𝓛 cut stayed c y (two none none) (first s n, second s n) (tt, (tt, tt)) (tt, (tt, tt))) $ says_two ! (refl, refl) $
      nothing ! $ nothing ! $ fjoin ! $ nothing ! $ fjoin ! $ move ! (2 ∷ 0 ∷ 1 ∷ []) $ done !))))))
