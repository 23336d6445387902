-- `row` makes a slice of what a `&` to the area shares of one row. Assumes `Logic`.
use Rattle.std.proofs.Common.{◌≡◌, ◌+◌, ◌*◌, ◌^◌, ◌<◌, List, [], ◌∷◌, length, refl, sym, ap}
use Rattle.std.proofs.mem.Facts.{says_two}
use Rattle.std.proofs.raw_atomic.Walks.{proved_at}
use Rattle.std.proofs.alloc.Calls.{Goes-blank}
use mir.Syntax.{imm}
use mir.Val.{Val}
use contract.Monad.{fact}
use contract.Running.{tables}
use types.Kit.{‵, raw, ◌⊛◌, ◌$◌, ◌∵◌, !, qed, move, drop, use1, split, fsplit, fjoin, feq_l, feq_i, flt_i, suffices, done}
use denote.Builtin.{u64, usize, RefOf, RawPtr}
use denote.Exit.{yes}
use denote.Opens.{unhide, hide}
use denote.RattleType.{owns}
use denote.RawPtr.{count_of}
use denote.Signature.{plain, types_at}
use denote.Slice.{slice_val, elements_shared}
use denote.Steps.{nothing}
use denote.Triple.Entry.{alive}
use denote.Triple.Walked.{Stays, walk_of, stay_dropped, ends_at}
use Rattle.m4_area.specs.Rows.{row_of}
use Rattle.m4_area.specs.Strided.{IsRowAt}
use Rattle.m4_area.proofs.Loans.{row_seen}
use Rattle.m4_area.proofs.RowWalks.{asks, makes_slice}
use Rattle.m4_area.proofs.Walks.{A}
use Rattle.m4_area.specs.contracts.area.Area.row as f
use Rattle.m4_area.proofs.area.Area.row.Statement.{statement}
use Rattle.m4_area.proofs.area.Area.row.Code as code

abbrev stayed : Stays f.ended.signature.params f.ended.kept
stayed = (stay_dropped (RefOf (0 ∷ []) tt (plain (λ _. A)) (λ _. tt)) yes, (stay_dropped (plain (λ _. RawPtr)) yes, (stay_dropped (plain (λ _. usize)) yes, (stay_dropped (plain (λ _. usize)) yes, (stay_dropped (plain (λ _. usize)) yes, tt)))))

pub row_spec : {M : Type 1} → statement M
row_spec 𝓤 𝓛 𝓜 𝓡 wired =
    let c = f.clauses 𝓛 𝓜.mem 𝓡.returns in
    let W = walk_of 𝓛 f.ended stayed c in
    let 𝓣 = tables 𝓤 𝓛.H 𝓜 𝓡 𝓡.env in
    let number = Goes-blank 𝓛 1 (plain (λ _. usize)) yes (λ κs x w. tt) in
    proved_at 𝓛 f.ended stayed c 𝓜 𝓡
    (Goes-blank 𝓛 1 (RefOf (0 ∷ []) tt (plain (λ _. A)) (λ _. tt)) yes (λ κs x w. tt), (Goes-blank 𝓛 1 (plain (λ _. RawPtr)) yes (λ κs x w. tt), (number, (number, (number, tt)))))
    f.Key.name code.function (code.unfolded 𝓤 𝓛.H 𝓜 𝓡 wired) (λ y are.
    let κ = y.0.0.0 in
    let a = y.0.3 in
    let vss = y.0.4 in
    let s = a.0.now in
    let base = a.1.0 in
    let start = a.1.1.0 in
    let r = a.1.1.1.0 in
    let n = a.1.1.1.1.0 in
    let ys = row_of s.rows r in
    let b = s.block in
    let o = count_of base in
    let p = start * 8 + o in
    qed 𝓛 ((raw (alive 𝓛 f.signature y.0.0 y.0.1) ⊛ ‵ (owns (types_at f.signature.params y.0.0) a vss)) ∷ (raw (fact 𝓤 (r < length s.rows)) ⊛ (raw (fact 𝓤 (IsRowAt b s.first s.step base start r)) ⊛ (raw (fact 𝓤 (length ys ≡ n)) ⊛ raw (fact 𝓤 (start + n < 2 ^ 60))))) ∷ []) ∵
    move ! (1 ∷ []) $ asks ! s base start r n (λ asked. split ! $ move ! (1 ∷ []) $
    fsplit ! $ fsplit ! $ feq_l ! (λ is₀. unhide ! $ fsplit ! $ drop ! $ move ! (1 ∷ []) $
    makes_slice ! imm 𝓣.C 𝓣.Λ a.0.ref_ptr vss.0 a.1 vss.1 b o (W.post y) is₀ asked.here asked.byte_fits $
    use1 𝓛 (‵ (elements_shared u64 ys b p κ)) (row_seen 𝓛 b s.step κ r s.rows s.first p asked.within asked.there) $ hide ! $
    flt_i ! (length ys * 8) (2 ^ 63) asked.bytes_fit $ flt_i ! (length ys) (2 ^ 64) asked.count_fits $ fjoin ! $
    feq_i ! (List Val) (slice_val (b, p) n ∷ []) (slice_val (b, p) (length ys) ∷ []) (ap (λ k. slice_val (b, p) k ∷ []) (sym asked.wide)) $ fjoin ! $ fjoin ! $
    suffices ! _ (ends_at 𝓛 f.ended stayed c y (slice_val (b, p) n) (record { ref_ptr = (b, p); now = ys }) (tt, (tt, (tt, (tt, (tt, tt))))) (tt, (tt, (tt, (tt, (tt, tt)))))) $ says_two ! (refl, asked.wide) $
    nothing ! $ nothing ! $ fjoin ! $ nothing ! $ fjoin ! $ nothing ! $ fjoin ! $ nothing ! $ fjoin ! $ nothing ! $ fjoin ! $ move ! (2 ∷ 0 ∷ 1 ∷ []) $ done !)))
