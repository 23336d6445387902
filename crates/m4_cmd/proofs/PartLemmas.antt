-- Texts that are written in two parts.
use Rattle.std.proofs.Common.{◌≡◌, ℕ, List, ◌++◌, Option, Result, Ok, Err, ap, sym, ◌∙◌, subst}
use Rattle.m4_model.specs.NumberLines.{numbers_line}
use Rattle.m4_outcome.specs.RankLines.{rank_line}
use Rattle.m4_io.specs.Outside.{WritesAll}
use Rattle.m4_io.proofs.Writing.{writes_both, writes_stopped}
use Rattle.m4_cmd.specs.Factors.{rows_line}

-- the first part is not all written
pub part_stops : {T E D : Type 0} {old new : Option (List ℕ)} {before now : ℕ} {result : Result (Unit {0}) D} {e : E} {d : D}
    (first second text : List ℕ) → text ≡ first ++ second → result ≡ Err d → WritesAll {T = T} old new before now (Err e) first
    → WritesAll old new before now result text
part_stops {old = old} {new = new} {before = before} {now = now} {e = e} {d = d} first second text split is writes =
    subst (λ r. WritesAll old new before now r text) (sym is)
    (subst (WritesAll {T = Unit {0}} old new before now (Err d)) (sym split) (writes_stopped old new before now e d first second writes))

-- the second part is written with any answer
pub part_follows : {T U E D : Type 0} {old mid new : Option (List ℕ)} {before between now : ℕ} {u : T} {result : Result U D}
    (first second text : List ℕ) → text ≡ first ++ second → WritesAll {E = E} old mid before between (Ok u) first
    → WritesAll mid new between now result second → WritesAll old new before now result text
part_follows {old = old} {mid = mid} {new = new} {before = before} {between = between} {now = now} {u = u} {result = result} first second text split one two =
    subst (WritesAll old new before now result) (sym split) (writes_both old mid new before between now u result first second one two)

-- the text of factors, with the same heading in front of them
pub same_heading : (name : List ℕ) (k r : ℕ) (ps p cs c both : List ℕ) → k ≡ r → ps ≡ p → cs ≡ c
    → (rank_line r ++ (rows_line p ++ numbers_line name c)) ++ both ≡ (rank_line k ++ (rows_line ps ++ numbers_line name cs)) ++ both
same_heading name k r ps p cs c both rank rows columns =
    ap (λ (n : ℕ). (rank_line n ++ (rows_line p ++ numbers_line name c)) ++ both) (sym rank)
    ∙ ap (λ (l : List ℕ). (rank_line k ++ (rows_line l ++ numbers_line name c)) ++ both) (sym rows)
    ∙ ap (λ (l : List ℕ). (rank_line k ++ (rows_line ps ++ numbers_line name l)) ++ both) (sym columns)
