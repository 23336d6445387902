use Rattle.std.proofs.Common.{◌≡◌, ◌++◌, ◌∷◌, [], ℕ, codes, decimal, append_assoc, ◌∙◌, sym, ap, refl, Ok}
use Rattle.std.proofs.lemmas.Result.{err_from_is_err_and}
use Rattle.m4_model.specs.Jcf.{jcf_header, nonzeros}
use Rattle.m4_text.proofs.Putting.{front_fails, piece_put, piece_fails}
use Rattle.m4_text.proofs.Columns.{jcf_header_parts}
use Rattle.m4_text.proofs.jcf_write.put_jcf_header.Goals as goal

-- the numbers and what stands behind them
first : (m n ones k : ℕ) → k ≡ m → jcf_header m n ones ≡ (decimal k ++ 32 ∷ []) ++ (((decimal n ++ 32 ∷ []) ++ codes "2\n") ++ (decimal ones ++ 10 ∷ []))
first m n ones k rows = jcf_header_parts m n ones k n rows refl ∙ simp append_assoc

second : (m n ones k l : ℕ) → k ≡ m → l ≡ n → jcf_header m n ones ≡ ((decimal k ++ 32 ∷ []) ++ (decimal l ++ 32 ∷ [])) ++ (codes "2\n" ++ (decimal ones ++ 10 ∷ []))
second m n ones k l rows cols = jcf_header_parts m n ones k l rows cols ∙ simp append_assoc

pub returns-in_err-put_number : goal.returns-in_err-put_number
returns-in_err-put_number g c =
    let p = err_from_is_err_and c.from_residual.result c.from_residual.ensures.1 in
    let m = c.args.m.now in
    front_fails _ (first m.rows m.cols (nonzeros m) c.from.result (c.from.ensures ∙ c.rows.ensures.rows)) c.in_err-put_number.ensures p.1

pub returns-in_err-put_number-2 : goal.returns-in_err-put_number-2
returns-in_err-put_number-2 g c =
    let p = err_from_is_err_and c.from_residual-in_err-put_number-2.result c.from_residual-in_err-put_number-2.ensures.1 in
    let m = c.args.m.now in
    piece_fails (codes "2\n" ++ (decimal (nonzeros m) ++ 10 ∷ []))
    (second m.rows m.cols (nonzeros m) c.from.result c.from-2.result (c.from.ensures ∙ c.rows.ensures.rows) (c.from-2.ensures ∙ c.cols.ensures.cols))
    c.in_ok-put_number.ensures c.in_err-put_number-2.ensures p.1

pub returns-in_err-put : goal.returns-in_err-put
returns-in_err-put g c =
    let p = err_from_is_err_and c.from_residual-in_err-put.result c.from_residual-in_err-put.ensures.1 in
    let m = c.args.m.now in
    piece_fails (decimal (nonzeros m) ++ 10 ∷ [])
    (jcf_header_parts m.rows m.cols (nonzeros m) c.from.result c.from-2.result (c.from.ensures ∙ c.rows.ensures.rows) (c.from-2.ensures ∙ c.cols.ensures.cols))
    (piece_put {result = Ok tt} refl c.in_ok-put_number.ensures c.in_ok-put_number-2.ensures)
    c.in_err-put.ensures p.1

pub returns : goal.returns
returns g c =
    let m = c.args.m.now in
    let ones = ap (λ k. ((((decimal c.from.result ++ 32 ∷ []) ++ (decimal c.from-2.result ++ 32 ∷ [])) ++ codes "2\n") ++ (decimal k ++ 10 ∷ []))) (sym c.count_ones.ensures) in
    piece_put
    (jcf_header_parts m.rows m.cols (nonzeros m) c.from.result c.from-2.result (c.from.ensures ∙ c.rows.ensures.rows) (c.from-2.ensures ∙ c.cols.ensures.cols) ∙ ones)
    (piece_put {result = Ok tt} refl (piece_put {result = Ok tt} refl c.in_ok-put_number.ensures c.in_ok-put_number-2.ensures) c.in_ok-put.ensures)
    c.put_number-3.ensures
