use Rattle.std.proofs.Common.{◌≡◌, ◌++◌, ◌∷◌, [], ℕ, codes, decimal, append_assoc, ◌∙◌, sym, ap₂, Ok, refl}
use Rattle.std.proofs.lemmas.Result.{err_from_is_err_and}
use Rattle.m4_model.specs.Text.{header}
use Rattle.m4_text.proofs.Headers.{header_joined}
use Rattle.m4_text.proofs.Putting.{front_fails, piece_put, piece_fails}
use Rattle.m4_text.proofs.write.put_header.Goals as goal

-- the header line in the pieces that are written
parts : (m n k l : ℕ) → k ≡ m → l ≡ n → header m n ≡ (codes "gf2 " ++ (decimal k ++ 32 ∷ [])) ++ (decimal l ++ 10 ∷ [])
parts m n k l rows cols =
    sym (append_assoc (codes "gf2 ") (decimal m ++ 32 ∷ []) (decimal n ++ 10 ∷ []) ∙ header_joined m n)
    ∙ ap₂ (λ x y. (codes "gf2 " ++ (decimal x ++ 32 ∷ [])) ++ (decimal y ++ 10 ∷ [])) (sym rows) (sym cols)

pub returns-in_err-put : goal.returns-in_err-put
returns-in_err-put g c =
    let p = err_from_is_err_and c.from_residual.result c.from_residual.ensures.1 in
    front_fails _ (sym (header_joined c.args.rows c.args.cols)) c.in_err-put.ensures p.1

pub returns-in_err-put_number : goal.returns-in_err-put_number
returns-in_err-put_number g c =
    let p = err_from_is_err_and c.from_residual-in_err-put_number.result c.from_residual-in_err-put_number.ensures.1 in
    piece_fails (decimal c.args.cols ++ 10 ∷ []) (parts c.args.rows c.args.cols c.from.result c.args.cols c.from.ensures refl) c.in_ok-put.ensures c.in_err-put_number.ensures p.1

pub returns : goal.returns
returns g c =
    piece_put (parts c.args.rows c.args.cols c.from.result c.from-2.result c.from.ensures c.from-2.ensures)
    (piece_put {result = Ok tt} refl c.in_ok-put.ensures c.in_ok-put_number.ensures)
    c.put_number-2.ensures
