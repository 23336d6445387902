use Rattle.std.proofs.Common.{◌≡◌, ◌++◌, ◌∷◌, [], ℕ, decimal, append_assoc, ◌∙◌, sym, ap₂, Ok, refl}
use Rattle.std.proofs.lemmas.Result.{err_from_is_err_and}
use Rattle.m4_model.specs.Headed.{Spelling, header, opening}
use Rattle.m4_field.specs.Fields.{the_field}
use Rattle.m4_etext.specs.Kinds.{spelled_by}
use Rattle.m4_etext.proofs.Headers.{header_joined}
use Rattle.m4_etext.proofs.Putting.{front_fails, piece_put, piece_fails}
use Rattle.m4_etext.proofs.write.put_header.Goals as goal

-- the header line in the pieces that are written
parts : (S : Spelling) (m n k l : ℕ) → k ≡ m → l ≡ n → header S m n ≡ (opening S ++ (decimal k ++ 32 ∷ [])) ++ (decimal l ++ 10 ∷ [])
parts S m n k l rows cols =
    sym (append_assoc (opening S) (decimal m ++ 32 ∷ []) (decimal n ++ 10 ∷ []) ∙ header_joined S m n)
    ∙ ap₂ (λ x y. (opening S ++ (decimal x ++ 32 ∷ [])) ++ (decimal y ++ 10 ∷ [])) (sym rows) (sym cols)

pub returns-in_err-put_opening : goal.returns-in_err-put_opening
returns-in_err-put_opening g c =
    let p = err_from_is_err_and c.from_residual.result c.from_residual.ensures.1 in
    let S : Spelling = spelled_by c.args.kind (the_field c.args.field.now) in
    front_fails _ (sym (header_joined S c.args.rows c.args.cols)) c.in_err-put_opening.ensures p.1

pub returns-in_err-put_number : goal.returns-in_err-put_number
returns-in_err-put_number g c =
    let p = err_from_is_err_and c.from_residual-in_err-put_number.result c.from_residual-in_err-put_number.ensures.1 in
    let S : Spelling = spelled_by c.args.kind (the_field c.args.field.now) in
    piece_fails (decimal c.args.cols ++ 10 ∷ []) (parts S c.args.rows c.args.cols c.from.result c.args.cols c.from.ensures refl) c.in_ok-put_opening.ensures c.in_err-put_number.ensures p.1

pub returns : goal.returns
returns g c =
    let S : Spelling = spelled_by c.args.kind (the_field c.args.field.now) in
    piece_put (parts S c.args.rows c.args.cols c.from.result c.from-2.result c.from.ensures c.from-2.ensures)
    (piece_put {result = Ok tt} refl c.in_ok-put_opening.ensures c.in_ok-put_number.ensures)
    c.put_number-2.ensures
