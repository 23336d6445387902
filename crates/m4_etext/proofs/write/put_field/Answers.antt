use Rattle.std.proofs.Common.{◌≡◌, ◌++◌, ◌∷◌, [], ℕ, List, codes, decimal, append_assoc, ◌∙◌, sym, ap, ap₂, Ok, refl}
use Rattle.std.proofs.lemmas.Result.{err_from_is_err_and}
use Rattle.std.proofs.lemmas.List.{take_rest}
use Rattle.m4_model.specs.Field.{Field}
use Rattle.m4_model.specs.Headed.{Elements, opening, hexadecimal}
use Rattle.m4_field.specs.Fields.{the_field}
use Rattle.m4_etext.proofs.Putting.{front_fails, piece_put, piece_fails}
use Rattle.m4_etext.proofs.write.put_field.Goals as goal

-- the opening in the pieces that are written
module _ (F : Field) (d : ℕ) (p : List ℕ) (degree : d ≡ F.degree) (poly : p ≡ hexadecimal F.poly) where
  after_poly : opening (Elements F) ≡ ((codes "gf2e " ++ (decimal d ++ 32 ∷ [])) ++ p) ++ 32 ∷ []
  after_poly =
      sym (append_assoc (codes "gf2e " ++ (decimal d ++ 32 ∷ [])) p (32 ∷ []) ∙ append_assoc (codes "gf2e ") (decimal d ++ 32 ∷ []) (p ++ 32 ∷ [])
      ∙ ap (λ l. codes "gf2e " ++ l) (append_assoc (decimal d) (32 ∷ []) (p ++ 32 ∷ [])) ∙ ap₂ (λ d p. codes "gf2e " ++ (decimal d ++ 32 ∷ (p ++ 32 ∷ []))) degree poly)

  after_degree : opening (Elements F) ≡ (codes "gf2e " ++ (decimal d ++ 32 ∷ [])) ++ (p ++ 32 ∷ [])
  after_degree = after_poly ∙ append_assoc (codes "gf2e " ++ (decimal d ++ 32 ∷ [])) p (32 ∷ [])

  after_letters : codes "gf2e " ++ ((decimal d ++ 32 ∷ []) ++ (p ++ 32 ∷ [])) ≡ opening (Elements F)
  after_letters = sym (after_degree ∙ append_assoc (codes "gf2e ") (decimal d ++ 32 ∷ []) (p ++ 32 ∷ []))

pub returns-in_err-put : goal.returns-in_err-put
returns-in_err-put g c =
    let p = err_from_is_err_and c.from_residual.result c.from_residual.ensures.1 in
    let F = the_field c.args.field.now in
    front_fails _ (sym (after_letters F F.degree (hexadecimal F.poly) refl refl)) c.in_err-put.ensures p.1

pub returns-in_err-put_number : goal.returns-in_err-put_number
returns-in_err-put_number g c =
    let p = err_from_is_err_and c.from_residual-in_err-put_number.result c.from_residual-in_err-put_number.ensures.1 in
    let F = the_field c.args.field.now in
    piece_fails (hexadecimal F.poly ++ 32 ∷ []) (after_degree F c.from.result (hexadecimal F.poly) (c.from.ensures ∙ c.e.ensures.degree) refl) c.in_ok-put.ensures c.in_err-put_number.ensures p.1

pub returns-in_err-put-2 : goal.returns-in_err-put-2
returns-in_err-put-2 g c =
    let p = err_from_is_err_and c.from_residual-in_err-put-2.result c.from_residual-in_err-put-2.ensures.1 in
    let F = the_field c.args.field.now in
    let spelled = take_rest c.hex_number-poly.result.bytes c.hex_number-poly.result.start ∙ c.hex_number-poly.ensures.spelled ∙ ap hexadecimal c.poly.ensures.poly in
    piece_fails (32 ∷ []) (after_poly F c.from.result _ (c.from.ensures ∙ c.e.ensures.degree) spelled)
    (piece_put {result = Ok tt} refl c.in_ok-put.ensures c.in_ok-put_number.ensures) c.in_err-put-2.ensures p.1

pub returns : goal.returns
returns g c =
    let F = the_field c.args.field.now in
    let spelled = take_rest c.hex_number-poly.result.bytes c.hex_number-poly.result.start ∙ c.hex_number-poly.ensures.spelled ∙ ap hexadecimal c.poly.ensures.poly in
    piece_put (after_poly F c.from.result _ (c.from.ensures ∙ c.e.ensures.degree) spelled)
    (piece_put {result = Ok tt} refl (piece_put {result = Ok tt} refl c.in_ok-put.ensures c.in_ok-put_number.ensures) c.in_ok-put-2.ensures) c.put-3.ensures
