use Rattle.std.proofs.Common.{◌≡◌, ◌<◌, ◌+◌, [], ◌∷◌, ◌++◌, length, get_or, take, drop, sym, ◌∙◌, ap, subst, arith, append_assoc, length-append, length-take, take-append-drop}
use Rattle.std.proofs.lemmas.List.{take_more}
use Rattle.m4_model.specs.Headed.{IsHeader}
use Rattle.m4_etext.specs.Place.{GoesWrong, IsHeaderOf}
use Rattle.m4_etext.specs.Parsed.{spelling_of}
use Rattle.m4_etext.proofs.Fronts.{GoesWrong-append}
use Rattle.m4_etext.proofs.HeadLemmas.{front_short, header_whole}
use Rattle.m4_etext.proofs.head.Head.feed.Goals as goal

pub push-requires : goal.push-requires
push-requires c = front_short c.loop-place.self c.loop-place.invariant.begins

pub returns-in-Ok : goal.returns-in-Ok
returns-in-Ok c =
    let now = c.loop-place in
    let piece = c.args.piece.now in
    let old = c.args.self.now in
    let header = c.in-Ok.header in
    let byte = get_or piece now.place 0 in
    let inside : now.place < length piece = omega arith in
    let pushed : c.push.new.self ≡ now.self ++ byte ∷ [] = c.push.ensures in
    let same : c.push.new.self ≡ old ++ take (now.place + 1) piece =
    pushed ∙ ap (λ l. l ++ byte ∷ []) now.invariant.fed ∙ append_assoc old (take now.place piece) (byte ∷ [])
    ∙ ap (λ l. old ++ l) (sym (take_more piece now.place 0 inside)) in
    let found : IsHeaderOf c.push.new.self (spelling_of header.opening) header.rows header.cols header.len = c.in-Ok.ensures in (
      omega arith,
      subst (λ l. IsHeaderOf l (spelling_of header.opening) header.rows header.cols header.len) same found,
      header_whole now.self byte (spelling_of header.opening) header.rows header.cols header.len now.invariant.begins
          (subst (λ l. IsHeaderOf l (spelling_of header.opening) header.rows header.cols header.len) pushed found)
          ∙ ap length (sym pushed ∙ same),
    )

pub returns-then-at-self : goal.returns-then-at-self
returns-then-at-self c =
    let now = c.loop-place in
    let piece = c.args.piece.now in
    let old = c.args.self.now in
    let at = c.in-Err.at in
    let byte = get_or piece now.place 0 in
    let inside : now.place < length piece = omega arith in
    let same : c.push.new.self ≡ old ++ take (now.place + 1) piece =
    c.push.ensures ∙ ap (λ l. l ++ byte ∷ []) now.invariant.fed ∙ append_assoc old (take now.place piece) (byte ∷ [])
    ∙ ap (λ l. old ++ l) (sym (take_more piece now.place 0 inside)) in
    let rest = drop (now.place + 1) piece in
    let whole : c.push.new.self ++ rest ≡ old ++ piece =
    ap (λ l. l ++ rest) same ∙ append_assoc old (take (now.place + 1) piece) rest
    ∙ ap (λ l. old ++ l) (take-append-drop (now.place + 1) piece) in
    let before : at < length c.push.new.self =
    omega (arith, ap length c.self.view_is, length-take c.self.inside.len c.self.inside.seen, c.self.told, c.self.invariant, c.if-at-self.true) in (
      omega (arith, before, ap length whole, length-append c.push.new.self rest),
      subst (λ l. GoesWrong IsHeader l at) whole (GoesWrong-append IsHeader c.push.new.self rest at before c.in-Err.ensures),
    )
