use Rattle.std.proofs.Common.{◌≡◌, List, ℕ, ◌++◌, take, drop, sym, subst, subst₂, ap, refl, arith, take_all}
use Rattle.m4_etext.specs.Pieces.{Kept, StandsForLines, Stops, BodySoFar}
use Rattle.m4_etext.specs.Kinds.{spelled_by}
use Rattle.m4_model.specs.Headed.{Spelling}
use Rattle.m4_etext.proofs.Pieces.{lines_more, lines_stopped}
use Rattle.m4_etext.proofs.fed.Lines.feed.Goals as goal

-- the lines go on, told by the new spelling
read_on : (old new : Kept) (front : List ℕ) → new.spelling ≡ old.spelling
    → ((body : List ℕ) → BodySoFar old.spelling old.matrix old.row_next old.place_next body → BodySoFar old.spelling new.matrix new.row_next new.place_next (body ++ front))
    → (body : List ℕ) → BodySoFar old.spelling old.matrix old.row_next old.place_next body → BodySoFar new.spelling new.matrix new.row_next new.place_next (body ++ front)
read_on old new front same more body start = subst (λ (S : Spelling). BodySoFar S new.matrix new.row_next new.place_next (body ++ front)) (sym same) (more body start)

pub returns-then-taken-piece-clause-err : goal.returns-then-taken-piece-clause-err
returns-then-taken-piece-clause-err c = λ bytes stands more.
    let piece = c.args.piece.now in
    let taken = c.take_lines-taken in
    let old : Kept = record { spelling = spelled_by c.self.inside.kind c.self.inside.m.field; head = c.self.inside.head; matrix = c.self.inside.m; row_next = c.self.inside.row; place_next = c.self.inside.place } in
    let new : Kept = record { spelling = spelled_by c.self.inside.kind taken.new.m.field; head = c.self.inside.head; matrix = taken.new.m; row_next = taken.result.row; place_next = taken.result.place } in
    let before : StandsForLines old bytes = subst (λ (x : Kept). StandsForLines x bytes) (sym c.self.view_is) stands in
    let after : StandsForLines new (bytes ++ take taken.result.len piece) =
    lines_more old new bytes (take taken.result.len piece) before (ap (spelled_by c.self.inside.kind) taken.ensures.field) refl taken.ensures.shape_rows taken.ensures.shape_cols (read_on old new (take taken.result.len piece) (ap (spelled_by c.self.inside.kind) taken.ensures.field) taken.ensures.read) in
    let stops : Stops new.spelling new.matrix.rows new.matrix.cols new.row_next new.place_next (drop taken.result.len piece) =
    subst (λ (S : Spelling). Stops S new.matrix.rows new.matrix.cols new.row_next new.place_next (drop taken.result.len piece)) (sym (ap (spelled_by c.self.inside.kind) taken.ensures.field))
    (subst₂ (λ m n. Stops old.spelling m n new.row_next new.place_next (drop taken.result.len piece)) (sym taken.ensures.shape_rows) (sym taken.ensures.shape_cols)
    (taken.ensures.stops (omega arith))) in
    lines_stopped new bytes piece more taken.result.len c.place.result (omega arith) after c.place.ensures stops

pub returns-clause-ok : goal.returns-clause-ok
returns-clause-ok c = λ bytes stands.
    let piece = c.args.piece.now in
    let taken = c.take_lines-taken in
    let old : Kept = record { spelling = spelled_by c.self.inside.kind c.self.inside.m.field; head = c.self.inside.head; matrix = c.self.inside.m; row_next = c.self.inside.row; place_next = c.self.inside.place } in
    let new : Kept = record { spelling = spelled_by c.self.inside.kind taken.new.m.field; head = c.self.inside.head; matrix = taken.new.m; row_next = taken.result.row; place_next = taken.result.place } in
    let before : StandsForLines old bytes = subst (λ (x : Kept). StandsForLines x bytes) (sym c.self.view_is) stands in
    subst (λ (l : List ℕ). StandsForLines new (bytes ++ l)) (take_all taken.result.len piece (omega arith))
    (lines_more old new bytes (take taken.result.len piece) before (ap (spelled_by c.self.inside.kind) taken.ensures.field) refl taken.ensures.shape_rows taken.ensures.shape_cols (read_on old new (take taken.result.len piece) (ap (spelled_by c.self.inside.kind) taken.ensures.field) taken.ensures.read))
