-- Lemmas on the shelf in memory.
use Rattle.std.proofs.Common.{◌≡◌, ℕ, ◌+◌, ◌≤◌, List, [], ◌++◌, length, take, drop, Option, Some, sym, ap, subst, ◌∙◌, arith, take-append-drop}
use Rattle.std.proofs.lemmas.List.{drop-drop, length-take-le}
use Rattle.std.proofs.Math.Seq.{take-append_seam}
use Rattle.std.proofs.Math.ListN.{drop_of_length-le}
use Rattle.std.specs.Io.KnownBytes.{Consumes}

-- The front of the written slice is the front of what is left, and what is left after it follows in the file.
pub read_front : (all copied after : List ℕ) (byte count : ℕ) → count ≤ length (drop byte all) → copied ≡ take count (drop byte all)
    → drop byte all ≡ take count (copied ++ after) ++ drop (byte + count) all
read_front all copied after byte count within e =
    let left = drop byte all in
    let long : length copied ≡ count = ap length e ∙ length-take-le count left within in
    let front : take count (copied ++ after) ≡ take count left = ap (λ n. take n (copied ++ after)) (sym long) ∙ take-append_seam copied after ∙ e in
    sym (take-append-drop count left) ∙ ap (λ l. l ++ drop count left) (sym front) ∙ ap (λ l. take count (copied ++ after) ++ l) (drop-drop count byte all)

-- A read moves the front of what is left, and moves nothing only at the end.
pub read_consumes : (old : Option (List ℕ)) (all copied after : List ℕ) (byte count : ℕ) (Room : Type 0)
    → old ≡ Some (drop byte all) → count ≤ length (drop byte all) → copied ≡ take count (drop byte all)
    → (Room → count ≡ 0 → length (drop byte all) ≡ 0)
    → Consumes old (Some (drop (byte + count) all)) (take count (copied ++ after)) × (count ≡ 0 → Room → drop (byte + count) all ≡ [])
read_consumes old all copied after byte count Room left within e end = (
  subst (λ o. Consumes o (Some (drop (byte + count) all)) (take count (copied ++ after))) (sym left) (read_front all copied after byte count within e),
  λ none room.
      let short : length (drop byte all) ≤ count = omega (arith, end room none) in
      sym (drop-drop count byte all) ∙ drop_of_length-le (drop byte all) short,
)
