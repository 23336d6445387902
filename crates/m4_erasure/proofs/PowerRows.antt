-- The powers of a point, written into a row of a matrix one by one.
use Rattle.std.proofs.Common.{◌≡◌, ◌≢◌, ℕ, ◌+◌, ◌<◌, List, [], length, get_or, set, map, ⊎_elim, refl, sym, ◌∙◌, ap, arith, add-one}
use Rattle.std.proofs.lemmas.List.{get_or-set_same, get_or-set_other, get_or-map}
use Rattle.std.proofs.lemmas.Bool.{cases_eq}
use Rattle.m4_model.specs.Field.{mul}
use Rattle.m4_model.specs.Matrix.{Matrix, IsMatrix, row, at, with_entry}
use Rattle.m4_erasure.specs.Shards.{gf256, power}
use Rattle.m4_erasure.specs.Powers.{HasPowers}
use Rattle.m4_erasure.specs.declared.shard.Shard.{Shard}

-- what is told of the shard at a place
pub at_shard : {X : Type 0} (f : Shard → X) (e : X) (shards : List Shard) (j : ℕ) (s : Shard) → j < length shards → s ≡ get_or shards j s
    → get_or (map f shards) j e ≡ f s
at_shard f e shards j s inside is = get_or-map f shards j s e inside ∙ ap f (sym is)

-- an entry that is written, and the others
at-written : (A : Matrix) (r c x : ℕ) → r < length A.entries → c < length (row A r) → at (with_entry A r c x) r c ≡ x
at-written A r c x in_rows in_cols =
    ap (λ (xs : List ℕ). get_or xs c 0) (get_or-set_same A.entries r (set (row A r) c x) [] in_rows) ∙ get_or-set_same (row A r) c x 0 in_cols

at-written_beside : (A : Matrix) (r c x j : ℕ) → r < length A.entries → j ≢ c → at (with_entry A r c x) r j ≡ at A r j
at-written_beside A r c x j in_rows other =
    ap (λ (xs : List ℕ). get_or xs j 0) (get_or-set_same A.entries r (set (row A r) c x) [] in_rows) ∙ get_or-set_other (row A r) c j x 0 other

at-written_away : (A : Matrix) (r c x i j : ℕ) → i ≢ r → at (with_entry A r c x) i j ≡ at A i j
at-written_away A r c x i j other = ap (λ (xs : List ℕ). get_or xs j 0) (get_or-set_other A.entries r i (set (row A r) c x) [] other)

pub power-more : (x i : ℕ) → power x (i + 1) ≡ mul gf256 x (power x i)
unfolding power
power-more x i = rw add-one refl

pub powers_none : (x j : ℕ) (A : Matrix) → HasPowers x j 0 A A
powers_none x j A = record {
  field = refl;
  rows = refl;
  cols = refl;
  own = λ i before. absurd (omega (arith, before));
  later = λ i after. refl;
  others = λ r i other. refl;
}

pub powers_more : (x j i p : ℕ) (old now : Matrix) → HasPowers x j i old now → IsMatrix now → j < now.rows → i < now.cols → p ≡ power x i
    → HasPowers x j (i + 1) old (with_entry now j i p)
powers_more x j i p old now so_far matrix in_rows in_cols is =
    let here : j < length now.entries = let h = matrix.height in omega (arith, h, in_rows) in
    let within : i < length (row now j) = let h = matrix.width j in_rows in omega (arith, h, in_cols) in
    record {
      field = so_far.field;
      rows = so_far.rows;
      cols = so_far.cols;
      own = λ c before. ⊎_elim
          (λ (same : c ≡ i). ap (λ (d : ℕ). at (with_entry now j i p) j d) same ∙ at-written now j i p here within ∙ is ∙ ap (power x) (sym same))
          (λ (other : c ≢ i). at-written_beside now j i p c here other ∙ so_far.own c (omega (arith, before, other)))
          (cases_eq c i);
      later = λ c after. at-written_beside now j i p c here (λ same. absurd (omega (arith, same, after))) ∙ so_far.later c (omega (arith, after));
      others = λ r c other. at-written_away now j i p r c other ∙ so_far.others r c other;
    }
