use Rattle.std.proofs.Common.{◌≡◌, ◌≢◌, ℕ, ◌<◌, ◌∙◌, List, length, get_or, ⊎_elim, sym, ap, arith, subst}
use Rattle.std.proofs.lemmas.List.{length-map}
use Rattle.std.proofs.lemmas.Bool.{cases_eq}
use Rattle.std.proofs.lemmas.List.Elements.{All-get_or}
use Rattle.m4_model.specs.Matrix.{HasShape, at}
use Rattle.m4_model.proofs.ShapeLemmas.{same_from_entries}
use Rattle.m4_erasure.specs.Shards.{gf256, power}
use Rattle.m4_erasure.specs.Restored.{points_of}
use Rattle.m4_erasure.specs.declared.shard.Shard.{Shard}
use Rattle.m4_erasure.proofs.PowerRows.{at_shard}
use Rattle.m4_erasure.proofs.powers.powers_of_points.Goals as goal

-- as many points as shards
count : (shards : List Shard) → length (points_of shards) ≡ length shards
count shards = length-map shards (λ s. s.x)

pub put_powers-requires-clause-point : goal.put_powers-requires-clause-point
put_powers-requires-clause-point c =
    let shards = c.args.shards.now in
    let here : c.loop-j.j < length (points_of shards) = let n = count shards in omega (arith, n, c.loop-j-test.true) in
    subst (λ (x : ℕ). x < 256) (at_shard (λ s. s.x) 0 shards c.loop-j.j c.index-shards-j.result c.loop-j-test.true c.index-shards-j.is)
    (All-get_or (λ (x : ℕ). x < 256) (points_of shards) c.loop-j.j 0 here c.requires.differing.each)

pub loop-j-preserved : goal.loop-j-preserved
loop-j-preserved c =
    let shards = c.args.shards.now in
    let old = c.loop-j.invariant in
    let new = c.put_powers.ensures in
    let point : get_or (points_of shards) c.loop-j.j 0 ≡ c.index-shards-j.result.x
    = at_shard (λ s. s.x) 0 shards c.loop-j.j c.index-shards-j.result c.loop-j-test.true c.index-shards-j.is in (
      new.field ∙ old.0,
      new.rows ∙ old.1,
      new.cols ∙ old.2,
      λ r i before inside. ⊎_elim
          (λ (same : r ≡ c.loop-j.j).
          ap (λ (s : ℕ). at c.put_powers.new.powers s i) same ∙ new.own i (omega (arith, inside, old.2))
          ∙ ap (λ (x : ℕ). power x i) (sym point ∙ ap (λ (s : ℕ). get_or (points_of shards) s 0) (sym same)))
          (λ (other : r ≢ c.loop-j.j). new.others r i other ∙ old.3 r i (omega (arith, before, other)) inside)
          (cases_eq r c.loop-j.j),
    )

pub returns : goal.returns
returns c =
    let points = points_of c.args.shards.now in
    let n = count c.args.shards.now in
    let shape : HasShape gf256 (length points) (length points) c.loop-j.powers
    = record { is_matrix = c.rows-rows.ensures.matrix; over = c.loop-j.invariant.0; rows = c.loop-j.invariant.1 ∙ sym n; cols = c.loop-j.invariant.2 ∙ sym n } in
    same_from_entries shape (λ j i. power (get_or points j 0) i) (λ j i in_rows in_cols.
    c.loop-j.invariant.3 j i (omega (arith, in_rows, n, c.loop-j-test.false)) (omega (arith, in_cols, n)))
