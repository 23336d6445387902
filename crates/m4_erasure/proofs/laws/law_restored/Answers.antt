use Rattle.m4_erasure.proofs.Only.{given_back, one_source}
use Rattle.m4_erasure.proofs.laws.law_restored.Goals as goal

pub returns : goal.returns
returns c = record {
  one_source = λ shards a b are of_a of_b. one_source shards are a b of_a of_b;
  given_back = given_back;
}
