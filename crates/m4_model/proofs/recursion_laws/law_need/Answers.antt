use Rattle.m4_model.proofs.RecursionLemmas.{need-rises, products-rises, need-level}
use Rattle.m4_model.proofs.recursion_laws.law_need.Goals as goal

pub returns-clause-need : goal.returns-clause-need
returns-clause-need c = need-rises

pub returns-clause-products : goal.returns-clause-products
returns-clause-products c = products-rises

pub returns-clause-level : goal.returns-clause-level
returns-clause-level c = λ m l n cutoff cut. need-level m l n cutoff cut
