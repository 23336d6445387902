use Rattle.std.proofs.Common.{◌+◌, ◌-◌, ◌/◌, refl}
use Rattle.m4_karatsuba.proofs.CountLemmas.{karatsuba-halves}
use Rattle.m4_karatsuba.proofs.laws.law_products.Goals as goal

pub returns : goal.returns
returns c = λ e some few. karatsuba-halves e ((e + 1) / 2) (e - (e + 1) / 2) some few refl refl
