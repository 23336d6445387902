use Rattle.std.proofs.Common.{ℕ, List, sym, subst, IfErr}
use Rattle.m4_model.specs.Headed.{HasHeader}
use Rattle.m4_etext.specs.Parsed.{spelling_of}
use Rattle.m4_etext.specs.Standing.{IsFaultOf}
use Rattle.m4_etext.specs.declared.opening.Opening.{Opening}
use Rattle.m4_etext.proofs.base.base_of.Goals as goal

pub returns-in-Elements-clause-err : goal.returns-in-Elements-clause-err
returns-in-Elements-clause-err c =
    subst (λ (o : Opening). IfErr c.extension_of.result (λ fault. (bytes : List ℕ) (m n : ℕ) → HasHeader bytes (spelling_of o) m n → IsFaultOf bytes fault)) (sym c.in-Elements.is) c.extension_of.ensures.err
