use Rattle.m4_etext.proofs.Headers.{wrong_letters}
use Rattle.m4_etext.proofs.opening.letters_of.Goals as goal

pub returns-in-Some : goal.returns-in-Some
returns-in-Some c = wrong_letters _ _ _ c.letters_by_fourth-letters.ensures c.in-Some.ensures
