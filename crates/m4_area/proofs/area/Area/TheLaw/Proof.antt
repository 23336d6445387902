-- A `&` to an `Area` shares its words. Assumes `Logic`.
use denote.Struct.Lending.{of_Lends}
use Rattle.m4_area.specs.contracts.area.Area as C
use Rattle.m4_area.proofs.Loans.{strided-laws, strided-lends}
use Rattle.m4_area.proofs.area.Area.TheLaw.Statement.{statement}

pub shares : statement
shares =
    of_Lends C.struct C.the_codes C.the_heap C.the_lent (λ d p. strided-laws d.block d.first d.step d.rows) tt
    (λ M 𝓤 𝓛 d p. strided-lends 𝓛 (C.the_row).lives d.block d.first d.step d.rows)
