pub mod FieldLaws
pub mod FieldLemmas
pub mod SumLemmas
pub mod ProductLemmas
pub mod DependenceLemmas
pub mod ShapeLemmas
pub mod EchelonLemmas
pub mod RankLemmas
pub mod RingLemmas
pub mod BlockLemmas
pub mod CutLemmas
pub mod FormLemmas
pub mod SingularLemmas
pub mod ExchangeLemmas
pub mod FactorLemmas
pub mod TriangleLemmas
pub mod EquivalenceLemmas
pub mod StepLemmas
pub mod EliminationLemmas
pub mod MatrixLemmas
pub mod Polynomials
pub mod Division
pub mod Remainder
pub mod FieldProofs
pub mod Gf2Lemmas
pub mod XorLemmas
pub mod RecursionLemmas
pub mod WinogradLemmas
mod Examples
pub mod ExampleTests
mod ExamplesForms
mod TextExamples
mod HeadedExamples
mod GeneratedExamples
