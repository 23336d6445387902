pub mod DivisionSteps
pub mod FactorSteps
pub mod ProductSteps
pub mod WidthLemmas
