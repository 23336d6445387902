pub mod RunLemmas
pub mod StepLemmas
pub mod BasisLemmas
mod PartLemmas
mod FileLemmas
mod OnesLemmas
