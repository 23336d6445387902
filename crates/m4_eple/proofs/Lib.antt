pub mod SwapLemmas
pub mod StepParts
pub mod TableLemmas
pub mod MoveLemmas
pub mod HalvesLemmas
pub mod PivotLemmas
pub mod GatherLemmas
pub mod ClearingLemmas
