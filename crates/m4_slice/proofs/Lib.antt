mod Examples
pub mod JoinLemmas
pub mod JoinedLemmas
pub mod LoadLemmas
pub mod OwnedLemmas
pub mod RunLemmas
pub mod WidthLemmas
