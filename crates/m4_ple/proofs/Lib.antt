pub mod Clearing
pub mod ExchangedColumns
pub mod Exchanges
pub mod FactorParts
pub mod RowByRow
pub mod Echelons
pub mod Eliminated
pub mod WordLemmas
