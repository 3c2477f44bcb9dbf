pub mod CrcLemmas
pub mod AdlerLemmas
pub mod StoredLemmas
pub mod KeepsLemmas
pub mod CrcTables
