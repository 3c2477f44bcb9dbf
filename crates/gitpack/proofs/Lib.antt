pub mod NumberLemmas
pub mod EntryLemmas
pub mod HeadLemmas
pub mod DeltaLemmas
pub mod IndexLemmas
pub mod ArrivingLemmas
pub mod SortLemmas
pub mod RowLemmas
