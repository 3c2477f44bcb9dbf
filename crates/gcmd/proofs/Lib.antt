pub mod ReadingLemmas
pub mod ProgramLemmas
pub mod ServingLemmas
pub mod OutputLemmas
pub mod LinesLemmas
pub mod ReportLemmas
pub mod FetchLemmas
mod PrefixLemmas
