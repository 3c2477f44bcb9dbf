pub mod ReadingLemmas
pub mod ValueLemmas
pub mod WritingLemmas
