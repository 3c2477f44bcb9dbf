pub mod StoringLemmas
