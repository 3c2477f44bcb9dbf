pub mod JoinLemmas
pub mod RunLemmas
pub mod PairLemmas
