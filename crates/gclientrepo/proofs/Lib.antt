pub mod AskLemmas
pub mod KeepingConnected
pub mod OneSettling
pub mod RefMapLemmas
pub mod Refusals
pub mod RepoLemmas
pub mod SettlingLemmas
