pub mod LineLemmas
pub mod SimulationLemmas
