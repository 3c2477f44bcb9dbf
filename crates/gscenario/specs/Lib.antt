pub mod ScenarioText
pub mod Faults
pub mod Laws
pub mod steps
