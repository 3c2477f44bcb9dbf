pub mod Filling
pub mod Answering
pub mod Stepping
pub mod RefLines
pub mod Connections
pub mod Lending
pub mod Recording
