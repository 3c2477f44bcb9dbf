pub mod Digits
pub mod Partials
pub mod Moves
pub mod Driving
