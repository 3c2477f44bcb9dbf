pub mod Sides
pub mod Dialogues
pub mod Running
pub mod steps
