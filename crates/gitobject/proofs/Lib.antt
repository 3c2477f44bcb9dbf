pub mod Cutting
pub mod Words
pub mod Heads
pub mod Octal
pub mod EntryLemmas
pub mod Readings
