pub mod Marks
pub mod Offers
pub mod Walks
pub mod steps
