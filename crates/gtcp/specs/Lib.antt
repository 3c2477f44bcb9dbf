pub mod Deadlines
pub mod Telling
pub mod Listing
pub mod Remote
pub mod Sockets
pub mod Places
pub mod steps
