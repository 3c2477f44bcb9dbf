pub mod Answers
pub mod Clean
pub mod Commands
pub mod Faults
pub mod Numbers
pub mod Served
pub mod Urls
