pub mod Crc
pub mod Adler
pub mod Stored
pub mod Inflate
pub mod Faults
pub mod Deflate
pub mod steps
