pub mod Checksum
pub mod View
pub mod View6
pub mod Write
