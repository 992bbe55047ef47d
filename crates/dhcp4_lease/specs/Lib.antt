pub mod Config
pub mod Laws
pub mod Lease
pub mod MessageTable
pub mod Setter
