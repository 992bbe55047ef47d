pub mod Ends
pub mod Input
pub mod Job
pub mod Status
pub mod Texts
pub mod Words
