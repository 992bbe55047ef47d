pub mod Drawing
pub mod EventDraws
pub mod PollDraws
pub mod Table4
pub mod Table6
mod WorkedLimits
