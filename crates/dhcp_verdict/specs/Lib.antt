pub mod OpenAttempt
pub mod PacketVerdict
