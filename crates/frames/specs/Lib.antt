pub mod Types
pub mod Frequency
pub mod Immediate
pub mod Ack
pub mod Exactly
pub mod EachWay
