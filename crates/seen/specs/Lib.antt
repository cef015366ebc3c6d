-- What was received.
pub mod Numbers
pub mod Received
