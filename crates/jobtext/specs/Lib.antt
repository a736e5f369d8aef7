pub mod Text
pub mod Answer
pub mod Ends
