pub mod Step
pub mod Run
pub mod Border
pub mod Text
pub mod Replay
pub mod Ends
