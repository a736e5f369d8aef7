pub mod Answers
pub mod Steps
pub mod Border
