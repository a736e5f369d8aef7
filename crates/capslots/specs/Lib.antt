pub mod Answers
pub mod Table
pub mod Rows
pub mod Transfer
