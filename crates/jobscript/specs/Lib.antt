pub mod Read
pub mod Operands
pub mod Done
pub mod Operations
pub mod Step
