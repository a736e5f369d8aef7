pub mod Read
pub mod Little
pub mod Lists
pub mod Operands
