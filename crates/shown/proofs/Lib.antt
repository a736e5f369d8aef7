pub mod Few
pub mod Appends
pub mod Read
pub mod Shows
pub mod Padded
