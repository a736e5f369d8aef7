pub mod Ids
pub mod Rights
pub mod Words
pub mod Few
