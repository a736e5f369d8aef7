pub mod Bytes
pub mod Numbers
pub mod Few
pub mod Records
pub mod Past
pub mod ListWords
