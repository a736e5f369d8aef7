pub mod Places
pub mod Ways
pub mod Calls
pub mod Few
pub mod Empty
pub mod Forgotten
