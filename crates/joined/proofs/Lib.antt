pub mod Register
pub mod Ways
pub mod Calls
pub mod Shows
