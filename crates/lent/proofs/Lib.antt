pub mod Registering
pub mod Finding
pub mod Agree
pub mod AsWords
