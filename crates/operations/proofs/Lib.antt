pub mod Packs
pub mod Explains
pub mod New
pub mod Keeps
pub mod Matches
pub mod Applied
