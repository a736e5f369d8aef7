pub mod Places
pub mod Rings
pub mod Tests
