pub mod Turns
pub mod Records
pub mod InPlace
pub mod Each
pub mod FirstLent
pub mod StructLent
