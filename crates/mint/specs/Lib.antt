pub mod Generation
pub mod Entry
pub mod Answer
pub mod Entries
pub mod Table
