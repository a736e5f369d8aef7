pub mod Id
pub mod Rights
pub mod Slot
pub mod Word
