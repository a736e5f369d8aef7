pub mod Done
pub mod Operands
pub mod Channels
pub mod Holds
pub mod Rows
pub mod Mints
pub mod Joined
pub mod Apply
