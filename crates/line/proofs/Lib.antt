pub mod Decimal
pub mod Pieces
pub mod Room
pub mod Says
pub mod Sizes
