pub mod Guards
pub mod Elements
pub mod Shapes
pub mod LastEnds
pub mod DecidePlaces
pub mod DecideEndpoints
pub mod DecideMailboxes
pub mod Decide
