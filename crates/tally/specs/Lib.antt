pub mod Count
pub mod Runs
pub mod Tally
pub mod Needed
