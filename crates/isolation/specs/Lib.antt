pub mod Runs
pub mod Jobs
pub mod Own
pub mod Bindings
pub mod Closing
pub mod Isolation
pub mod AsCalls
pub mod Waits
