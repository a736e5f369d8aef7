pub mod Pick
pub mod Search
pub mod Every
pub mod Refusals
