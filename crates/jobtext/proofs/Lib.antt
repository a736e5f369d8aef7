pub mod Saids
pub mod Filling
pub mod Tells
pub mod Runs
pub mod Parts
pub mod Printed
pub mod Progress
pub mod Ends
