pub mod Held
pub mod Runs
pub mod Calls
