pub mod Kept
pub mod Accepted
pub mod Beats
pub mod Laters
pub mod Views
