pub mod Ranges
pub mod Sums
pub mod Frames
pub mod Busy
pub mod Serving
pub mod Shaping
pub mod Steps
pub mod Bottoms
