pub mod Opens
pub mod Serving
pub mod Fitting
pub mod Joining
pub mod Shaping
