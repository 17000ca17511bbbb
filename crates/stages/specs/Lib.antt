pub mod Opens
pub mod ServerViews
pub mod ShaperViews
pub mod JoinViews
pub mod Servers
pub mod Joins
pub mod Shapers
