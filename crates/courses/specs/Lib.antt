pub mod Courses
pub mod Steps
pub mod Bottoms
pub mod Claims
