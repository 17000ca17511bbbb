pub mod Sums
pub mod Layout
pub mod Reads
pub mod Chains
pub mod Books
pub mod Text
pub mod Answers
