pub mod Times
pub mod Fits
