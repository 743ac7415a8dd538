pub mod Written
pub mod Adds
