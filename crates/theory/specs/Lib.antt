pub mod Flat
pub mod Making
pub mod Building
