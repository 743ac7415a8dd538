pub mod Laws
pub mod Reading
pub mod Building
pub mod Parts
pub mod Theorem
