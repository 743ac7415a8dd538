pub mod Laws
pub mod Values
pub mod Operation
pub mod Theorem
