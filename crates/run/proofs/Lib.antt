pub mod Laws
pub mod Operation
