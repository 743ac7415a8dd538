pub mod Demands
pub mod Plans
