pub mod Horizons
