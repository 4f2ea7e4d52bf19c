pub mod Decimals
pub mod Cuts
pub mod Shapes
pub mod Unique
