pub mod Signs
pub mod Perturbed
pub mod Expressions
pub mod Strikes
pub mod Ranges
pub mod Exact
pub mod Turning
pub mod Sizes
