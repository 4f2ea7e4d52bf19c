pub mod Progress
pub mod Written
pub mod OneVerdict
pub mod Grammar
pub mod Passing
pub mod Parts
pub mod Jobs
