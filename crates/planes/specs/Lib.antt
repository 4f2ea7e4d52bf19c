pub mod Planes
pub mod Stores
pub mod Rowwise
pub mod Linear
pub mod Packed
pub mod Frames
