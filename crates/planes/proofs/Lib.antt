pub mod Pixels
pub mod FrameWindows
