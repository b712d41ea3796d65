pub mod Rule
pub mod RunningTotal
pub mod LeftOver
pub mod LeftOverLaws
pub mod Nearest
pub mod RunningLaws
pub mod Peaks
