pub mod Admitting
pub mod Foremost
pub mod HandOut
pub mod LeftOverOrder
pub mod LeftOverOnly
pub mod RunningOnly
