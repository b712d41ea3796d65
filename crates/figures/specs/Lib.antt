pub mod Figures
pub mod Periods
pub mod QuarterRecords
pub mod Tables
