pub mod Dates
pub mod Weekdays
pub mod Hours
pub mod BillingPeriods
pub mod Laws
pub mod Counts
