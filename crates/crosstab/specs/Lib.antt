pub mod Cards
pub mod Tables
pub mod Amounts
pub mod Kinds
pub mod SlipLaws
pub mod Stopping
pub mod PeriodLaws
