pub mod Iterating
pub mod Weeks
pub mod Sums
pub mod DayByDay
pub mod DaysFollowing
pub mod LawfulTerms
pub mod Counting
