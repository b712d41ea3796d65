pub mod Requests
pub mod Listing
pub mod Laws
