pub mod FirstDecides
