pub mod LettersTell
pub mod OneMore
