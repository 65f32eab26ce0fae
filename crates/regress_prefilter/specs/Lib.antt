pub mod OneCharacter
pub mod FirstSets
pub mod FirstPairs
pub mod Candidates
pub mod Required
pub mod Literals
pub mod Near
