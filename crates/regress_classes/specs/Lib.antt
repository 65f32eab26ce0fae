pub mod Properties
pub mod ClassProductions
pub mod ClassSets
pub mod ClassViews
