-- what the contracts of this crate and of those above it cite
pub mod Sorting
pub mod SortingView
pub mod Determined
pub mod SortedTerms
pub mod SimpleShapes
pub mod StatementSites
pub mod Firings
pub mod SiteView
pub mod Statements
pub mod SortedStatements
