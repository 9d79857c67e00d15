-- what the contracts of this crate and of those above it cite
pub mod NamesInView
pub mod Parts
pub mod Rules
pub mod Schedules
pub mod Automata
pub mod SortedView
pub mod SortedAutomata
pub mod DeclaredShapes
