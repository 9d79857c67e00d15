pub mod DeclaredNames
pub mod OneSystem
pub mod TextShapes
pub mod TermShapes
pub mod TextSystems
