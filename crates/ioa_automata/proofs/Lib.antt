-- the lemmas of this crate
pub mod Loops
pub mod Results
pub mod RuleNames
pub mod Heads
pub mod Sound
pub mod BlockNames
pub mod SoundRules
pub mod Complete
pub mod CheckedAutomata
pub mod DeclaredShapes
pub mod Ready
