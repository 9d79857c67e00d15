-- lemmas of runs by one worker
mod Beginnings
mod FreshTurns
mod FreshFires
mod Gains
mod Meets
mod Finishing
mod GoesOn
mod Placed
mod Termination
mod ToldFires
mod ToldRounds
mod ToldTurns
mod Turns
pub mod SettledNodes
mod Rounds
mod SomeVisits
mod Runs
mod SoloRuns
mod OwnStates
mod OwnPrograms
pub mod UpTo
mod Works
pub mod KeptByRuns
