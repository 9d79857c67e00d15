-- what the contracts of this crate and of those above it cite
pub mod Faulted
pub mod Faulty
pub mod Found
pub mod FoundFaults
pub mod FoundUnfit
pub mod Misfits
pub mod OtherConsts
pub mod PlainReasons
pub mod Reasons
pub mod Stopping
pub mod Stops
pub mod Stuck
pub mod Tests
pub mod Unfit
