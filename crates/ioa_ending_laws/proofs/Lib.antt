pub mod MetNodes
pub mod NumberedFaults
