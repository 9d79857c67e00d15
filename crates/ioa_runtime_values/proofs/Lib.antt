pub mod BoundedLists
pub mod QueueValues
