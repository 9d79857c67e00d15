-- what the contracts of this crate and of those above it cite
pub mod Built
pub mod Grammar
pub mod Groups
pub mod Reading
-- the steps of reading, which the attributes `unfolding(..)` name
pub use Rattle.ioa_cursor.specs.Reading.{bind, choose}
