-- what the contracts of this crate and of those above it cite
pub mod Ascent
pub mod Grammar
pub mod Outcome
pub mod Reading
-- the steps of reading, which the attributes `unfolding(..)` name
pub use Rattle.ioa_cursor.specs.Reading.{bind, choose}
