-- what the contracts of this crate and of those above it cite
pub mod Grammar
pub mod Levels
pub mod Reading
pub mod Spelling
-- the steps of reading, which the attributes `unfolding(..)` name
pub use Rattle.ioa_cursor.specs.Reading.{bind, choose}
