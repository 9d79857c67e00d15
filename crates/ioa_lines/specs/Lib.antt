-- what the contracts of this crate cite
pub mod Grammar
pub mod Reading
pub mod LineFaults
pub mod Lines
-- the steps of reading, which the attributes `unfolding(..)` name
pub use Rattle.ioa_cursor.specs.Reading.{bind, choose, word}
pub use Rattle.ioa_value_reader.specs.Reading.{between, read_parts}
