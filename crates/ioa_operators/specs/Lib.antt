-- what the contracts of this crate and of those above it cite
pub mod TermFaultText
pub mod RangeCheck
pub mod Operators
pub mod CallParts
pub mod Shapes
pub mod ShapeCode
pub mod ShapeHeight
pub mod ShapeKinds
pub mod ShapeView
pub mod PartHeights
pub mod SameShapes
pub mod ShapeEquality
