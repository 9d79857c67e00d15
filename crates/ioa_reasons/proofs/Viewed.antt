-- What the tests of a rule see: the laws of views of ioa_transitions.
pub use Rattle.ioa_transitions.proofs.Arguments.{condition_valued, condition_values, step_named, step_own}
