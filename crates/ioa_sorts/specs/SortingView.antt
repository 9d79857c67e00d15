-- What the code of targets means (view).
use Rattle.ioa_terms.specs.View.{target_of}
use Rattle.ioa_sorts.specs.declared.targets.TypedTarget.{TypedTarget}
use Rattle.ioa_sorts.specs.Statements.{PlainTypedTarget, typed_target}

-- a target and the shape of what is assigned to it
abbrev pub typed_target_of : TypedTarget → PlainTypedTarget
typed_target_of t = typed_target (target_of t.target) t.shape
