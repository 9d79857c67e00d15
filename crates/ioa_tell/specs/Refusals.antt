-- Why an entry of a schedule that is given is no step (profile).
use Rattle.std.specs.Prelude.{ℕ, List}
use Rattle.ioa_actions.specs.declared.fault.StepFault.{StepFault}
use Rattle.ioa_values.specs.Data.{Data}
use Rattle.ioa_reasons.specs.PlainReasons.{PlainFault, PlainPlace, PlainReason, fault_of, place_of, reason_of}
use Rattle.ioa_reasons.specs.declared.other_const.OtherConst.{OtherConst}
use Rattle.ioa_tell.specs.declared.refusal.Refusal.{Refusal}
use Rattle.ioa_tell.specs.declared.refusal.Refusal.TheVariants as refusal

-- a refusal: the action is not enabled, for this reason; its step meets a fault there; the argument of the parameter of
-- this name is not of its sort; this argument is another value than the `const` of its parameter; or its step has this
-- fault, of which no more is told
pub data PlainRefusal : Type 0 where
  missed : PlainReason → PlainRefusal
  faulted : PlainPlace → PlainFault → PlainRefusal
  unfit : List ℕ → Data → PlainRefusal
  other_const : OtherConst → PlainRefusal
  plain : StepFault → PlainRefusal

-- the same as the code tells it (view)
abbrev pub refusal_of : Refusal → PlainRefusal
refusal_of (refusal.Missed r) = missed (reason_of r)
refusal_of (refusal.Faulted p f) = faulted (place_of p) (fault_of f)
refusal_of (refusal.Unfit w v) = unfit w.now v.now
refusal_of (refusal.OtherConst o) = other_const o.now
refusal_of (refusal.Plain f) = plain f
