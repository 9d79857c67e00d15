-- The annotations of trees, in the two forms that they have (form). In a text as it is spelled each is nothing. In a
-- checked system a name has the slot of its value, a call has what is called, and each display, field, assigned
-- variable and declared sort has a shape.
use Rattle.std.specs.Prelude.{ℕ}
use Rattle.ioa_operators.specs.declared.shape.Shape.{Shape}
use Rattle.ioa_terms.specs.declared.callee.Callee.{Callee}
use Rattle.ioa_terms.specs.PlainTerm.{PlainTerm, PlainTerms, PlainTarget, PlainStatement, PlainStatements, PlainArms}
use Rattle.ioa_terms.specs.PlainTerm.{PlainFiring, PlainChoice}
use Rattle.ioa_source.specs.PlainText.{PlainDeclared, PlainParameter, PlainEntry, PlainVariable, PlainTransition}
use Rattle.ioa_source.specs.PlainText.{PlainSchedule, PlainAutomaton, PlainForm, PlainType, PlainDeclaration}
use Rattle.ioa_source.specs.PlainText.{PlainNode, PlainCall, PlainScript, PlainPlacement, PlainInvariant}
use Rattle.ioa_source.specs.PlainText.{PlainText}

-- the trees of a text as it is spelled
abbrev pub SourceTerm : Type 0
SourceTerm = PlainTerm (Unit {0}) (Unit {0}) (Unit {0})

abbrev pub SourceTerms : Type 0
SourceTerms = PlainTerms (Unit {0}) (Unit {0}) (Unit {0})

abbrev pub SourceTarget : Type 0
SourceTarget = PlainTarget (Unit {0}) (Unit {0}) (Unit {0})

abbrev pub SourceStatement : Type 0
SourceStatement = PlainStatement (Unit {0}) (Unit {0}) (Unit {0})

abbrev pub SourceStatements : Type 0
SourceStatements = PlainStatements (Unit {0}) (Unit {0}) (Unit {0})

abbrev pub SourceArms : Type 0
SourceArms = PlainArms (Unit {0}) (Unit {0}) (Unit {0})

abbrev pub SourceChoice : Type 0
SourceChoice = PlainChoice (Unit {0}) (Unit {0}) (Unit {0})

abbrev pub SourceFiring : Type 0
SourceFiring = PlainFiring (Unit {0}) (Unit {0}) (Unit {0})

abbrev pub SourceDeclared : Type 0
SourceDeclared = PlainDeclared (Unit {0})

abbrev pub SourceParameter : Type 0
SourceParameter = PlainParameter (Unit {0}) (Unit {0}) (Unit {0})

abbrev pub SourceEntry : Type 0
SourceEntry = PlainEntry (Unit {0}) (Unit {0}) (Unit {0})

abbrev pub SourceVariable : Type 0
SourceVariable = PlainVariable (Unit {0}) (Unit {0}) (Unit {0})

abbrev pub SourceTransition : Type 0
SourceTransition = PlainTransition (Unit {0}) (Unit {0}) (Unit {0})

abbrev pub SourceSchedule : Type 0
SourceSchedule = PlainSchedule (Unit {0}) (Unit {0}) (Unit {0})

abbrev pub SourceAutomaton : Type 0
SourceAutomaton = PlainAutomaton (Unit {0}) (Unit {0}) (Unit {0})

abbrev pub SourceForm : Type 0
SourceForm = PlainForm (Unit {0})

abbrev pub SourceType : Type 0
SourceType = PlainType (Unit {0})

abbrev pub SourceDeclaration : Type 0
SourceDeclaration = PlainDeclaration (Unit {0}) (Unit {0}) (Unit {0})

abbrev pub SourceNode : Type 0
SourceNode = PlainNode (Unit {0}) (Unit {0}) (Unit {0})

abbrev pub SourceCall : Type 0
SourceCall = PlainCall (Unit {0}) (Unit {0}) (Unit {0})

abbrev pub SourceScript : Type 0
SourceScript = PlainScript (Unit {0}) (Unit {0}) (Unit {0})

abbrev pub SourcePlacement : Type 0
SourcePlacement = PlainPlacement (Unit {0}) (Unit {0}) (Unit {0})

abbrev pub SourceInvariant : Type 0
SourceInvariant = PlainInvariant (Unit {0}) (Unit {0}) (Unit {0})

abbrev pub SourceText : Type 0
SourceText = PlainText (Unit {0}) (Unit {0}) (Unit {0})

-- the trees of a checked system
abbrev pub CheckedTerm : Type 0
CheckedTerm = PlainTerm ℕ Callee Shape

abbrev pub CheckedStatement : Type 0
CheckedStatement = PlainStatement ℕ Callee Shape

abbrev pub CheckedFiring : Type 0
CheckedFiring = PlainFiring ℕ Callee Shape

abbrev pub CheckedDeclared : Type 0
CheckedDeclared = PlainDeclared Shape

abbrev pub CheckedParameter : Type 0
CheckedParameter = PlainParameter ℕ Callee Shape

abbrev pub CheckedEntry : Type 0
CheckedEntry = PlainEntry ℕ Callee Shape

abbrev pub CheckedVariable : Type 0
CheckedVariable = PlainVariable ℕ Callee Shape

abbrev pub CheckedTransition : Type 0
CheckedTransition = PlainTransition ℕ Callee Shape

abbrev pub CheckedSchedule : Type 0
CheckedSchedule = PlainSchedule ℕ Callee Shape
