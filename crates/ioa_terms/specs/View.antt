-- What the trees of the code mean (view).
use Rattle.std.specs.Prelude.{map}
use Rattle.ioa_terms.specs.declared.tree.Tree.{Tree, fold-Tree}
use Rattle.ioa_terms.specs.declared.tree.Tree.TheOpen.{Tree-F}
use Rattle.ioa_terms.specs.declared.tree.Target.{Target}
use Rattle.ioa_terms.specs.declared.tree.Target.TheVariants as target
use Rattle.ioa_terms.specs.declared.tree.Statement.{Statement, fold-Statement}
use Rattle.ioa_terms.specs.declared.tree.Statement.TheOpen.{Statement-F, Arm-F}
use Rattle.ioa_terms.specs.declared.tree.Arm.{Arm, fold-Arm}
use Rattle.ioa_terms.specs.PlainTerm.{PlainTerm, number, truth, name, one, two, call, display, field, terms_of}
use Rattle.ioa_terms.specs.PlainTerm.{PlainTarget, variable, at_key, at_field}
use Rattle.ioa_terms.specs.PlainTerm.{PlainStatement, PlainStatements, assign, branch, loop, fire, choosing}
use Rattle.ioa_terms.specs.PlainTerm.{statements_of, arms_of}
use Rattle.ioa_terms.specs.PlainTerm.{PlainFiring, firing, PlainChoice, choice_with}
use Rattle.ioa_terms.specs.declared.tree.Firing.{Firing}
use Rattle.ioa_terms.specs.declared.tree.Choice.{Choice}
use Rattle.ioa_terms.specs.SortView.{sort_of}

abbrev pub view_step : {N C D : Type 0} → Tree-F N C D (PlainTerm N C D) → PlainTerm N C D
view_step (Tree-F.Number n) = number n
view_step (Tree-F.Truth b) = truth b
view_step (Tree-F.Name w x) = name w x
view_step (Tree-F.One op a) = one op a.value
view_step (Tree-F.Two op a b) = two op a.value b.value
view_step (Tree-F.Call w x ts) = call w x (terms_of ts.items)
view_step (Tree-F.Display form d ts) = display form d (terms_of ts.items)
view_step (Tree-F.Field a w d) = field a.value w d

-- a term
abbrev pub term_of : {N C D : Type 0} → Tree N C D → PlainTerm N C D
term_of {N} {C} {D} = fold-Tree N C D (PlainTerm N C D) view_step

-- a target
abbrev pub target_of : {N C D : Type 0} → Target N C D → PlainTarget N C D
target_of (target.Variable w x d) = variable w x d
target_of (target.At w x d t) = at_key w x d (term_of t)
target_of (target.Field w x d f) = at_field w x d f

-- a firing
abbrev pub firing_of : {N C D : Type 0} → Firing N C D → PlainFiring N C D
firing_of f = firing f.kind f.action f.rule (map term_of f.arguments.items)

-- a choice
abbrev pub choice_of : {N C D : Type 0} → Choice N C D → PlainChoice N C D
choice_of c = choice_with (target_of c.target) c.name (sort_of c.sort) c.shape (term_of c.condition) (term_of c.yields)

abbrev pub statement_step : {N C D : Type 0} →
    Statement-F N C D (PlainStatement N C D) (PlainTerm N C D × PlainStatements N C D) → PlainStatement N C D
statement_step (Statement-F.Assign p t) = assign (target_of p) (term_of t)
statement_step (Statement-F.If arms rest) = branch (arms_of arms.items) (statements_of rest.items)
statement_step (Statement-F.While test body) = loop (term_of test) (statements_of body.items)
statement_step (Statement-F.Fire f) = fire (firing_of f)
statement_step (Statement-F.Choose c) = choosing (choice_of c.value)

abbrev pub arm_step : {N C D : Type 0} →
    Arm-F N C D (PlainStatement N C D) (PlainTerm N C D × PlainStatements N C D)
    → PlainTerm N C D × PlainStatements N C D
arm_step a = (term_of a.test, statements_of a.body.items)

-- a statement
abbrev pub statement_of : {N C D : Type 0} → Statement N C D → PlainStatement N C D
statement_of {N} {C} {D} =
    fold-Statement N C D (PlainStatement N C D) (PlainTerm N C D × PlainStatements N C D) statement_step arm_step

-- an arm: its test and its statements
abbrev pub arm_of : {N C D : Type 0} → Arm N C D → PlainTerm N C D × PlainStatements N C D
arm_of {N} {C} {D} =
    fold-Arm N C D (PlainStatement N C D) (PlainTerm N C D × PlainStatements N C D) statement_step arm_step
