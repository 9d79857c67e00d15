-- Terms and statements, whatever memory the code keeps them in. Each name has an annotation of type `N`: in a text
-- nothing, in a checked system the slot of the name's value. Each call has an annotation of type `C`: in a text
-- nothing, in a checked system what is called. Each display, field and assigned variable has an annotation of type `D`:
-- in a text nothing, in a checked system a shape.
use Rattle.std.specs.Prelude.{ℕ, ℤ, Bool, List, [], ◌∷◌, Option}
use Rattle.ioa_operators.specs.declared.operator.UnaryOperator.{UnaryOperator}
use Rattle.ioa_operators.specs.declared.operator.BinaryOperator.{BinaryOperator}
use Rattle.ioa_operators.specs.declared.shape.DisplayForm.{DisplayForm}
use Rattle.ioa_terms.specs.declared.name.Name.{Name}
use Rattle.ioa_terms.specs.declared.tree.Kind.{Kind}
use Rattle.ioa_terms.specs.PlainSort.{PlainSort}

mutual
  -- a term (profile): a number, a truth value, a name, an operator before a term or between two terms, a function of
  -- terms, a display, or a field of a term
  pub data PlainTerm (N C D : Type 0) : Type 0 where
    number : ℤ → PlainTerm N C D
    truth : Bool → PlainTerm N C D
    name : Name → N → PlainTerm N C D
    one : UnaryOperator → PlainTerm N C D → PlainTerm N C D
    two : BinaryOperator → PlainTerm N C D → PlainTerm N C D → PlainTerm N C D
    call : List ℕ → C → PlainTerms N C D → PlainTerm N C D
    display : DisplayForm → D → PlainTerms N C D → PlainTerm N C D
    field : PlainTerm N C D → List ℕ → D → PlainTerm N C D
    deriving IsSet as PlainTerm-set

  -- terms one after another
  pub data PlainTerms (N C D : Type 0) : Type 0 where
    no_terms : PlainTerms N C D
    term : PlainTerm N C D → PlainTerms N C D → PlainTerms N C D

abbrev pub terms_of : {N C D : Type 0} → List (PlainTerm N C D) → PlainTerms N C D
terms_of [] = no_terms
terms_of (t ∷ more) = term t (terms_of more)

-- the target of an assignment (profile): a variable, a map's value at a key, or a tuple's field
pub data PlainTarget (N C D : Type 0) : Type 0 where
  variable : List ℕ → N → D → PlainTarget N C D
  at_key : List ℕ → N → D → PlainTerm N C D → PlainTarget N C D
  at_field : List ℕ → N → D → List ℕ → PlainTarget N C D
  deriving IsSet as PlainTarget-set

-- what a schedule block asks for (profile): an action of this name with these arguments, and of this kind if one is
-- written. Beside the name is an annotation: in a text nothing, in a checked system the number of the name's rule.
pub record PlainFiring (N C D : Type 0) : Type 0 where
  pub kind : Option Kind
  pub action : List ℕ
  pub rule : N
  pub arguments : List (PlainTerm N C D)
  deriving IsSet as PlainFiring-set

-- a firing of these parts
abbrev pub firing : {N C D : Type 0} → Option Kind → List ℕ → N → List (PlainTerm N C D) → PlainFiring N C D
firing k a r ts = record { kind = k; action = a; rule = r; arguments = ts }

-- a value that an effect chooses (profile): what is assigned, the name that the value has in the condition, its sort,
-- what has to be true of it, and what gives it if none is given. Beside the sort is an annotation: in a text nothing,
-- in a checked system the shape of the value.
pub record PlainChoice (N C D : Type 0) : Type 0 where
  pub target : PlainTarget N C D
  pub name : List ℕ
  pub sort : PlainSort
  pub shape : D
  pub condition : PlainTerm N C D
  pub yields : PlainTerm N C D
  deriving IsSet as PlainChoice-set

-- a choice of these parts
abbrev pub choice_with : {N C D : Type 0} → PlainTarget N C D → List ℕ → PlainSort → D → PlainTerm N C D → PlainTerm N C D
    → PlainChoice N C D
choice_with p x s d t u = record { target = p; name = x; sort = s; shape = d; condition = t; yields = u }

mutual
  -- a statement (profile): an assignment, or an `if` of arms and the rest; in a schedule block also a `while` of a test
  -- and its body, or a `fire`
  pub data PlainStatement (N C D : Type 0) : Type 0 where
    assign : PlainTarget N C D → PlainTerm N C D → PlainStatement N C D
    branch : PlainArms N C D → PlainStatements N C D → PlainStatement N C D
    loop : PlainTerm N C D → PlainStatements N C D → PlainStatement N C D
    fire : PlainFiring N C D → PlainStatement N C D
    choosing : PlainChoice N C D → PlainStatement N C D
    deriving IsSet as PlainStatement-set

  -- statements one after another
  pub data PlainStatements (N C D : Type 0) : Type 0 where
    no_statements : PlainStatements N C D
    statement : PlainStatement N C D → PlainStatements N C D → PlainStatements N C D

  -- arms, each a test with its statements, one after another
  pub data PlainArms (N C D : Type 0) : Type 0 where
    no_arms : PlainArms N C D
    arm : PlainTerm N C D → PlainStatements N C D → PlainArms N C D → PlainArms N C D

abbrev pub statements_of : {N C D : Type 0} → List (PlainStatement N C D) → PlainStatements N C D
statements_of [] = no_statements
statements_of (s ∷ more) = statement s (statements_of more)

abbrev pub arms_of : {N C D : Type 0} → List (PlainTerm N C D × PlainStatements N C D) → PlainArms N C D
arms_of [] = no_arms
arms_of (a ∷ more) = arm a.0 a.1 (arms_of more)
