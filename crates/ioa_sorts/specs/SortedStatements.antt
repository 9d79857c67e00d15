-- A statement of a text with slots and shapes (profile): what the rules of sorts find, in words that know nothing of
-- the rules.
use Rattle.std.specs.Prelude.{◌≡◌, ℕ, true, false, List, ◌∷◌, Option, Some, None, map, slice_get}
use Rattle.std.specs.List.{AllByRecursion, AllZip}
use Rattle.std.specs.Option.{option_map}
use Rattle.ioa_operators.specs.Shapes.{PlainShape, truths, maps}
use Rattle.ioa_operators.specs.declared.shape.Shape.{Shape}
use Rattle.ioa_terms.specs.declared.callee.Callee.{Callee}
use Rattle.ioa_terms.specs.declared.name.Name.TheVariants.{Word}
use Rattle.ioa_terms.specs.declared.tree.Kind.{Kind}
use Rattle.ioa_terms.specs.PlainTerm.{PlainTarget, variable, at_key, at_field, PlainStatement, assign, branch, loop, fire}
use Rattle.ioa_terms.specs.PlainTerm.{PlainChoice, choosing}
use Rattle.ioa_terms.specs.PlainTerm.{PlainStatements, no_statements, statement, PlainArms, no_arms, arm}
use Rattle.ioa_terms.specs.Resolved.{IsResolvedStatement}
use Rattle.ioa_terms.specs.Sorted.{NameShapes, HasShape, shape_named, shape_in_terms, field_shape}
use Rattle.ioa_source.specs.Erasure.{erase_statement}
use Rattle.ioa_source.specs.Sides.{SourceTarget, SourceStatement, SourceStatements, SourceArms, CheckedFiring}
use Rattle.ioa_system.specs.Parts.{PlainRule}
use Rattle.ioa_sorts.specs.Determined.{IsDetermined}
use Rattle.ioa_sorts.specs.SimpleShapes.{IsSimple}
use Rattle.ioa_sorts.specs.StatementSites.{PlainStatementSite}
use Rattle.ioa_types.specs.Meanings.{Means}

-- a target holds values of a shape, in which naturals count as integers: it is a variable of that shape, the values
-- of a map, or a field, and beside it is the variable's declared shape
abbrev pub HoldsShape : NameShapes → NameShapes → PlainTarget ℕ Callee Shape → PlainShape → Type 0
HoldsShape variables names (variable x at d) s = (shape_named (Word x) variables ≡ Some d) × (s ≡ shape_in_terms d)
HoldsShape variables names (at_key x at d k) s =
    (keys : PlainShape) × (shape_named (Word x) variables ≡ Some d)
    × (shape_in_terms d ≡ maps keys s) × HasShape names k keys
HoldsShape variables names (at_field x at d f) s =
    (shape_named (Word x) variables ≡ Some d) × (option_map shape_in_terms (field_shape f d) ≡ Some s)

-- a firing's kind, if it is written, is that of an entry
abbrev pub NamesKind : Option Kind → Kind → Type 0
NamesKind None k = Unit {0}
NamesKind (Some j) k = j ≡ k

-- a firing is of the rule of its number, which has its name and kind, and its arguments have the shapes of the rule's,
-- in which naturals count as integers
pub record IsFired (names : NameShapes) (rules : List PlainRule) (f : CheckedFiring) : Type 0 where
  pub rule : PlainRule
  pub numbered : slice_get rules f.rule ≡ Some rule
  pub same_name : rule.entry.name ≡ f.action
  pub of_kind : NamesKind f.kind rule.entry.kind
  pub arguments : AllZip (λ s t. HasShape names t (shape_in_terms s)) rule.shapes f.arguments

-- a choice stands in an effect; its sort means a simple shape, which its target holds, in which naturals count as
-- integers; the name of its value is new, and stands in front where the condition is read, which is a truth value; what
-- it yields is read without that name, and has the shape
pub record IsChoiceSorted (s : PlainStatementSite) (c : PlainChoice ℕ Callee Shape) : Type 0 where
  pub outside : s.in_block ≡ false
  pub means : Means s.types c.sort c.shape
  pub simple : IsSimple c.shape
  pub target : HoldsShape s.variables s.names c.target (shape_in_terms c.shape)
  pub new : shape_named (Word c.name) s.names ≡ None
  pub condition : HasShape ((Word c.name, c.shape) ∷ s.names) c.condition truths
  pub yields : HasShape s.names c.yields (shape_in_terms c.shape)

abbrev mutual
  -- what a statement assigns has the shape of the target, what it tests is a truth value, what it fires is an action
  -- with its arguments, and what it chooses has a simple shape
  pub IsSorted : PlainStatementSite → PlainStatement ℕ Callee Shape → Type 0
  IsSorted s (assign p t) = (u : PlainShape) × HoldsShape s.variables s.names p u × HasShape s.names t u
  IsSorted s (branch arms rest) = AreArmsSorted s arms × AreSorted s rest
  IsSorted s (loop t body) = (s.in_block ≡ true) × HasShape s.names t truths × AreSorted s body
  IsSorted s (fire f) = IsFired s.names s.rules f
  IsSorted s (choosing c) = IsChoiceSorted s c

  pub AreArmsSorted : PlainStatementSite → PlainArms ℕ Callee Shape → Type 0
  AreArmsSorted s no_arms = Unit {0}
  AreArmsSorted s (arm t body more) = HasShape s.names t truths × AreSorted s body × AreArmsSorted s more

  pub AreSorted : PlainStatementSite → PlainStatements ℕ Callee Shape → Type 0
  AreSorted s no_statements = Unit {0}
  AreSorted s (statement u more) = IsSorted s u × AreSorted s more

-- the sort of each display in a target is determined
abbrev pub IsDeterminedTarget : SourceTarget → Type 0
IsDeterminedTarget (variable x at d) = Unit {0}
IsDeterminedTarget (at_key x at d k) = IsDetermined k
IsDeterminedTarget (at_field x at d f) = Unit {0}

abbrev mutual
  -- and in statements
  pub IsDeterminedStatement : SourceStatement → Type 0
  IsDeterminedStatement (assign p t) = IsDeterminedTarget p × IsDetermined t
  IsDeterminedStatement (branch arms rest) = AreArmsDetermined arms × AreStatementsDetermined rest
  IsDeterminedStatement (loop t body) = IsDetermined t × AreStatementsDetermined body
  IsDeterminedStatement (fire f) = AllByRecursion IsDetermined f.arguments
  IsDeterminedStatement (choosing c) = IsDeterminedTarget c.target × IsDetermined c.condition × IsDetermined c.yields

  pub AreArmsDetermined : SourceArms → Type 0
  AreArmsDetermined no_arms = Unit {0}
  AreArmsDetermined (arm t body more) = IsDetermined t × AreStatementsDetermined body × AreArmsDetermined more

  pub AreStatementsDetermined : SourceStatements → Type 0
  AreStatementsDetermined no_statements = Unit {0}
  AreStatementsDetermined (statement s more) = IsDeterminedStatement s × AreStatementsDetermined more

-- the statement is the text's, without slots and shapes; each name has its slot, and each assigned variable is one of
-- the variables; the sorts are right
pub record IsStatementOf (s : PlainStatementSite) (source : SourceStatement) (found : PlainStatement ℕ Callee Shape)
    : Type 0 where
  pub same : erase_statement found ≡ source
  pub resolved : IsResolvedStatement found (map (λ n. n.0) s.variables) (map (λ n. n.0) s.names)
  pub sorted : IsSorted s found
  pub determined : IsDeterminedStatement source
