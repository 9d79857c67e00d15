-- The sorts of statements (profile): each assigned term has the shape of its target, each test is a truth value, each
-- firing is of an action with its arguments, and each chosen value has a simple shape. Only a schedule block has
-- `while` and `fire`, and only an effect has choices.
use Rattle.std.specs.Prelude.{ℕ, Bool, if◌then◌else◌, List, [], ◌∷◌, Option, Some, None, Result, Ok, Err}
use Rattle.std.specs.Option.{is_some}
use Rattle.ioa_values.specs.Outcome.{and_then}
use Rattle.ioa_operators.specs.Shapes.{PlainShape, truths}
use Rattle.ioa_operators.specs.declared.shape.Shape.{Shape}
use Rattle.ioa_terms.specs.declared.callee.Callee.{Callee}
use Rattle.ioa_terms.specs.declared.name.Name.TheVariants.{Word}
use Rattle.ioa_terms.specs.PlainTerm.{PlainTarget, variable, at_key, at_field, PlainStatement, assign, branch, loop, fire}
use Rattle.ioa_terms.specs.PlainTerm.{PlainChoice, choosing, choice_with}
use Rattle.ioa_terms.specs.PlainTerm.{PlainStatements, no_statements, statement, statements_of, no_arms, arm}
use Rattle.ioa_terms.specs.PlainTerm.{arms_of}
use Rattle.ioa_terms.specs.PlainSort.{PlainSort}
use Rattle.ioa_terms.specs.Sorted.{NameShapes, shape_in_terms, shape_named}
use Rattle.ioa_source.specs.Sides.{SourceTarget, SourceTerm, SourceChoice, SourceStatement, SourceStatements}
use Rattle.ioa_source.specs.Sides.{SourceArms}
use Rattle.ioa_refusals.specs.declared.refusal.Refusal.{Refusal}
use Rattle.ioa_refusals.specs.declared.refusal.Refusal.TheVariants.{Unknown, Twice, Sorts}
use Rattle.ioa_refusals.specs.declared.refusal.Refusal.TheVariants.{ScheduleAssignsState}
use Rattle.ioa_sort_rules.specs.Rows.{entry_of, value_of_field}
use Rattle.ioa_sort_rules.specs.SameSorts.{same_sort}
use Rattle.ioa_typed.specs.Parts.{SortedTerm}
use Rattle.ioa_types.specs.TypeTables.{TypeTable, shape_of_sort}
use Rattle.ioa_sorts.specs.SimpleShapes.{is_simple}
use Rattle.ioa_sorts.specs.Sorting.{fit, sorting}
use Rattle.ioa_names.specs.Views.{declared_at}
use Rattle.ioa_sorts.specs.Firings.{firing_at}
use Rattle.ioa_sorts.specs.StatementSites.{PlainStatementSite}

-- a target with the slot and the declared shape of its variable
abbrev pub SortedTarget : Type 0
SortedTarget = PlainTarget ℕ Callee Shape

-- such statements
abbrev pub SortedStatement : Type 0
SortedStatement = PlainStatement ℕ Callee Shape

abbrev pub SortedStatements : Type 0
SortedStatements = PlainStatements ℕ Callee Shape

-- a target and the shape of what is assigned to it, as it is in a term
pub record PlainTypedTarget : Type 0 where
  pub target : SortedTarget
  pub shape : PlainShape

abbrev pub typed_target : SortedTarget → PlainShape → PlainTypedTarget
typed_target p s = record { target = p; shape = s }

-- the values of results that are all values, or the first refusal
abbrev pub all_ok : {A : Type 0} → List (Result A Refusal) → Result (List A) Refusal
all_ok [] = Ok []
all_ok (r ∷ rs) = and_then r (λ x. and_then (all_ok rs) (λ xs. Ok (x ∷ xs)))

-- the slot and the declared shape of a variable that may be assigned; another variable is one of the state
unfoldable pub assigned_or : (variable other : Option (ℕ × PlainShape)) → Result (ℕ × PlainShape) Refusal
assigned_or (Some p) other = Ok p
assigned_or None (Some q) = Err ScheduleAssignsState
assigned_or None None = Err Unknown

abbrev pub assigned : PlainStatementSite → List ℕ → Result (ℕ × PlainShape) Refusal
assigned s x = assigned_or (declared_at (Word x) s.variables) (declared_at (Word x) s.all_variables)

-- a variable as a whole, its value at a key, and its field
unfoldable pub whole_target : List ℕ → ℕ × PlainShape → PlainTypedTarget
whole_target x p = typed_target (variable x p.0 p.1) (shape_in_terms p.1)

unfoldable pub key_target : NameShapes → List ℕ → SourceTerm → ℕ × PlainShape → Result PlainTypedTarget Refusal
key_target names x k p = and_then (entry_of (shape_in_terms p.1))
    (λ e. and_then (fit (sorting names k) e.other) (λ t. Ok (typed_target (at_key x p.0 p.1 t) e.whole)))

unfoldable pub field_target : List ℕ → List ℕ → ℕ × PlainShape → Result PlainTypedTarget Refusal
field_target x f p = and_then (value_of_field f p.1) (λ s. Ok (typed_target (at_field x p.0 p.1 f) s))

-- a target
abbrev pub target_sorting : PlainStatementSite → SourceTarget → Result PlainTypedTarget Refusal
target_sorting s (variable x at d) = and_then (assigned s x) (λ p. Ok (whole_target x p))
target_sorting s (at_key x at d k) = and_then (assigned s x) (key_target s.names x k)
target_sorting s (at_field x at d f) = and_then (assigned s x) (field_target x f)

-- an assignment: the target first
abbrev pub assignment_sorting : PlainStatementSite → SourceTarget → SourceTerm → Result SortedStatement Refusal
assignment_sorting s p t = and_then (target_sorting s p)
    (λ q. and_then (fit (sorting s.names t) q.shape) (λ v. Ok (assign q.target v)))

-- what only a schedule block has
unfoldable pub if_in_block : {A : Type 0} → Bool → Result A Refusal → Result A Refusal
if_in_block b r = if b then r else Err Unknown

-- what only an effect has
unfoldable pub if_in_effect : {A : Type 0} → Bool → Result A Refusal → Result A Refusal
if_in_effect b r = if b then Err Unknown else r

-- the shape of a sort whose values an effect may choose
unfoldable pub simple_or : PlainShape → Result PlainShape Refusal
simple_or s = if is_simple s then Ok s else Err Sorts

abbrev pub simple_shape : TypeTable → PlainSort → Result PlainShape Refusal
simple_shape types s = and_then (shape_of_sort types s) simple_or

-- the same shape, if it is the one that is asked
unfoldable pub same_or : (found wanted : PlainShape) → Result PlainShape Refusal
same_or s t = if same_sort s t then Ok s else Err Sorts

-- a name, if none in view is the same
unfoldable pub new_name : List ℕ → NameShapes → Result (List ℕ) Refusal
new_name x names = if is_some (shape_named (Word x) names) then Err Twice else Ok x

-- such a choice
abbrev pub SortedChoice : Type 0
SortedChoice = PlainChoice ℕ Callee Shape

-- the condition of a choice and the term that yields its value: only the condition reads the value too
unfoldable pub terms_sorting :
    PlainStatementSite → SourceChoice → SortedTarget → PlainShape → Result SortedChoice Refusal
terms_sorting s c p d = and_then (fit (sorting ((Word c.name, d) ∷ s.names) c.condition) truths)
    (λ t. and_then (fit (sorting s.names c.yields) (shape_in_terms d)) (λ u. Ok (choice_with p c.name c.sort d t u)))

-- a choice, by its target and its shape: the target holds such values, and the name of the value is new
unfoldable pub shape_sorting : PlainStatementSite → SourceChoice → PlainTypedTarget → PlainShape
    → Result SortedChoice Refusal
shape_sorting s c q d = and_then (same_or (shape_in_terms d) q.shape)
    (λ _. and_then (new_name c.name s.names) (λ _. terms_sorting s c q.target d))

-- a choice: its target first, and then its sort
unfoldable pub choice_sorting : PlainStatementSite → SourceChoice → Result SortedChoice Refusal
choice_sorting s c = and_then (target_sorting s c.target)
    (λ q. and_then (simple_shape s.types c.sort) (shape_sorting s c q))

abbrev mutual
  -- a statement: its parts in order
  pub statement_sorting : PlainStatementSite → SourceStatement → Result SortedStatement Refusal
  statement_sorting s (assign p t) = assignment_sorting s p t
  statement_sorting s (branch arms rest) = and_then (all_ok (arm_sortings s arms))
      (λ ts. and_then (all_ok (statement_sortings s rest))
      (λ ss. Ok (branch (arms_of ts) (statements_of ss))))
  statement_sorting s (loop t body) =
      and_then (if_in_block s.in_block (fit (sorting s.names t) truths))
      (λ v. and_then (all_ok (statement_sortings s body)) (λ ss. Ok (loop v (statements_of ss))))
  statement_sorting s (fire f) = and_then (firing_at s.names s.rules f) (λ c. Ok (fire c))
  statement_sorting s (choosing c) =
      and_then (if_in_effect s.in_block (choice_sorting s c)) (λ d. Ok (choosing d))

  -- each of statements
  pub statement_sortings : PlainStatementSite → SourceStatements → List (Result SortedStatement Refusal)
  statement_sortings s no_statements = []
  statement_sortings s (statement u more) = statement_sorting s u ∷ statement_sortings s more

  -- each of arms
  pub arm_sortings : PlainStatementSite → SourceArms → List (Result (SortedTerm × SortedStatements) Refusal)
  arm_sortings s no_arms = []
  arm_sortings s (arm t body more) =
      and_then (fit (sorting s.names t) truths)
      (λ v. and_then (all_ok (statement_sortings s body)) (λ ss. Ok (v, statements_of ss)))
      ∷ arm_sortings s more

-- an arm: its test is a truth value
abbrev pub arm_sorting : PlainStatementSite → SourceTerm × SourceStatements
    → Result (SortedTerm × SortedStatements) Refusal
arm_sorting s a = and_then (fit (sorting s.names a.0) truths)
    (λ v. and_then (all_ok (statement_sortings s a.1)) (λ ss. Ok (v, statements_of ss)))
