-- That names are resolved is said in one way at most (form).
use Rattle.std.specs.Prelude.{ℕ, List, [], ◌∷◌}
use Rattle.std.specs.List.{AllByRecursion}
use Rattle.std.proofs.Props.{props}
use Rattle.ioa_operators.specs.declared.shape.Shape.{Shape}
use Rattle.ioa_terms.specs.declared.callee.Callee.{Callee}
use Rattle.ioa_terms.specs.PlainTerm as plain
use Rattle.ioa_terms.specs.PlainTerm.{PlainTerm, PlainTerms, name, one, two, call, display, field, no_terms, term}
use Rattle.ioa_terms.specs.PlainTerm.{PlainTarget, variable, at_key, at_field}
use Rattle.ioa_terms.specs.PlainTerm.{PlainStatement, PlainStatements, PlainArms, assign, branch, loop, fire, choosing}
use Rattle.ioa_terms.specs.PlainTerm.{no_statements, statement, no_arms, arm}
use Rattle.ioa_terms.specs.Resolved.{IsCallee, IsResolved, AreTermsResolved, IsResolvedTarget}
use Rattle.ioa_terms.specs.Resolved.{IsResolvedStatement, AreArmsResolved, AreAllResolved}
use Rattle.ioa_terms.specs.declared.name.Name.{Name}
use Rattle.ioa_terms.specs.declared.name.Name.TheVariants.{Word}
use Rattle.ioa_terms.specs.declared.callee.Callee.TheVariants.{Function, Inboxes}

-- what a call is of
IsCallee-prop : (w : List ℕ) (c : Callee) (names : List Name) → IsProp (IsCallee w c names)
IsCallee-prop w (Function f) names = hlevel props
IsCallee-prop w (Inboxes at) names = hlevel props

mutual
  -- a term
  IsResolved-prop : (t : PlainTerm ℕ Callee Shape) (names : List Name) → IsProp (IsResolved t names)
  IsResolved-prop (plain.number n) names = hlevel props
  IsResolved-prop (plain.truth b) names = hlevel props
  IsResolved-prop (name x at) names = hlevel props
  IsResolved-prop (one op a) names = IsResolved-prop a names
  IsResolved-prop (two op a b) names = hlevel (IsResolved-prop a names, IsResolved-prop b names)
  IsResolved-prop (call w c ts) names = hlevel (IsCallee-prop w c names, AreTermsResolved-prop ts names)
  IsResolved-prop (display form d ts) names = AreTermsResolved-prop ts names
  IsResolved-prop (field a w d) names = IsResolved-prop a names

  -- terms
  AreTermsResolved-prop : (ts : PlainTerms ℕ Callee Shape) (names : List Name) → IsProp (AreTermsResolved ts names)
  AreTermsResolved-prop no_terms names = hlevel props
  AreTermsResolved-prop (term t more) names = hlevel (IsResolved-prop t names, AreTermsResolved-prop more names)

-- the arguments of a firing
AllResolved-prop : (ts : List (PlainTerm ℕ Callee Shape)) (names : List Name) → IsProp (AllByRecursion (λ t. IsResolved t names) ts)
AllResolved-prop [] names = hlevel props
AllResolved-prop (t ∷ ts) names = hlevel (IsResolved-prop t names, AllResolved-prop ts names)

-- a target
IsResolvedTarget-prop : (p : PlainTarget ℕ Callee Shape) (variables names : List Name) → IsProp (IsResolvedTarget p variables names)
IsResolvedTarget-prop (variable x at d) variables names = hlevel props
IsResolvedTarget-prop (at_key x at d k) variables names = hlevel (props, IsResolved-prop k names)
IsResolvedTarget-prop (at_field x at d f) variables names = hlevel props

mutual
  -- a statement
  IsResolvedStatement-prop : (s : PlainStatement ℕ Callee Shape) (variables names : List Name) → IsProp (IsResolvedStatement s variables names)
  IsResolvedStatement-prop (assign p t) variables names = hlevel (IsResolvedTarget-prop p variables names, IsResolved-prop t names)
  IsResolvedStatement-prop (branch arms rest) variables names = hlevel (AreArmsResolved-prop arms variables names, AreAllResolved-prop rest variables names)
  IsResolvedStatement-prop (loop t body) variables names = hlevel (IsResolved-prop t names, AreAllResolved-prop body variables names)
  IsResolvedStatement-prop (fire f) variables names = AllResolved-prop f.arguments names
  IsResolvedStatement-prop (choosing c) variables names = hlevel (
    IsResolvedTarget-prop c.target variables names,
    IsResolved-prop c.condition (Word c.name ∷ names),
    IsResolved-prop c.yields names,
  )

  -- arms
  AreArmsResolved-prop : (arms : PlainArms ℕ Callee Shape) (variables names : List Name) → IsProp (AreArmsResolved arms variables names)
  AreArmsResolved-prop no_arms variables names = hlevel props
  AreArmsResolved-prop (arm t body more) variables names = hlevel (IsResolved-prop t names, AreAllResolved-prop body variables names, AreArmsResolved-prop more variables names)

  -- statements
  pub AreAllResolved-prop : (ss : PlainStatements ℕ Callee Shape) (variables names : List Name) → IsProp (AreAllResolved ss variables names)
  AreAllResolved-prop no_statements variables names = hlevel props
  AreAllResolved-prop (statement s more) variables names = hlevel (IsResolvedStatement-prop s variables names, AreAllResolved-prop more variables names)
