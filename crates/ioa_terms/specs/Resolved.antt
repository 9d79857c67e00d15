-- Terms and statements whose names are resolved (profile): each is annotated with the slot of its value.
use Rattle.std.specs.Prelude.{◌≡◌, ◌∷◌, ℕ, true, List, Some, None}
use Rattle.std.specs.List.{AllByRecursion}
use Rattle.ioa_operators.specs.Operators.{function_named}
use Rattle.ioa_terms.specs.declared.callee.Callee.{Callee}
use Rattle.ioa_terms.specs.declared.name.Name.{Name}
use Rattle.ioa_terms.specs.declared.name.Name.TheVariants.{Word}
use Rattle.ioa_terms.specs.declared.callee.Callee.TheVariants.{Function, Inboxes}
use Rattle.ioa_terms.specs.Bindings.{slot_in}
use Rattle.ioa_terms.specs.Inboxes.{inboxes_word}
use Rattle.ioa_terms.specs.Meaning.{is_inbox_word}
use Rattle.ioa_terms.specs.PlainTerm as plain
use Rattle.ioa_terms.specs.PlainTerm.{PlainTerm, PlainTerms, name, one, two, call, display, field, no_terms, term}
use Rattle.ioa_terms.specs.PlainTerm.{PlainTarget, variable, at_key, at_field}
use Rattle.ioa_terms.specs.PlainTerm.{PlainStatement, PlainStatements, PlainArms, assign, branch, loop, fire, choosing}
use Rattle.ioa_terms.specs.PlainTerm.{PlainFiring, PlainChoice}
use Rattle.ioa_terms.specs.PlainTerm.{no_statements, statement, no_arms, arm}

-- what a call is of (profile): the function of its name, or, if it is of `inbox`, the inboxes at their slot among the
-- names in view
abbrev pub IsCallee : List ℕ → Callee → List Name → Type 0
IsCallee w (Function f) names = function_named w ≡ Some f
IsCallee w (Inboxes at) names =
    (function_named w ≡ None) × (is_inbox_word w ≡ true) × (slot_in (Word inboxes_word) names ≡ Some at)

abbrev mutual
  -- each name of a term has the slot of that name among the names in view: the first, if it is there twice; and each
  -- call bears what it is of
  pub IsResolved : {D : Type 0} → PlainTerm ℕ Callee D → List Name → Type 0
  IsResolved (plain.number n) names = Unit {0}
  IsResolved (plain.truth b) names = Unit {0}
  IsResolved (name x at) names = slot_in x names ≡ Some at
  IsResolved (one op a) names = IsResolved a names
  IsResolved (two op a b) names = IsResolved a names × IsResolved b names
  IsResolved (call w c ts) names = IsCallee w c names × AreTermsResolved ts names
  IsResolved (display form d ts) names = AreTermsResolved ts names
  IsResolved (field a w d) names = IsResolved a names

  -- the same of each of terms
  pub AreTermsResolved : {D : Type 0} → PlainTerms ℕ Callee D → List Name → Type 0
  AreTermsResolved no_terms names = Unit {0}
  AreTermsResolved (term t more) names = IsResolved t names × AreTermsResolved more names

-- the same of a target, which is a variable or a part of one, and of its key
abbrev pub IsResolvedTarget : {D : Type 0} → PlainTarget ℕ Callee D → List Name → List Name → Type 0
IsResolvedTarget (variable x at d) variables names = slot_in (Word x) variables ≡ Some at
IsResolvedTarget (at_key x at d k) variables names = (slot_in (Word x) variables ≡ Some at) × IsResolved k names
IsResolvedTarget (at_field x at d f) variables names = slot_in (Word x) variables ≡ Some at

-- the same of the arguments of a firing
abbrev pub IsResolvedFiring : {D : Type 0} → PlainFiring ℕ Callee D → List Name → Type 0
IsResolvedFiring f names = AllByRecursion (λ t. IsResolved t names) f.arguments

-- the same of a choice: its condition reads the value too, under a name that stands in front
abbrev pub IsResolvedChoice : {D : Type 0} → PlainChoice ℕ Callee D → List Name → List Name → Type 0
IsResolvedChoice c variables names =
    IsResolvedTarget c.target variables names × IsResolved c.condition (Word c.name ∷ names) × IsResolved c.yields names

abbrev mutual
  -- the same of a statement: what it assigns are variables, and what it reads are names in view
  pub IsResolvedStatement : {D : Type 0} → PlainStatement ℕ Callee D → List Name → List Name → Type 0
  IsResolvedStatement (assign p t) variables names = IsResolvedTarget p variables names × IsResolved t names
  IsResolvedStatement (branch arms rest) variables names =
      AreArmsResolved arms variables names × AreAllResolved rest variables names
  IsResolvedStatement (loop t body) variables names = IsResolved t names × AreAllResolved body variables names
  IsResolvedStatement (fire f) variables names = IsResolvedFiring f names
  IsResolvedStatement (choosing c) variables names = IsResolvedChoice c variables names

  -- the same of each arm
  pub AreArmsResolved : {D : Type 0} → PlainArms ℕ Callee D → List Name → List Name → Type 0
  AreArmsResolved no_arms variables names = Unit {0}
  AreArmsResolved (arm t body more) variables names =
      IsResolved t names × AreAllResolved body variables names × AreArmsResolved more variables names

  -- the same of each of statements
  pub AreAllResolved : {D : Type 0} → PlainStatements ℕ Callee D → List Name → List Name → Type 0
  AreAllResolved no_statements variables names = Unit {0}
  AreAllResolved (statement s more) variables names =
      IsResolvedStatement s variables names × AreAllResolved more variables names

-- the same of statements in a list
abbrev pub AreResolved : {D : Type 0} → List (PlainStatement ℕ Callee D) → List Name → List Name → Type 0
AreResolved ss variables names = AllByRecursion (λ s. IsResolvedStatement s variables names) ss
