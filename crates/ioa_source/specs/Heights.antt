-- How high the trees of terms and statements are (profile).
use Rattle.std.specs.Prelude.{ℕ, suc, max, List, [], ◌∷◌}
use Rattle.ioa_terms.specs.declared.name.Name.{Name}
use Rattle.ioa_terms.specs.declared.name.Name.TheVariants.{Word, Variable, Queue}
use Rattle.ioa_terms.specs.PlainTerm.{number, truth, name, one, two, call, display, field, no_terms, term}
use Rattle.ioa_terms.specs.PlainTerm.{variable, at_key, at_field}
use Rattle.ioa_terms.specs.PlainTerm.{assign, branch, loop, fire, choosing, no_statements, statement, no_arms, arm, terms_of}
use Rattle.ioa_source.specs.Sides.{SourceTerm, SourceTerms, SourceTarget, SourceStatement, SourceStatements, SourceArms}
use Rattle.ioa_source.specs.declared.height.TheConstants.{HEIGHT_LIMIT}

-- how high a tree may be
abbrev pub height_limit : ℕ
height_limit = HEIGHT_LIMIT

-- the greatest of several heights, 0 if there is none
abbrev pub highest : List ℕ → ℕ
highest [] = 0
highest (h ∷ more) = max h (highest more)

-- a word and `x@k` are leaves, and `queue(i, j)` has two below it
abbrev pub name_height : Name → ℕ
name_height (Word w) = 1
name_height (Variable w k) = 1
name_height (Queue i j) = 2

abbrev mutual
  -- a leaf is 1 high, all else one higher than its highest part; round brackets leave no node in the tree
  pub height : SourceTerm → ℕ
  height (number n) = 1
  height (truth b) = 1
  height (name x at) = name_height x
  height (one op a) = suc (height a)
  height (two op a b) = suc (max (height a) (height b))
  height (call w c ts) = suc (heights ts)
  height (display form shape ts) = suc (heights ts)
  height (field a w shape) = suc (height a)

  -- the highest of several terms
  pub heights : SourceTerms → ℕ
  heights no_terms = 0
  heights (term t more) = max (height t) (heights more)

-- the height of the term in a target, 0 if there is none
abbrev pub target_height : SourceTarget → ℕ
target_height (variable w at shape) = 0
target_height (at_key w at shape t) = height t
target_height (at_field w at shape f) = 0

abbrev mutual
  -- an assignment is as high as its highest part, an `if` and a `while` one higher than their highest part, and a
  -- `fire` as high as its highest argument and at least 1
  pub statement_height : SourceStatement → ℕ
  statement_height (assign p t) = max (target_height p) (height t)
  statement_height (branch arms rest) = suc (max (arms_height arms) (statements_height rest))
  statement_height (loop t body) = suc (max (height t) (statements_height body))
  statement_height (fire f) = max 1 (heights (terms_of f.arguments))
  statement_height (choosing c) = suc (max (target_height c.target) (max (height c.condition) (height c.yields)))

  -- the highest of several statements
  pub statements_height : SourceStatements → ℕ
  statements_height no_statements = 0
  statements_height (statement s more) = max (statement_height s) (statements_height more)

  -- the highest of the tests and statements of several arms
  pub arms_height : SourceArms → ℕ
  arms_height no_arms = 0
  arms_height (arm t ss more) = max (max (height t) (statements_height ss)) (arms_height more)

-- the highest of the test and the statements of an arm
abbrev pub arm_height : SourceTerm × SourceStatements → ℕ
arm_height a = max (height a.0) (statements_height a.1)
