-- Rounds of a `while` that change nothing (form): its test is true, and its body comes to its end with no assignment
-- and no `fire`, only tests of `if`s, and of `while`s that are false.
use Rattle.std.specs.Prelude.{ℕ, ◌+◌, Bool, true, false, if◌then◌else◌, Option, Some, None, Result, Ok, Err}
use Rattle.std.specs.Option.{option_and_then}
use Rattle.ioa_operators.specs.declared.shape.Shape.{Shape}
use Rattle.ioa_operators.specs.declared.fault.TermFault.{TermFault}
use Rattle.ioa_terms.specs.declared.callee.Callee.{Callee}
use Rattle.ioa_terms.specs.Bindings.{Bindings}
use Rattle.ioa_terms.specs.PlainTerm.{PlainStatement, PlainStatements, PlainArms}
use Rattle.ioa_terms.specs.PlainTerm.{assign, branch, loop, fire, choosing, no_statements, statement, no_arms, arm}
use Rattle.ioa_terms.specs.Stepwise.{stepwise_test}

-- one of two counts, by the result of a test (form): none if it has no truth value
abbrev pub count_by : Result Bool TermFault → Option ℕ → Option ℕ → Option ℕ
count_by (Ok true) held other = held
count_by (Ok false) held other = other
count_by (Err f) held other = None

abbrev mutual
  -- how many statements are taken behind so many, up to the end of these, if none of them changes anything (form)
  pub quiet_all : PlainStatements ℕ Callee Shape → ℕ → Bindings → Option ℕ
  quiet_all no_statements taken e = Some taken
  quiet_all (statement s rest) taken e = option_and_then (λ n. quiet_all rest n e) (quiet_one s taken e)

  -- the same of one statement, with those that it becomes
  pub quiet_one : PlainStatement ℕ Callee Shape → ℕ → Bindings → Option ℕ
  quiet_one (assign p t) taken e = None
  quiet_one (branch arms others) taken e = quiet_choice arms (quiet_all others (taken + 1) e) (taken + 1) e
  quiet_one (loop t body) taken e = count_by (stepwise_test t e) None (Some (taken + 1))
  quiet_one (fire f) taken e = None
  quiet_one (choosing c) taken e = None

  -- the same of those with which an `if` goes on: the first arm whose test is true, or the rest
  pub quiet_choice : PlainArms ℕ Callee Shape → Option ℕ → ℕ → Bindings → Option ℕ
  quiet_choice no_arms rest taken e = rest
  quiet_choice (arm t body more) rest taken e =
      count_by (stepwise_test t e) (quiet_all body taken e) (quiet_choice more rest taken e)

-- whether the first of these may be one that changes nothing (form)
abbrev pub begins_quietly : PlainStatements ℕ Callee Shape → Bool
begins_quietly no_statements = true
begins_quietly (statement (assign p t) rest) = false
begins_quietly (statement (branch arms others) rest) = true
begins_quietly (statement (loop t body) rest) = true
begins_quietly (statement (fire f) rest) = false
begins_quietly (statement (choosing c) rest) = false

-- whether the first of those with which an `if` goes on may be one that changes nothing (form)
abbrev pub choice_begins_quietly : PlainArms ℕ Callee Shape → Bool → Bool
choice_begins_quietly no_arms rest = rest
choice_begins_quietly (arm t body more) rest = if begins_quietly body then true else choice_begins_quietly more rest

-- whether these may change nothing, by what comes first on each way (form): behind one `if`
abbrev pub may_be_quiet : PlainStatements ℕ Callee Shape → Bool
may_be_quiet no_statements = true
may_be_quiet (statement (assign p t) rest) = false
may_be_quiet (statement (branch arms others) rest) = choice_begins_quietly arms (begins_quietly others)
may_be_quiet (statement (loop t body) rest) = true
may_be_quiet (statement (fire f) rest) = false
may_be_quiet (statement (choosing c) rest) = false

-- how many statements one round of a `while` takes, if it changes nothing (form)
abbrev pub round_by : PlainStatement ℕ Callee Shape → Bindings → Option ℕ
round_by (assign p t) e = None
round_by (branch arms others) e = None
round_by (loop t body) e = count_by (stepwise_test t e) (quiet_all body 1 e) None
round_by (fire f) e = None
round_by (choosing c) e = None

-- the same of the `while` that comes first
abbrev pub round_of : PlainStatements ℕ Callee Shape → Bindings → Option ℕ
round_of no_statements e = None
round_of (statement s rest) e = round_by s e
