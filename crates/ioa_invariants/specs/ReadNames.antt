-- The names of other nodes' variables and of queues that a term reads (profile).
use Rattle.std.specs.Prelude.{ℕ, Bool, false, ◌||◌, if◌then◌else◌, List, [], ◌∷◌, ◌++◌, Result, Ok, Err, codes}
use Rattle.std.specs.List.{list_any}
use Rattle.ioa_values.specs.Outcome.{and_then}
use Rattle.ioa_terms.specs.Bindings.{same_name, same_word}
use Rattle.ioa_terms.specs.declared.name.Name.{Name}
use Rattle.ioa_terms.specs.declared.name.Name.TheVariants.{Word, Variable, Queue}
use Rattle.ioa_terms.specs.PlainTerm.{number, truth, name, one, two, call, display, field, no_terms, term}
use Rattle.ioa_source.specs.Sides.{SourceTerm, SourceTerms}
use Rattle.ioa_refusals.specs.declared.refusal.Refusal.{Refusal}
use Rattle.ioa_refusals.specs.declared.refusal.Refusal.TheVariants.{Sorts}

-- a name, if it is `x@k` or `queue(i, j)`
abbrev pub reading_in : Name → List Name
reading_in (Word w) = []
reading_in (Variable x k) = Variable x k ∷ []
reading_in (Queue i j) = Queue i j ∷ []

abbrev mutual
  -- these names of a term, in the order of their places
  pub names_in : SourceTerm → List Name
  names_in (number n) = []
  names_in (truth b) = []
  names_in (name x at) = reading_in x
  names_in (one op a) = names_in a
  names_in (two op a b) = names_in a ++ names_in b
  names_in (call w c ts) = all_names_in ts
  names_in (display form d ts) = all_names_in ts
  names_in (field a w d) = names_in a

  pub all_names_in : SourceTerms → List Name
  all_names_in no_terms = []
  all_names_in (term t more) = names_in t ++ all_names_in more

-- names with one more behind them, if it is none of them
abbrev pub with_new : List Name → Name → List Name
with_new ns x = if list_any (same_name x) ns then ns else ns ++ x ∷ []

-- names with others behind them, each that is new once
abbrev pub with_all_new : List Name → List Name → List Name
with_all_new ns [] = ns
with_all_new ns (x ∷ more) = with_all_new (with_new ns x) more

-- each of several names once, in the order of their first places
abbrev pub once : List Name → List Name
once xs = with_all_new [] xs

-- whether a function is `queue`
abbrev pub is_queue : List ℕ → Bool
is_queue w = same_word w (codes "queue")

abbrev mutual
  -- whether a term has a call of `queue` that is no name: one of other terms than two numbers
  pub calls_queue : SourceTerm → Bool
  calls_queue (number n) = false
  calls_queue (truth b) = false
  calls_queue (name x at) = false
  calls_queue (one op a) = calls_queue a
  calls_queue (two op a b) = calls_queue a || calls_queue b
  calls_queue (call w c ts) = is_queue w || call_queue ts
  calls_queue (display form d ts) = call_queue ts
  calls_queue (field a w d) = calls_queue a

  -- whether one of several terms has
  pub call_queue : SourceTerms → Bool
  call_queue no_terms = false
  call_queue (term t more) = calls_queue t || call_queue more

-- names with a reading behind them, if it is one and is new
abbrev pub read_name : List Name → Name → List Name
read_name ns (Word w) = ns
read_name ns (Variable x k) = with_new ns (Variable x k)
read_name ns (Queue i j) = with_new ns (Queue i j)

abbrev mutual
  -- names with those behind them that a term reads, each that is new once; no call of `queue` may be left
  pub read_in : List Name → SourceTerm → Result (List Name) Refusal
  read_in ns (number n) = Ok ns
  read_in ns (truth b) = Ok ns
  read_in ns (name x at) = Ok (read_name ns x)
  read_in ns (one op a) = read_in ns a
  read_in ns (two op a b) = and_then (read_in ns a) (λ ms. read_in ms b)
  read_in ns (call w c ts) = if is_queue w then Err Sorts else read_all_in ns ts
  read_in ns (display form d ts) = read_all_in ns ts
  read_in ns (field a w d) = read_in ns a

  pub read_all_in : List Name → SourceTerms → Result (List Name) Refusal
  read_all_in ns no_terms = Ok ns
  read_all_in ns (term t more) = and_then (read_in ns t) (λ ms. read_all_in ms more)
