-- What is told of no fault, and of one fault more.
use Rattle.std.proofs.Common.{◌≡◌, ◌++◌, List, [], ℕ, subst, sym}
use Rattle.ioa_explain.specs.FurtherFaults.{AreFaults, TellsFault, TellsFurther, no_faults, one_more}

-- what is told of faults, and then of another one
pub grown : (name text before page after : List ℕ) → after ≡ before ++ page → AreFaults name text before
    → TellsFault name text page → AreFaults name text after
grown name text before page after same are told =
    subst (λ l. AreFaults name text l) (sym same) (one_more before page are told)

-- what is told of no fault
pub none_yet : (name text page : List ℕ) → page ≡ [] → AreFaults name text page
none_yet name text page same = subst (λ l. AreFaults name text l) (sym same) no_faults

pub nothing_further : (name text page : List ℕ) → page ≡ [] → TellsFurther name text page
nothing_further name text page same =
    record { faults = []; are = no_faults; hidden = 0; told = same }
