use Rattle.std.proofs.Common.{◌≡◌, ◌++◌, drop}
use Rattle.ioa_names.proofs.scope.Scope.to_words.Given as goal

-- all names are those so far and then those that are left
abbrev pub invariant-loop-name : goal.invariant-loop-name
invariant-loop-name l = l.self ≡ l.words.items ++ drop l.name-index l.name-items
