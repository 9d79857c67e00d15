use Rattle.std.proofs.Common.{◌≡◌, ◌++◌, drop}
use Rattle.ioa_types.proofs.all_types.copied_names.Given as goal

-- the names so far, and then those that are left
abbrev pub invariant-loop-word : goal.invariant-loop-word
invariant-loop-word l =
    l.names.items ++ drop l.word-index l.words ≡ l.words
