use Rattle.std.proofs.Common.{◌≡◌, ◌++◌, drop}
use Rattle.ioa_tokens.specs.declared.mark.Mark.TheVariants as mark
use Rattle.ioa_front.specs.Spelling.{separated_spelling, word_spelling}
use Rattle.ioa_front.specs.Listing.{items_left}
use Rattle.ioa_front.proofs.declarations.put_words.Given as goal

-- what is put so far and the names that are left are all of them
abbrev pub invariant-loop-word : goal.invariant-loop-word
invariant-loop-word l =
    l.out ++ items_left mark.Comma word_spelling l.first (drop l.word-index l.words) ≡ l.initial.out ++ separated_spelling mark.Comma word_spelling l.words
