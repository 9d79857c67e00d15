use Rattle.std.proofs.Common.{◌≡◌, ◌++◌, map, drop}
use Rattle.ioa_tokens.specs.declared.mark.Mark.TheVariants as mark
use Rattle.ioa_source.specs.TextView.{call_of}
use Rattle.ioa_front.specs.Spelling.{one_call_spelling, calls_spelling}
use Rattle.ioa_front.specs.Listing.{items_left}
use Rattle.ioa_front.proofs.texts.put_calls.Given as goal

-- what is put so far and the calls that are left are all of them
abbrev pub invariant-loop-call : goal.invariant-loop-call
invariant-loop-call l =
    l.out ++ items_left mark.Comma one_call_spelling l.first (map call_of (drop l.call-index l.calls)) ≡ l.initial.out ++ calls_spelling (map call_of l.calls)
