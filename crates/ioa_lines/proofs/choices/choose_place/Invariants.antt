use Rattle.std.proofs.Common.{◌≡◌, ◌+◌, drop}
use Rattle.ioa_lines.specs.Lines.{tokens_of}
use Rattle.ioa_lines.specs.Reading.{choose_place}
use Rattle.ioa_lines.proofs.choices.choose_place.Given as goal

-- no token so far is `choose`
abbrev pub invariant-loop-located : goal.invariant-loop-located
invariant-loop-located l = record {
  passed : choose_place (tokens_of l.tokens) ≡ l.place + choose_place (tokens_of (drop l.located-index l.tokens));
  place : l.place ≡ l.located-index;
}
