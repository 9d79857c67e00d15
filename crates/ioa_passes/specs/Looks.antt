-- Looks under a pass (profile).
use Rattle.std.specs.Prelude.{ℤ, Option, Some, None, Result, Ok, Err}
use Rattle.ioa_commits.specs.Books.{PlainBook}
use Rattle.ioa_book.specs.Looks.{PlainSnapshot, look_answer}
use Rattle.ioa_book.specs.declared.outcome.LookFault.{LookFault}
use Rattle.ioa_book.specs.declared.outcome.LookFault.TheVariants as look
use Rattle.ioa_passes.specs.Passes.{PlainPass, older, risen_by_look}
use Rattle.ioa_passes.specs.declared.outcome.Older.{Older}
use Rattle.ioa_passes.specs.declared.outcome.ViewFault.{ViewFault}
use Rattle.ioa_passes.specs.declared.outcome.ViewFault.TheVariants as view

-- a look, unless something is older
abbrev pub unless_older : Option Older → PlainSnapshot → Result PlainSnapshot ViewFault
unless_older None s = Ok s
unless_older (Some o) s = Err (view.Older o)

-- a look of the book, under a pass
abbrev pub admitted : PlainPass → Result PlainSnapshot LookFault → Result PlainSnapshot ViewFault
admitted p (Ok s) = unless_older (older p s) s
admitted p (Err look.Memory) = Err view.Memory
admitted p (Err look.Unknown) = Err view.Unknown

-- the result of a look at a node: there may be no such node, or what it shows is older than the pass has seen
abbrev pub view_answer : PlainBook → PlainPass → ℤ → Result PlainSnapshot ViewFault
view_answer b p n = admitted p (look_answer b n)

-- a pass rises to what is seen
abbrev pub pass_after : {E : Type 0} → PlainPass → Result PlainSnapshot E → PlainPass
pass_after p (Ok s) = risen_by_look s p
pass_after p (Err e) = p

-- what a look in its place has told, if it shows this afterwards
abbrev pub told_again : {U E : Type 0} → PlainSnapshot → Result U E → Result PlainSnapshot E
told_again s (Ok u) = Ok s
told_again s (Err e) = Err e
