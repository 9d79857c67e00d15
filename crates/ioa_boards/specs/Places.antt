-- Looks that are put into their place (profile).
use Rattle.std.specs.Prelude.{◌≡◌, ◌⊎◌, ℤ, Option, Some, None, Result, Ok, Err}
use Rattle.ioa_book.specs.Looks.{PlainSnapshot}
use Rattle.ioa_commits.specs.Books.{PlainBook}
use Rattle.ioa_passes.specs.Looks.{view_answer}
use Rattle.ioa_passes.specs.Passes.{PlainPass, risen_by_look}
use Rattle.ioa_shared.specs.SomeBook.{LooksAtSome}
use Rattle.ioa_system.specs.Systems.{SystemParts}
use Rattle.ioa_passes.specs.declared.outcome.ViewFault.{ViewFault}
use Rattle.ioa_passes.specs.declared.outcome.ViewFault.TheVariants.{Memory}

-- a look at some lawful book that begins at the start of a system is in its place, and the pass has risen to it
pub record SeesSome (s : SystemParts) (p : PlainPass) (n : ℤ) (place : Option PlainSnapshot) (q : PlainPass) : Type 0
  where
    pub seen : PlainSnapshot
    pub put : place ≡ Some seen
    pub some : LooksAtSome s p n (Ok seen)
    pub risen : q ≡ risen_by_look seen p

-- what comes of a look that is to be put there: after a fault the pass is as it was
abbrev pub PutsSome :
    {U : Type 0} → SystemParts → PlainPass → ℤ → Option PlainSnapshot → PlainPass → Result U ViewFault → Type 0
PutsSome s p n place q (Ok u) = SeesSome s p n place q
PutsSome s p n place q (Err f) = LooksAtSome s p n (Err f) × (q ≡ p)

-- a look at this book is in its place
pub record Sees (b : PlainBook) (p : PlainPass) (n : ℤ) (place : Option PlainSnapshot) : Type 0 where
  pub seen : PlainSnapshot
  pub put : place ≡ Some seen
  pub answer : view_answer b p n ≡ Ok seen

-- what comes of a look at this book that is to be put there
abbrev pub Puts : {U : Type 0} → PlainBook → PlainPass → ℤ → Option PlainSnapshot → Result U ViewFault → Type 0
Puts b p n place (Ok u) = Sees b p n place
Puts b p n place (Err f) = (f ≡ Memory) ⊎ (view_answer b p n ≡ Err f)

-- two looks show the same: they are at one node, and have read the same of the same components
pub record ShowsSame (s t : PlainSnapshot) : Type 0 where
  pub node : t.node ≡ s.node
  pub reads : t.reads ≡ s.reads

-- there was a look in its place before, and the one that is there now shows the same
abbrev pub IsSeenAgain : Option PlainSnapshot → Option PlainSnapshot → Type 0
IsSeenAgain (Some s) (Some t) = ShowsSame s t
IsSeenAgain (Some s) None = ⊥
IsSeenAgain None o = ⊥
