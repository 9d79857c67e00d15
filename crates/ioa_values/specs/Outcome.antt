-- What a call returns or writes (form), in words that most crates use. `memory` is the value of the call's fault type
-- that tells of a want of memory: any call that takes memory may return it, and it says nothing else.
use Rattle.std.specs.Prelude.{◌≡◌, ◌⊎◌, ◌++◌, ℕ, List, Option, Some, None, Result, Ok, Err, String, string_bytes}

-- the call computes `meant`: it returns the same value, seen through `view`, or the same fault, or `memory`
abbrev pub Answers : {X A E : Type 0} → E → (X → A) → Result X E → Result A E → Type 0
Answers memory view (Ok x) meant = meant ≡ Ok (view x)
Answers memory view (Err e) meant = (e ≡ memory) ⊎ (meant ≡ Err e)

-- the call finds `found`: it returns that value, seen through `view`; if there is none it returns some fault
abbrev pub Matches : {X A E : Type 0} → E → (X → A) → Result X E → Option A → Type 0
Matches memory view (Ok x) found = found ≡ Some (view x)
Matches memory view (Err e) found = (e ≡ memory) ⊎ (found ≡ None)

-- one result after another: the first fault is the fault of both
abbrev pub and_then : {A B E : Type 0} → Result A E → (A → Result B E) → Result B E
and_then (Ok x) f = f x
and_then (Err e) f = Err e

-- a text is written: `new` is `old` and then the text
abbrev pub Writes : {Z : Type 0} → String Z → String Z → List ℕ → Type 0
Writes old new text = string_bytes new ≡ string_bytes old ++ text
