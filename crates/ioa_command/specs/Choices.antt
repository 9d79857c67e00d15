-- What the functions that read the matches of the command line tell, if they find nothing.
use Rattle.std.specs.Prelude.{⊤, Option, Some, None, Result, Ok, Err}
use Rattle.ioa_command.specs.declared.choice.ChoiceFault.{ChoiceFault}
use Rattle.ioa_command.specs.declared.choice.ChoiceFault.TheVariants.{Memory, Nothing}

-- what is found has a property; if nothing is found, nothing has it
abbrev pub Finds : {T : Type 0} → (T → Type 0) → Option T → Type 0
Finds Is (Some x) = Is x
Finds {T} Is None = (x : T) → Is x → ⊥

-- what is chosen has a property; if the words choose nothing, nothing has it; want of memory tells nothing
abbrev pub Settles : {T : Type 0} → (T → Type 0) → Result T ChoiceFault → Type 0
Settles Is (Ok x) = Is x
Settles Is (Err (Memory error)) = ⊤
Settles {T} Is (Err (Nothing why)) = (x : T) → Is x → ⊥
