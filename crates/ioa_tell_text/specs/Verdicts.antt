-- Invariants that are first not true, where that is told (form).
use Rattle.std.specs.Prelude.{ℕ, ◌+◌, nat_eq, if◌then◌else◌, List, [], ◌∷◌, ◌++◌, codes}
use Rattle.ioa_system.specs.Invariants.{InvariantParts}
use Rattle.ioa_verdicts.specs.declared.verdict.Verdict.{Verdict}
use Rattle.ioa_verdicts.specs.declared.verdict.Verdict.TheVariants.{Holds, Fails, Undefined, Range}
use Rattle.ioa_tell_text.specs.declared.verdicts.Moment.{Moment}
use Rattle.ioa_tell_text.specs.declared.verdicts.Moment.TheVariants.{Start, Behind}

-- the number of the state at a moment: the start, or the one that an action leads to which comes behind so many others
abbrev pub state_at : Moment → ℕ
state_at Start = 0
state_at (Behind k) = k + 1

-- where an invariant is told not to be true
abbrev pub moment_text : Moment → List ℕ
moment_text Start = codes "at the start"
moment_text (Behind k) = codes "here"

-- `x fails here`, and the end of the line
abbrev pub named_mark : List ℕ → List ℕ → List ℕ → List ℕ
named_mark x how place = x ++ (codes " " ++ (how ++ (codes " " ++ (place ++ codes "\n"))))

-- `  invariant x fails here`
abbrev pub mark_line : List ℕ → List ℕ → List ℕ → List ℕ
mark_line x how place = codes "  invariant " ++ named_mark x how place

-- the same, if the state of this number is the one at a moment
abbrev pub mark_if : Moment → List ℕ → List ℕ → ℕ → List ℕ
mark_if m x how n = if nat_eq n (state_at m) then mark_line x how (moment_text m) else []

-- the line of an invariant, if it is first not true at a moment
abbrev pub mark_text : Moment → List ℕ → Verdict → List ℕ
mark_text m x Holds = []
mark_text m x (Fails n) = mark_if m x (codes "fails") n
mark_text m x (Undefined n) = mark_if m x (codes "undefined") n
mark_text m x (Range n) = mark_if m x (codes "range") n

-- the lines of all that are first not true at a moment, in the order of their declaration
abbrev pub marks_text : Moment → List InvariantParts → List Verdict → List ℕ
marks_text m [] fs = []
marks_text m (v ∷ vs) [] = []
marks_text m (v ∷ vs) (f ∷ fs) = mark_text m v.name f ++ marks_text m vs fs
