-- What is said of the invariants by verdicts on them (form): a line of JSON for each, and marks of the states in which
-- one is first not true.
use Rattle.std.specs.Prelude.{ℕ, Bool, true, false, if◌then◌else◌, nat_eq, List, [], ◌∷◌, ◌++◌, codes}
use Rattle.std.specs.Fmt.{decimal}
use Rattle.ioa_values.specs.Text.{with_commas}
use Rattle.ioa_system.specs.Invariants.{InvariantParts}
use Rattle.ioa_verdicts.specs.declared.verdict.Verdict.{Verdict}
use Rattle.ioa_verdicts.specs.declared.verdict.Verdict.TheVariants.{Holds, Fails, Undefined, Range}

-- the word of a verdict
abbrev pub verdict_word : Verdict → List ℕ
verdict_word Holds = codes "holds"
verdict_word (Fails k) = codes "fails"
verdict_word (Undefined k) = codes "undefined"
verdict_word (Range k) = codes "range"

-- the number of a state
unfoldable pub numbered_state : ℕ → List ℕ
numbered_state k = codes ",\"state\":" ++ decimal k

-- the state in which an invariant is first not true, if there is one
abbrev pub state_told : Verdict → List ℕ
state_told Holds = []
state_told (Fails k) = numbered_state k
state_told (Undefined k) = numbered_state k
state_told (Range k) = numbered_state k

-- an invariant of a name
unfoldable pub invariant_words : List ℕ → List ℕ
invariant_words x = codes "{\"invariant\":\"" ++ (x ++ codes "\"")

-- a verdict, which ends what is said of an invariant
unfoldable pub verdict_end : Verdict → List ℕ
verdict_end w = codes ",\"verdict\":\"" ++ (verdict_word w ++ codes "\"}")

-- the line of an invariant with its verdict
unfoldable pub verdict_line : List ℕ → Verdict → List ℕ
verdict_line x w =
    invariant_words x ++ (codes ",\"kind\":\"verdict\"" ++ (state_told w ++ (verdict_end w ++ codes "\n")))

-- the lines of these invariants with their verdicts
abbrev pub verdict_lines : List InvariantParts → List Verdict → List ℕ
verdict_lines [] ws = []
verdict_lines (v ∷ vs) [] = []
verdict_lines (v ∷ vs) (w ∷ ws) = verdict_line v.name w ++ verdict_lines vs ws

-- whether a verdict says that its invariant is first not true in the state of number k
abbrev pub breaks_at : ℕ → Verdict → Bool
breaks_at k Holds = false
breaks_at k (Fails n) = nat_eq n k
breaks_at k (Undefined n) = nat_eq n k
breaks_at k (Range n) = nat_eq n k

-- what a state says of an invariant that is first not true in it
unfoldable pub mark_words : List ℕ → Verdict → List ℕ
mark_words x w = invariant_words x ++ verdict_end w

-- what the state of number k says of these invariants, by the verdicts on them: nothing of one that is not first not
-- true in it
abbrev pub broken_at : ℕ → List InvariantParts → List Verdict → List (List ℕ)
broken_at k [] ws = []
broken_at k (v ∷ vs) [] = []
broken_at k (v ∷ vs) (w ∷ ws) =
    if breaks_at k w then mark_words v.name w ∷ broken_at k vs ws else broken_at k vs ws

-- the marks of a state that says this: none if it says nothing
abbrev pub marked : List (List ℕ) → List ℕ
marked [] = []
marked (t ∷ ts) = codes ",\"verdicts\":[" ++ (with_commas (t ∷ ts) ++ codes "]")

-- the marks of the state of number k
abbrev pub marks_at : List InvariantParts → List Verdict → ℕ → List ℕ
marks_at vs ws k = marked (broken_at k vs ws)

-- what stands in front of a mark, if some are written already or none, and behind all marks (form)
abbrev pub mark_start : Bool → List ℕ
mark_start false = codes ",\"verdicts\":["
mark_start true = codes ", "

abbrev pub mark_end : Bool → List ℕ
mark_end false = []
mark_end true = codes "]"

-- the mark of an invariant, if it is first not true in the state
abbrev pub mark_if : Bool → Bool → List ℕ → Verdict → List ℕ
mark_if true behind x w = mark_start behind ++ mark_words x w
mark_if false behind x w = []

-- whether there are marks then
abbrev pub marks_then : Bool → Bool → Bool
marks_then true behind = true
marks_then false behind = behind

-- the marks of the state of number k that are left to be written, and their end
abbrev pub marks_left : ℕ → Bool → List InvariantParts → List Verdict → List ℕ
marks_left k behind [] ws = mark_end behind
marks_left k behind (v ∷ vs) [] = mark_end behind
marks_left k behind (v ∷ vs) (w ∷ ws) =
    mark_if (breaks_at k w) behind v.name w ++ marks_left k (marks_then (breaks_at k w) behind) vs ws
