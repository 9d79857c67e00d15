-- The marks of a state, written one by one.
use Rattle.std.proofs.Common.{◌≡◌, ◌∙◌, ℕ, ◌++◌, Bool, true, false, if◌then◌else◌, List, [], ◌∷◌, refl, sym, ap, append_assoc}
use Rattle.std.specs.Prelude.{codes}
use Rattle.ioa_values.specs.Text.{with_commas}
use Rattle.ioa_system.specs.Invariants.{InvariantParts}
use Rattle.ioa_verdicts.specs.declared.verdict.Verdict.{Verdict}
use Rattle.ioa_show.specs.Judged.{breaks_at, broken_at, mark_end, mark_if, mark_start, mark_words, marked, marks_at, marks_left, marks_then}

-- marks behind others, if there are such, and the end of all
abbrev behind_marks : Bool → List (List ℕ) → List ℕ
behind_marks behind [] = mark_end behind
behind_marks behind (t ∷ ts) = mark_start behind ++ (t ++ behind_marks true ts)

-- one more mark, or none
left_one : (behind breaks : Bool) (x : List ℕ) (w : Verdict) (ts : List (List ℕ)) (rest : Bool → List ℕ)
    → ((b : Bool) → rest b ≡ behind_marks b ts)
    → mark_if breaks behind x w ++ rest (marks_then breaks behind) ≡ behind_marks behind (if breaks then mark_words x w ∷ ts else ts)
left_one behind true x w ts rest h =
    append_assoc (mark_start behind) (mark_words x w) (rest true)
    ∙ ap (λ (r : List ℕ). mark_start behind ++ (mark_words x w ++ r)) (h true)
left_one behind false x w ts rest h = h behind

left_are : (k : ℕ) (behind : Bool) (vs : List InvariantParts) (ws : List Verdict) → marks_left k behind vs ws ≡ behind_marks behind (broken_at k vs ws)
left_are k behind [] ws = refl
left_are k behind (v ∷ vs) [] = refl
left_are k behind (v ∷ vs) (w ∷ ws) =
    left_one behind (breaks_at k w) v.name w (broken_at k vs ws) (λ b. marks_left k b vs ws) (λ b. left_are k b vs ws)

-- a list and its end
ended : (t apart rest end : List ℕ) → t ++ (apart ++ (rest ++ end)) ≡ ((t ++ apart) ++ rest) ++ end
ended t apart rest end = sym (append_assoc (t ++ apart) rest end ∙ append_assoc t apart (rest ++ end))

listed : (t : List ℕ) (ts : List (List ℕ)) → t ++ behind_marks true ts ≡ with_commas (t ∷ ts) ++ codes "]"
listed t [] = refl
listed t (u ∷ us) =
    ap (λ (r : List ℕ). t ++ (codes ", " ++ r)) (listed u us) ∙ ended t (codes ", ") (with_commas (u ∷ us)) (codes "]")

all_marked : (ts : List (List ℕ)) → behind_marks false ts ≡ marked ts
all_marked [] = refl
all_marked (t ∷ ts) = ap (λ (r : List ℕ). codes ",\"verdicts\":[" ++ r) (listed t ts)

-- written one by one from the first on, they are the marks of the state
pub marks_are : (k : ℕ) (vs : List InvariantParts) (ws : List Verdict) → marks_left k false vs ws ≡ marks_at vs ws k
marks_are k vs ws = left_are k false vs ws ∙ all_marked (broken_at k vs ws)
