-- How the nodes of a log point on to one another (form).
use Rattle.core.specs.Prelude.{◌≡◌, ℕ, List, [], ◌∷◌, map, slice_index_or}
use denote.RawPtr.{Ptr, null_ptr}

-- where a node lies, and its `next`
abbrev pub Link : Type 0
Link = Ptr × Ptr

-- the links of nodes that are listed with their handles
abbrev pub links_of : {A : Type 0} → List (Link × A) → List Link
links_of = map (λ n. n.0)

-- where the node of this index lies
unfoldable pub place_of : List Link → ℕ → Ptr
place_of ls i = (slice_index_or ls i (null_ptr, null_ptr)).0

-- p leads to the first node, and each `next` but the last one's to the node behind
abbrev pub LeadsOn : Ptr → List Link → Type 0
LeadsOn p [] = Unit {0}
LeadsOn p (l ∷ ls) = (p ≡ l.0) × LeadsOn l.1 ls

-- q is where the last of these nodes lies, or p if there is none
abbrev pub EndsBehind : Ptr → List Link → Ptr → Type 0
EndsBehind p [] q = q ≡ p
EndsBehind p (l ∷ ls) q = EndsBehind l.0 ls q

-- q is where the last node lies, if there is one
abbrev pub EndsAt : List Link → Ptr → Type 0
EndsAt [] q = Unit {0}
EndsAt (l ∷ ls) q = EndsBehind l.0 ls q

-- the nodes are linked from first to last
abbrev pub IsChained : Ptr → Ptr → List Link → Type 0
IsChained first last ls = LeadsOn first ls × EndsAt ls last
