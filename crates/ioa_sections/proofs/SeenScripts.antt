-- Scripts of different nodes, told by the set of the numbers seen so far.
use Rattle.std.proofs.Common.{◌≡◌, ◌<◌, ◌+◌, ◌∙◌, ℕ, ℤ, Bool, true, false, List, [], ◌∷◌, ◌++◌, refl, sym, ap, map, take, drop, length, get_or}
use Rattle.std.specs.Prelude.{not}
use Rattle.std.proofs.lemmas.Cmp.{int_eq_equiv}
use Rattle.std.proofs.lemmas.List.{take_more, drop_more, map-append}
use Rattle.std.specs.List.{list_any}
use Rattle.std.specs.Ordering.{int_eq}
use Rattle.ioa_source.specs.Sides.{SourceScript}
use Rattle.ioa_sections.specs.Distinct.{differ_from}
use Rattle.ioa_sections.specs.Scripts.{same_node}
use Rattle.ioa_sections.proofs.Loops.{differ_more}

-- the numbers of the nodes of scripts
abbrev pub nodes_of : List SourceScript → List ℤ
nodes_of ss = map (λ s. s.node) ss

-- a number is among those seen exactly if a script before is of the same node
seen_before : (ss : List SourceScript) (x : SourceScript) → list_any (λ s. same_node s x) ss ≡ list_any (int_eq x.node) (nodes_of ss)
seen_before [] x = refl
seen_before (s ∷ ss) x = rw (int_eq_equiv.symm s.node x.node, seen_before ss x) refl

-- what was not new is there, and what was new is not
pub not_new : (seen b : Bool) → b ≡ not seen → b ≡ false → seen ≡ true
not_new true b e h = refl
not_new false b e h = let one : b ≡ true = e in absurd (cc)

pub is_new : (seen b : Bool) → b ≡ not seen → b ≡ true → seen ≡ false
is_new true b e h = let one : b ≡ false = e in absurd (cc)
is_new false b e h = refl

module _ {D : Type 0} (view : D → SourceScript) (items : List D) (i : ℕ) (d : D) (within : i < length items) (at : d ≡ get_or items i d) (numbers : List ℤ) (are : numbers ≡ nodes_of (map view (take i items))) where
  told : list_any (λ s. same_node s (view d)) (map view (take i items)) ≡ list_any (int_eq (view d).node) numbers
  told = seen_before (map view (take i items)) (view d) ∙ ap (list_any (int_eq (view d).node)) (sym are)

  -- a number that was seen ends the loop
  pub seen_stops : list_any (int_eq (view d).node) numbers ≡ true → differ_from same_node (map view (take i items)) (map view (drop i items)) ≡ false
  seen_stops seen = rw (drop_more items i d within, ← at, told, seen) refl

  -- one that is new is put behind the others
  pub seen_goes_on : list_any (int_eq (view d).node) numbers ≡ false → differ_from same_node (map view (take i items)) (map view (drop i items)) ≡ differ_from same_node (map view (take (i + 1) items)) (map view (drop (i + 1) items))
  seen_goes_on seen = differ_more same_node view items i d within at (told ∙ seen)

  pub numbers_more : numbers ++ (view d).node ∷ [] ≡ nodes_of (map view (take (i + 1) items))
  numbers_more =
      rw (take_more items i d within, ← at, map-append view (take i items) (d ∷ []), map-append (λ (s : SourceScript). s.node) (map view (take i items)) (view d ∷ []), are) refl
