-- The test that things differ from each other (profile).
use Rattle.std.specs.Prelude.{Bool, true, not, ◌&&◌, List, [], ◌∷◌, ◌++◌}
use Rattle.std.specs.List.{list_any}

-- whether things differ from each other, and from those before, by a test that finds two the same
abbrev pub differ_from : {A : Type 0} → (A → A → Bool) → List A → List A → Bool
differ_from same before [] = true
differ_from same before (x ∷ xs) = not (list_any (λ d. same d x) before) && differ_from same (before ++ x ∷ []) xs
