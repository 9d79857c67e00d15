-- Texts behind others, with commas between (form): as the code writes lists whose items are found one by one.
use Rattle.std.specs.Prelude.{ℕ, Bool, true, false, List, [], ◌∷◌, ◌++◌, codes}
use Rattle.ioa_compose.specs.declared.configuration.Conf.{Conf}

-- what stands between a text and those in front of it, if there are such
abbrev pub between : Bool → List ℕ
between true = codes ", "
between false = []

-- texts behind others, if there are such
abbrev pub listed_behind : Bool → List (List ℕ) → List ℕ
listed_behind behind [] = []
listed_behind behind (t ∷ ts) = between behind ++ (t ++ listed_behind true ts)

-- whether there are texts then
abbrev pub behind_all : Bool → List (List ℕ) → Bool
behind_all behind [] = behind
behind_all behind (t ∷ ts) = true

-- the texts of all these configurations
abbrev pub told_behind : (Conf → List (List ℕ)) → Bool → List Conf → List ℕ
told_behind f behind [] = []
told_behind f behind (c ∷ cs) = listed_behind behind (f c) ++ told_behind f (behind_all behind (f c)) cs
