-- Texts of all components, written one by one with commas between.
use Rattle.std.proofs.Common.{◌≡◌, ◌∙◌, ℕ, ◌++◌, Bool, true, false, List, [], ◌∷◌, refl, sym, ap, append-nil, append_assoc}
use Rattle.std.specs.Prelude.{codes}
use Rattle.std.specs.List.{flat_map}
use Rattle.ioa_values.specs.Text.{with_commas}
use Rattle.ioa_compose.specs.declared.configuration.Conf.{Conf}
use Rattle.ioa_show.specs.Behind.{behind_all, between, listed_behind, told_behind}

-- behind some there are some
stays : (ts : List (List ℕ)) → behind_all true ts ≡ true
stays [] = refl
stays (t ∷ ts) = refl

-- some texts, and then others
listed_join : (behind : Bool) (ts us : List (List ℕ)) → listed_behind behind (ts ++ us) ≡ listed_behind behind ts ++ listed_behind (behind_all behind ts) us
listed_join behind [] us = refl
listed_join behind (t ∷ ts) us =
    ap (λ (r : List ℕ). between behind ++ (t ++ r)) (listed_join true ts us ∙ ap (λ (b : Bool). listed_behind true ts ++ listed_behind b us) (stays ts))
    ∙ sym (append_assoc (between behind) (t ++ listed_behind true ts) (listed_behind true us)
    ∙ ap (λ (r : List ℕ). between behind ++ r) (append_assoc t (listed_behind true ts) (listed_behind true us)))

told_listed : (f : Conf → List (List ℕ)) (behind : Bool) (cs : List Conf) → told_behind f behind cs ≡ listed_behind behind (flat_map f cs)
told_listed f behind [] = refl
told_listed f behind (c ∷ cs) =
    ap (λ (r : List ℕ). listed_behind behind (f c) ++ r) (told_listed f (behind_all behind (f c)) cs)
    ∙ sym (listed_join behind (f c) (flat_map f cs))

commas_behind : (t : List ℕ) (ts : List (List ℕ)) → t ++ listed_behind true ts ≡ with_commas (t ∷ ts)
commas_behind t [] = append-nil t
commas_behind t (u ∷ us) =
    ap (λ (r : List ℕ). t ++ (codes ", " ++ r)) (commas_behind u us) ∙ sym (append_assoc t (codes ", ") (with_commas (u ∷ us)))

commas_listed : (ts : List (List ℕ)) → listed_behind false ts ≡ with_commas ts
commas_listed [] = refl
commas_listed (t ∷ ts) = commas_behind t ts

-- the texts of all components, from the first on
pub told_commas : (f : Conf → List (List ℕ)) (cs : List Conf) → told_behind f false cs ≡ with_commas (flat_map f cs)
told_commas f cs = told_listed f false cs ∙ commas_listed (flat_map f cs)
