-- What an assignment to a name changes.
use Rattle.std.proofs.Common.{◌≡◌, Bool, true, false, [], ◌∷◌, Some, refl, subst, if◌then◌else◌}
use Rattle.std.specs.Option.{option_map}
use Rattle.ioa_values.specs.Data.{Data}
use Rattle.ioa_terms.specs.declared.name.Name.{Name}
use Rattle.ioa_terms.specs.SameNames.{same_name_is}
use Rattle.ioa_terms.specs.Bindings.{Bindings, same_name, lookup, put}

-- names that are the same are equal
same_equal_name : (x y : Name) → same_name x y ≡ true → x ≡ y
same_equal_name x y h = (same_name_is x y).0 h

-- its own value is the new one
own_by : (t : Bool) (x n : Name) (u v : Data) (e : Bindings) → same_name x n ≡ t → lookup x (put x v e) ≡ option_map (λ (w : Data). v) (lookup x e) → lookup x (if t then (n, v) ∷ e else (n, u) ∷ put x v e) ≡ option_map (λ (w : Data). v) (if t then Some u else lookup x e)
own_by true x n u v e h k = rw h refl
own_by false x n u v e h k = rw h k

own_value : (x : Name) (v : Data) (e : Bindings) → lookup x (put x v e) ≡ option_map (λ (w : Data). v) (lookup x e)
own_value x v [] = refl
own_value x v ((n, u) ∷ e) = own_by (same_name x n) x n u v e refl (own_value x v e)

-- every other name keeps its value
other_by : (t : Bool) (x y n : Name) (u v : Data) (e : Bindings) → same_name x n ≡ t → same_name y x ≡ false → lookup y (put x v e) ≡ lookup y e → lookup y (if t then (n, v) ∷ e else (n, u) ∷ put x v e) ≡ lookup y ((n, u) ∷ e)
other_by true x y n u v e h g k =
    let apart : same_name y n ≡ false = subst (λ (z : Name). same_name y z ≡ false) (same_equal_name x n h) g in
    rw apart refl
other_by false x y n u v e h g k = rw k refl

other_value : (x y : Name) (v : Data) (e : Bindings) → same_name y x ≡ false → lookup y (put x v e) ≡ lookup y e
other_value x y v [] g = refl
other_value x y v ((n, u) ∷ e) g = other_by (same_name x n) x y n u v e refl g (other_value x y v e g)

by_name : (t : Bool) (x y : Name) (v : Data) (e : Bindings) → same_name y x ≡ t → lookup y (put x v e) ≡ (if t then option_map (λ (w : Data). v) (lookup x e) else lookup y e)
by_name true x y v e h = rw (same_equal_name y x h) (own_value x v e)
by_name false x y v e h = other_value x y v e h

-- the value of any name
pub assigned_value : (x y : Name) (v : Data) (e : Bindings) → lookup y (put x v e) ≡ (if same_name y x then option_map (λ (w : Data). v) (lookup x e) else lookup y e)
assigned_value x y v e = by_name (same_name y x) x y v e refl
