-- The rule of a number.
use Rattle.std.proofs.Common.{◌≡◌, ℕ, zero, suc, true, false, List, [], ◌∷◌, refl, subst, slice_get}
use Rattle.std.specs.List.{AllByRecursion, IsDistinct}
use Rattle.std.proofs.lemmas.Slice.Eq.{bytes_eq-Decides}
use Rattle.ioa_terms.specs.Bindings.{same_word}
use Rattle.ioa_system.specs.Numbered.{IsNumberOf}
use Rattle.ioa_system.specs.Parts.{PlainRule, rule_named, rule_names}

-- a name that differs from all names of rules differs from that of the rule of a number
apart_from : (v w : List ℕ) (rs : List PlainRule) (n : ℕ) → AllByRecursion (λ k. same_word v k ≡ false) (rule_names rs) → IsNumberOf rs w n → same_word v w ≡ false
apart_from v w [] n d h = absurd (cc)
apart_from v w (r ∷ rs) zero d h =
    let same : r.entry.name ≡ w = cc in
    subst (λ (u : List ℕ). same_word v u ≡ false) same d.0
apart_from v w (r ∷ rs) (suc n) d h = apart_from v w rs n d.1 h

-- rules that differ in name: the rule of the number of a name is the rule of that name
pub number_named : (w : List ℕ) (rs : List PlainRule) (n : ℕ) → IsDistinct same_word (rule_names rs) → IsNumberOf rs w n → slice_get rs n ≡ rule_named w rs
unfolding IsDistinct
number_named w [] n d h = absurd (cc)
number_named w (r ∷ rs) zero d h =
    let same : r.entry.name ≡ w = cc in
    let named : same_word r.entry.name w ≡ true = (bytes_eq-Decides r.entry.name w).1 same in
    rw named refl
number_named w (r ∷ rs) (suc n) d h =
    let apart : same_word r.entry.name w ≡ false = apart_from r.entry.name w rs n d.0 h in
    rw apart (number_named w rs n d.1 h)

-- a number is that of one name at most
pub one_name : (v w : List ℕ) (rs : List PlainRule) (n : ℕ) → IsNumberOf rs v n → IsNumberOf rs w n → v ≡ w
one_name v w rs n h k = cc
