-- The slot of a name.
use Rattle.std.proofs.Common.{◌≡◌, ℕ, suc, ◌+◌, Bool, true, false, List, [], ◌∷◌, Option, Some, None, refl, ap, ◌∙◌, length, map, cond, ltb, arith, if◌then◌else◌}
use Rattle.std.specs.Prelude.{not}
use Rattle.std.proofs.lemmas.Bool.Decides.{nat_tests}
use Rattle.std.specs.Option.{option_map}
use Rattle.std.specs.List.{position, position_or_len}
use Rattle.ioa_terms.specs.declared.name.Name.TheVariants.{Word}
use Rattle.ioa_terms.specs.Bindings.{slot_in, same_word}

shifted : (b : Bool) (k : ℕ) → cond b (Some (1 + k)) None ≡ option_map (λ k. k + 1) (cond b (Some k) None)
shifted true k = let e : 1 + k ≡ k + 1 = omega arith in ap Some e
shifted false k = refl

first_or_later : (t : Bool) (k many : ℕ) → cond (ltb (cond (not t) (1 + k) 0) (suc many)) (Some (cond (not t) (1 + k) 0)) None ≡ (if t then Some 0 else option_map (λ k. k + 1) (cond (ltb k many) (Some k) None))
first_or_later true k many = let e : ltb 0 (suc many) ≡ true = grind (arith, nat_tests) in rw e refl
first_or_later false k many = let e : ltb (1 + k) (suc many) ≡ ltb k many = grind (arith, nat_tests) in rw e (shifted (ltb k many) k)

-- the first position that passes the test is the slot of the name
pub position_slot : (names : List (List ℕ)) (x : List ℕ) → position (same_word x) names ≡ slot_in (Word x) (map Word names)
position_slot [] x = refl
position_slot (n ∷ names) x =
    first_or_later (same_word x n) (position_or_len (same_word x) names) (length names)
    ∙ ap (λ (o : Option ℕ). if same_word x n then Some 0 else option_map (λ k. k + 1) o) (position_slot names x)
