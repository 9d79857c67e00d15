-- The tests of names, and of what calls are of, decide whether they are equal (profile).
use Rattle.std.proofs.Common.{◌≡◌, ◌++◌, Bool, true, false, ap, rules}
use Rattle.std.specs.Prelude.{nat_eq}
use Rattle.std.specs.Bool.{Decides}
use Rattle.std.proofs.lemmas.Bool.Decides.{Decides-and, Decides-eqb, Decides-int_eq, Decides-like}
use denote.Enum.Bare.{sameb, same_true, true_same}
use Rattle.ioa_operators.specs.contracts.operator.Function as function
use Rattle.ioa_terms.specs.declared.callee.Callee.{Callee}
use Rattle.ioa_terms.specs.declared.callee.Callee.TheVariants as callee
use Rattle.std.specs.Cmp.{IsEquivalence, IsPartialEquivalence, decided, partial_equiv_from_equiv}
use Rattle.std.specs.Hash.{HashWrites}
use Rattle.std.specs.Hash as fed
use Rattle.std.proofs.lemmas.Slice.Eq.{bytes_eq-Decides}
use Rattle.ioa_terms.specs.declared.name.Name.{Name}
use Rattle.ioa_terms.specs.declared.name.Name.TheVariants.{Word, Variable, Queue}
use Rattle.ioa_terms.specs.Bindings.{same_name}

-- the test finds two names the same if and only if they are equal
pub same_name_is : (x y : Name) → Decides (same_name x y) (x ≡ y)
same_name_is (Word x) (Word y) =
    (λ h i. Word ((bytes_eq-Decides x y).0 h i), λ e. let p : x ≡ y = cc in (bytes_eq-Decides x y).1 p)
same_name_is (Word x) (Variable y l) = (λ h. absurd (cc), λ e. absurd (cc))
same_name_is (Word x) (Queue k l) = (λ h. absurd (cc), λ e. absurd (cc))
same_name_is (Variable x k) (Word y) = (λ h. absurd (cc), λ e. absurd (cc))
same_name_is (Variable x k) (Variable y l) =
    Decides-like _ (λ p i. Variable (p.0 i) (p.1 i))
    (λ e. let p : x ≡ y = cc in let q : k ≡ l = cc in (p, q))
    (Decides-and _ _ (bytes_eq-Decides x y) (Decides-int_eq k l))
same_name_is (Variable x m) (Queue k l) = (λ h. absurd (cc), λ e. absurd (cc))
same_name_is (Queue i j) (Word y) = (λ h. absurd (cc), λ e. absurd (cc))
same_name_is (Queue i j) (Variable y l) = (λ h. absurd (cc), λ e. absurd (cc))
same_name_is (Queue i j) (Queue k l) =
    Decides-like _ (λ p n. Queue (p.0 n) (p.1 n))
    (λ e. let p : i ≡ k = cc in let q : j ≡ l = cc in (p, q))
    (Decides-and _ _ (Decides-int_eq i k) (Decides-int_eq j l))

-- whether two calls are of the same
abbrev pub same_callee : Callee → Callee → Bool
same_callee (callee.Function f) (callee.Function g) = sameb function.the_type f g
same_callee (callee.Inboxes x) (callee.Inboxes y) = nat_eq x y
same_callee a b = false

pub same_callee_is : (a b : Callee) → Decides (same_callee a b) (a ≡ b)
same_callee_is (callee.Function f) (callee.Function g) = (
  λ h. ap callee.Function (same_true function.the_type (search rules) f g h),
  λ e. let p : f ≡ g = cc in true_same function.the_type f g p,
)
same_callee_is (callee.Function f) (callee.Inboxes y) = (λ h. absurd (cc), λ e. absurd (cc))
same_callee_is (callee.Inboxes x) (callee.Function g) = (λ h. absurd (cc), λ e. absurd (cc))
same_callee_is (callee.Inboxes x) (callee.Inboxes y) =
    (λ h. ap callee.Inboxes ((Decides-eqb x y).0 h), λ e. let p : x ≡ y = cc in (Decides-eqb x y).1 p)

pub same_callee_partial : IsPartialEquivalence same_callee
same_callee_partial = partial_equiv_from_equiv (decided same_callee same_callee_is)

pub same_name_partial : IsPartialEquivalence same_name
same_name_partial = partial_equiv_from_equiv (decided same_name same_name_is)

pub same_name_total : IsEquivalence same_name
same_name_total = decided same_name same_name_is

-- what a name feeds a hasher (form)
abbrev pub hashed_name : Name → HashWrites
hashed_name (Word x) = fed.str x
hashed_name (Variable x k) = fed.str x ++ fed.i64 k
hashed_name (Queue i j) = fed.i64 i ++ fed.i64 j

pub same_name_hashed : (x y : Name) → same_name x y ≡ true → hashed_name x ≡ hashed_name y
same_name_hashed x y h = ap hashed_name ((same_name_is x y).0 h)
