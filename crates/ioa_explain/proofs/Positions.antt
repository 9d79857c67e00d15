-- Where a declaration begins.
use Rattle.std.proofs.Common.{◌≡◌, ◌<◌, ◌≤◌, ◌+◌, ℕ, List, take, arith, subst}
use Rattle.std.specs.Prelude.{cond}
use Rattle.std.specs.List.{count_by}
use Rattle.std.proofs.lemmas.List.{take-take}
use Rattle.std.proofs.lemmas.List.Sums.{sum_by-take-le}
use Rattle.ioa_tokens.specs.declared.token.LocatedToken.{LocatedToken}
use Rattle.ioa_place.specs.Found.{begins, IsDeclarationAt}

-- no more declarations begin in a front than in a longer one
fewer : (ts : List LocatedToken) (m n : ℕ) → m ≤ n → count_by begins (take m ts) ≤ count_by begins (take n ts)
fewer ts m n h =
    let part : count_by begins (take m (take n ts)) ≤ count_by begins (take n ts) =
    sum_by-take-le (λ t. cond (begins t) 1 0) (take n ts) m in
    subst (λ l. count_by begins l ≤ count_by begins (take n ts)) (take-take m n ts h) part

-- so a declaration does not begin behind where it begins
not_later : (ts : List LocatedToken) (i p q : ℕ) → IsDeclarationAt ts i p → IsDeclarationAt ts i q → p < q → ⊥
not_later ts i p q here there h =
    let more : count_by begins (take (p + 1) ts) ≤ count_by begins (take q ts) =
    fewer ts (p + 1) q (omega (arith, h)) in
    omega (arith, more, here.here, there.before)

-- a declaration begins once
pub once : (ts : List LocatedToken) (i p q : ℕ) → IsDeclarationAt ts i p → IsDeclarationAt ts i q → p ≡ q
once ts i p q here there = omega (arith, not_later ts i p q here there, not_later ts i q p there here)

-- and not at all if there are not so many
pub missing : (ts : List LocatedToken) (i p : ℕ) → count_by begins ts ≤ i → IsDeclarationAt ts i p → ⊥
missing ts i p few here =
    let all : count_by begins (take (p + 1) ts) ≤ count_by begins ts =
    sum_by-take-le (λ t. cond (begins t) 1 0) ts (p + 1) in
    omega (arith, all, few, here.here)
