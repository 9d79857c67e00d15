-- What stays linked if a node comes or goes, and where the node of an index lies.
use mathlib.Core.Path.{◌≡◌, refl}
use mathlib.Core.Logic.{∥∥₁_elim}
use mathlib.Core.List.{List, [], ◌∷◌, ◌++◌}
use Prim.Native.Nat.{ℕ, zero, suc, ◌+◌, ◌<◌}
use native.Mathlib.Omega.{arith}
use lib.ListN.{length, get_or}
use base.Stored.{Coded-set}
use denote.RawPtr.{Ptr, null_ptr, coded_ptr}
use Rattle.ioa_rawlog.specs.Links.{Link, place_of, LeadsOn, EndsBehind, EndsAt, IsChained}

-- ---- to be linked is a proposition, so it is had of the truncated fact
LeadsOn-prop : (p : Ptr) (ls : List Link) → IsProp (LeadsOn p ls)
LeadsOn-prop p [] = λ a b. refl
LeadsOn-prop p (l ∷ ls) = λ a b i. (Coded-set coded_ptr p l.0 a.0 b.0 i, LeadsOn-prop l.1 ls a.1 b.1 i)

EndsBehind-prop : (p : Ptr) (ls : List Link) (q : Ptr) → IsProp (EndsBehind p ls q)
EndsBehind-prop p [] q = Coded-set coded_ptr q p
EndsBehind-prop p (l ∷ ls) q = EndsBehind-prop l.0 ls q

EndsAt-prop : (ls : List Link) (q : Ptr) → IsProp (EndsAt ls q)
EndsAt-prop [] q = λ a b. refl
EndsAt-prop (l ∷ ls) q = EndsBehind-prop l.0 ls q

pub chain_had : (p q : Ptr) (ls : List Link) → ∥ IsChained p q ls ∥₁ → IsChained p q ls
chain_had p q ls c = ∥∥₁_elim c (λ a b i. (LeadsOn-prop p ls a.0 b.0 i, EndsAt-prop ls q a.1 b.1 i)) (λ a. a)

-- ---- the first node goes
pub chain_rest : (p q : Ptr) (l : Link) (ls : List Link) → IsChained p q (l ∷ ls) → IsChained l.1 q ls
chain_rest p q l [] c = (tt, tt)
chain_rest p q l (m ∷ ls) c = (c.0.1, c.1)

-- ---- `last` leads to the last node
EndsBehind-snoc : (p q : Ptr) (ls : List Link) (l : Link) → EndsBehind p (ls ++ l ∷ []) q → q ≡ l.0
EndsBehind-snoc p q [] l c = c
EndsBehind-snoc p q (m ∷ ls) l c = EndsBehind-snoc m.0 q ls l c

pub last_is : (q : Ptr) (ls : List Link) (l : Link) → EndsAt (ls ++ l ∷ []) q → q ≡ l.0
last_is q [] l c = c
last_is q (m ∷ ls) l c = EndsBehind-snoc m.0 q ls l c

-- ---- a node comes behind the last, whose `next` leads to it
LeadsOn-snoc : (p q : Ptr) (ls : List Link) (l : Link) → LeadsOn p (ls ++ l ∷ []) → LeadsOn p ((ls ++ (l.0, q) ∷ []) ++ (q, q) ∷ [])
LeadsOn-snoc p q [] l c = (c.0, (refl, tt))
LeadsOn-snoc p q (m ∷ ls) l c = (c.0, LeadsOn-snoc m.1 q ls l c.1)

EndsBehind-last : (p : Ptr) (ls : List Link) (l : Link) → EndsBehind p (ls ++ l ∷ []) l.0
EndsBehind-last p [] l = refl
EndsBehind-last p (m ∷ ls) l = EndsBehind-last m.0 ls l

EndsAt-last : (ls : List Link) (l : Link) → EndsAt (ls ++ l ∷ []) l.0
EndsAt-last [] l = refl
EndsAt-last (m ∷ ls) l = EndsBehind-last m.0 ls l

pub chain_longer : (p q : Ptr) (ls : List Link) (l : Link) → LeadsOn p (ls ++ l ∷ []) → IsChained p q ((ls ++ (l.0, q) ∷ []) ++ (q, q) ∷ [])
chain_longer p q ls l c = (LeadsOn-snoc p q ls l c, EndsAt-last (ls ++ (l.0, q) ∷ []) (q, q))

-- ---- by index
abbrev pub link_at : List Link → ℕ → Link
link_at ls i = get_or ls i (null_ptr, null_ptr)

pub place_is : (ls : List Link) (i : ℕ) → place_of ls i ≡ (link_at ls i).0
unfolding place_of
place_is ls i = refl

pub first_is : (p : Ptr) (ls : List Link) → 0 < length ls → LeadsOn p ls → p ≡ (link_at ls 0).0
first_is p [] some c = absurd (omega arith)
first_is p (l ∷ ls) some c = c.0

pub next_is : (p : Ptr) (ls : List Link) (i : ℕ) → i + 1 < length ls → LeadsOn p ls → (link_at ls i).1 ≡ (link_at ls (suc i)).0
next_is p [] i more c = absurd (omega arith)
next_is p (l ∷ ls) zero more c = first_is l.1 ls (omega arith) c.1
next_is p (l ∷ ls) (suc i) more c = next_is l.1 ls i (omega arith) c.1
