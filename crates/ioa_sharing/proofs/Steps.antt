-- What the tokens do on the ghost side. Assumes `Logic`.
use Rattle.std.proofs.Common.{◌≡◌, ℕ, List, [], ◌∷◌, ◌++◌, Some, refl, length, slice_get}
use mathlib.Core.List.{IsPrefix}
use seplogic.Ra.Ura.{Ura}
use base.Fraction.{full_share}
use base.Stored.{Gv, Coded}
use base.Logic.{SProp, ent, sep, ex, guard, emp, via}
use base.Fml.{Fml, ftrue}
use base.Growing.{Least, at_least, prefix_refl}
use types.Logic.{Logic, sem}
use types.Owned.{basic}
use types.Growing.{latest_new, latest_grows, latest_shows, at_least_dup, at_least_join}
use types.Kit.{‵, ◌⊛◌, some, given, later, ◌$◌, ◌∵◌, !, qed, move, drop, split, fsplit, fjoin, fpick, fpack, pick}
use types.Kit.{learn, check, frame, done, use1, use2, updating, await, now}
use denote.Steps.{nothing}
use Rattle.ioa_sharing.specs.Kept.{entry_owns, ledger_owns, listed, logs}
use Rattle.ioa_sharing.proofs.Listed.{last_listed, one_listed}

module _ {M : Type 1} {𝓤 : Ura M} (𝓛 : Logic 𝓤) where
  open 𝓛 use {H}

  abbrev Pr : Type 2
  Pr = SProp 𝓤

  abbrev ◌⊢◌ : Pr → Pr → Type 1
  P ⊢ Q = ent 𝓤 P Q

  abbrev ◌∗◌ : Pr → Pr → Pr
  P ∗ Q = sep 𝓤 P Q

  abbrev ⟦◌⟧ : Fml → Pr
  ⟦ P ⟧ = sem 𝓛 P

  infix 26 ◌⊢◌
  infixr 35 ◌∗◌
  -- a list is begun under a name of its own
  pub begins : emp 𝓤 ⊢ H.⇛ (ex 𝓤 (λ (name : ℕ). ⟦ ledger_owns name [] ⟧))
  begins = via 𝓤 _ (latest_new logs 𝓛 []) (basic 𝓛 _)

  module _ {X : Type 0} (coded : Coded X) (name : ℕ) where
    abbrev own : ℕ → X → Fml
    own k x = entry_owns coded.code name k x

    abbrev had : List Gv → Fml
    had log = at_least logs name log

    abbrev At : ℕ → X → List Gv → Type 0
    At k x log = slice_get log k ≡ Some (coded.code x)

    -- a list that has a value at a place makes an entry
    enters : (k : ℕ) (x : X) (log : List Gv) → At k x log → ⟦ had log ⟧ ⊢ ⟦ own k x ⟧
    enters k x log at = qed 𝓛 (‵ (had log) ∷ []) ∵ nothing ! $ fpack ! (At k x log) (λ _. ftrue) at $ fjoin ! $
        fpack ! (List Gv) (listed coded.code name k x) log $ done !

    -- a value goes behind the others
    pub appends : (log : List Gv) (x : X) → ⟦ ledger_owns name log ⟧
        ⊢ H.⇛ (⟦ ledger_owns name (log ++ coded.code x ∷ []) ⟧ ∗ ⟦ own (length log) x ⟧)
    appends log x = let longer : List Gv = log ++ coded.code x ∷ [] in
        qed 𝓛 (‵ (ledger_owns name log) ∷ []) ∵ updating ! $
        use1 𝓛 (later (‵ (ledger_owns name longer)))
        (via 𝓤 _ (latest_grows logs 𝓛 name log longer (coded.code x ∷ [], refl)) (basic 𝓛 _)) $ await ! tt $
        use1 𝓛 (‵ (ledger_owns name longer) ⊛ ‵ (had longer))
        (latest_shows logs 𝓛 full_share name longer longer (prefix_refl longer)) $ split ! $ now ! $ frame ! $
        use1 𝓛 (‵ (own (length log) x)) (enters (length log) x longer (last_listed log (coded.code x))) $ done !

    -- what is known of a place is known for good
    pub twice : (k : ℕ) (x : X) → ⟦ own k x ⟧ ⊢ ⟦ own k x ⟧ ∗ ⟦ own k x ⟧
    twice k x = qed 𝓛 (‵ (own k x) ∷ []) ∵ fpick ! (λ log. fsplit ! $ fpick ! (λ at. drop ! $
        use1 𝓛 (‵ (had log) ⊛ ‵ (had log)) (at_least_dup logs 𝓛 name log) $ split ! $
        use1 𝓛 (‵ (own k x)) (enters k x log at) $ frame ! $ use1 𝓛 (‵ (own k x)) (enters k x log at) $ done !))

    -- two entries of one place have one value
    pub agrees : (k : ℕ) (x y : X) → ⟦ own k x ⟧ ∗ ⟦ own k y ⟧ ⊢ guard 𝓤 (x ≡ y) ⟦ ftrue ⟧
    agrees k x y = qed 𝓛 (‵ (own k x) ∷ ‵ (own k y) ∷ []) ∵ fpick ! (λ xs. fsplit ! $ fpick ! (λ at. drop ! $
        move ! (1 ∷ []) $ fpick ! (λ ys. fsplit ! $ fpick ! (λ at'. drop ! $
        use2 𝓛 (some (λ (all : List Gv). given (Least IsPrefix ys xs all) (‵ (had all))))
        (at_least_join logs 𝓛 name ys xs) $ pick ! (λ all. learn ! (λ least. drop ! $
        check ! (coded.inj x y (one_listed xs ys all k (coded.code x) (coded.code y) least.1 least.0 at at')) $
        nothing ! $ done !))))))
