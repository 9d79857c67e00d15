-- How the arguments of a walk are had on entry, at any goal that reads their values. Assumes `Logic`.
--     lent           a `&` to the nodes
--     lent_at_place  a `&` to the nodes, a place and an index
--     held           a `&mut` to the nodes
use Rattle.ioa_rawlog.proofs.Walks.{◌≡◌, sym, subst, List, [], ◌∷◌, ◌++◌, ℕ, ◌<◌, ◌^◌, Ura, SProp, ent, Lft, GName, Share, ftrue, flft, fobs, fbor, named, w64, Val, vint, vptr, Logic, Borrowed, Item, ⋆, ‵, ◌⊛◌, ◌$◌, ◌∵◌, !, qed, by, move, keep, split, fsplit, fsplit3, feq_l, flt_l, owns, mem, hidden_shr, Bor, MutBor, ShrRef, MutRef, usize, word, Bx, word_had}
use Rattle.ioa_rawlog.specs.declared.nodes.Place.{Place}
use Rattle.ioa_rawlog.specs.contracts.nodes.Place as Pl
use Rattle.ioa_rawlog.proofs.Owned.{D, Nr}

module _ (E : Bx) (κ : Lft) (q : Share) where
  abbrev pub lent_self : ℕ → ℕ → D E → Bor (D E)
  lent_self b o d = record { ref_ptr = (b, o); now = d }

  abbrev pub held_self : ℕ → ℕ → GName → D E → MutBor (D E)
  held_self b o γ d = record { ref_ptr = (b, o); ghost_name = γ; now = d }

  module _ {M : Type 1} {𝓤 : Ura M} (𝓛 : Logic 𝓤) where
    -- what a `&` has, and what a `&mut` has: [obs; the borrow; the token]
    abbrev pub Lent : ℕ → ℕ → D E → List (Item 𝓤)
    Lent b o d = ‵ (hidden_shr (Nr E) κ d b o) ∷ ‵ (flft κ q) ∷ []

    abbrev pub Had : ℕ → ℕ → GName → D E → List (Item 𝓤)
    Had b o γ d = ‵ (fobs γ ((Nr E).coded.code d)) ∷ ‵ (fbor κ (Borrowed (mem (Nr E)) b o γ)) ∷ ‵ (flft κ q) ∷ []

    module _ (G : List Val → SProp 𝓤) (b o : ℕ) (d : D E) where
      pub lent : (ps : List Val) → ent 𝓤 (⋆ 𝓛 (Lent b o d)) (G (vptr b o ∷ []))
          → ent 𝓤 (⋆ 𝓛 ((‵ (flft κ q) ⊛ ‵ ftrue) ∷ ‵ (owns (ShrRef (named 0) κ (Nr E) ∷ []) (lent_self b o d, tt) (ps, tt)) ∷ [])) (G (ps ++ []))
      lent ps w =
          qed 𝓛 ((‵ (flft κ q) ⊛ ‵ ftrue) ∷ ‵ (owns (ShrRef (named 0) κ (Nr E) ∷ []) (lent_self b o d, tt) (ps, tt)) ∷ []) ∵
          split ! $ move ! (2 ∷ []) $ fsplit ! $ fsplit ! $ feq_l ! (λ e. keep ! (0 ∷ 2 ∷ []) $
          by ! (subst (λ (ws : List Val). ent 𝓤 (⋆ 𝓛 (Lent b o d)) (G (ws ++ []))) (sym e) w))

      pub lent_at_place : (at : Place) (i : ℕ) (ps us vs : List Val)
          → (i < 2 ^ 64 → ent 𝓤 (⋆ 𝓛 (Lent b o d)) (G (vptr b o ∷ word at.pointer ∷ vint w64 i ∷ [])))
          → ent 𝓤 (⋆ 𝓛 ((‵ (flft κ q) ⊛ ‵ ftrue) ∷ ‵ (owns (ShrRef (named 0) κ (Nr E) ∷ Pl.the_row ∷ usize ∷ []) (lent_self b o d, (at, (i, tt))) (ps, (us, (vs, tt)))) ∷ []))
          (G (ps ++ (us ++ (vs ++ []))))
      lent_at_place at i ps us vs w =
          qed 𝓛 ((‵ (flft κ q) ⊛ ‵ ftrue) ∷ ‵ (owns (ShrRef (named 0) κ (Nr E) ∷ Pl.the_row ∷ usize ∷ []) (lent_self b o d, (at, (i, tt))) (ps, (us, (vs, tt)))) ∷ []) ∵
          split ! $ move ! (2 ∷ []) $ fsplit3 ! $ fsplit ! $ feq_l ! (λ e.
          move ! (1 ∷ []) $ word_had ! at.pointer us (λ f. move ! (1 ∷ []) $ fsplit ! $ fsplit ! $ feq_l ! (λ g. flt_l ! (λ fits. keep ! (1 ∷ 2 ∷ []) $
          by ! (subst (λ (ws : List Val × List Val × List Val). ent 𝓤 (⋆ 𝓛 (Lent b o d)) (G (ws.0 ++ (ws.1 ++ (ws.2 ++ []))))) (λ j. (sym e j, sym f j, sym g j)) (w fits))))))

      pub held : (γ : GName) (ps : List Val) → (ps ≡ vptr b o ∷ [] → ent 𝓤 (⋆ 𝓛 (Had b o γ d)) (G (vptr b o ∷ [])))
          → ent 𝓤 (⋆ 𝓛 ((‵ (flft κ q) ⊛ ‵ ftrue) ∷ ‵ (owns (MutRef (named 0) κ (Nr E) ∷ []) (held_self b o γ d, tt) (ps, tt)) ∷ [])) (G (ps ++ []))
      held γ ps w =
          qed 𝓛 ((‵ (flft κ q) ⊛ ‵ ftrue) ∷ ‵ (owns (MutRef (named 0) κ (Nr E) ∷ []) (held_self b o γ d, tt) (ps, tt)) ∷ []) ∵
          split ! $ move ! (2 ∷ []) $ fsplit ! $ fsplit3 ! $ feq_l ! (λ e. keep ! (0 ∷ 1 ∷ 3 ∷ []) $
          by ! (subst (λ (ws : List Val). ent 𝓤 (⋆ 𝓛 (Had b o γ d)) (G (ws ++ []))) (sym e) (w e)))
