-- What the two walks that link a node in share: their contract, how they begin and how they end. Assumes `Logic`.
use Rattle.ioa_rawlog.proofs.Walks.{◌≡◌, refl, sym, subst, List, [], ◌∷◌, ◌++◌, ℕ, Ura, SProp, ent, sep, Lft, GName, Share, ftrue, froom, flft, fobs, fbor, Fn, named, Val, vptr, vunit, Tables, WpFn, Logic, Borrowed, fact, WpFn-mono, Item, ⋆, ‵, ◌⊛◌, ◌$◌, ◌∵◌, !, qed, by, move, keep, split, join, fsplit, fsplit3, fjoin, fjoin3, feq_i, feq_l, suffices, frame, yes, no, RattleType, owns, mem, block_ptr, MutBor, MutRef, RefMutOf, unit, plain, nothing, Clauses, Ended, closing, Meets, says, needs, Stays, stay_dropped, stay_ref, walk_of, ends_at, Goes-dropped, Goes-ref, walk_Meets, token, Fits, Goes-blank, Good, Bx, X, τ, own, R, P, el_tells, Vacant, vacant_val, Vacant-had, done}
use Rattle.ioa_rawlog.specs.contracts.nodes.Node as Block
use Rattle.ioa_rawlog.proofs.Owned.{D, Nr, block_ty}
use Rattle.ioa_rawlog.proofs.Entries.{held_self}

module _ (E : Bx) where
  abbrev pub NodeRow : RattleType
  NodeRow = Block.the_row (R E) (P E)

  abbrev pub Room : RattleType
  Room = Vacant E.al NodeRow

  abbrev pub ended : Ended
  ended = record {
    signature = record { lifetimes = 1; outlives = []; params = RefMutOf (0 ∷ []) tt (plain (λ _. Nr E)) (λ _. tt) ∷ plain (λ _. Room) ∷ plain (λ _. R E) ∷ []; result = plain (λ _. unit) };
    kept = (yes, (no, (no, tt)));
  }

  abbrev pub stayed : Stays ended.signature.params ended.kept
  stayed = (stay_ref (0 ∷ []) tt (plain (λ _. Nr E)), (stay_dropped (plain (λ _. Room)) no, (stay_dropped (plain (λ _. R E)) no, tt)))

  -- what is asked of the nodes, and what they are with an item more
  module _ (Asks : D E → Type 0) (Gives : D E → X E → D E → Type 0) where
    abbrev pub spec : {M : Type 1} {𝓤 : Ura M} (𝓛 : Logic 𝓤) → Clauses 𝓤 ended
    spec {𝓤 = 𝓤} 𝓛 κs a = record { ghost = Unit {0}; requires = λ _. fact 𝓤 (Asks a.0.now); ensures = λ _ r w. fact 𝓤 (Gives a.0.now a.1.1.0 w.0.now) }

    module _ {M : Type 1} {𝓤 : Ura M} (𝓛 : Logic 𝓤) (κ : Lft) (q : Share) (rb ro : ℕ) (γ : GName) (d : D E) (room : Room.Denot) (x : X E) (ps us vs : List Val) where
      open 𝓛 use {A}

      abbrev pub self : MutBor (D E)
      self = held_self E κ q rb ro γ d

      abbrev pub bound : (walk_of 𝓛 ended stayed (spec 𝓛)).Ghost
      bound = (((κ, tt), (q, tt), tt, (self, (room, (x, tt))), (ps, (us, (vs, tt)))), tt)

      abbrev pub Post : Val → SProp 𝓤
      Post = (walk_of 𝓛 ended stayed (spec 𝓛)).post bound

      -- [obs; the borrow; its token; the room; its token; what the handle owns; what the item owns]
      abbrev pub Had : ℕ → ℕ → Val → Val → List (Item 𝓤)
      Had b o hv v = ‵ (fobs γ ((Nr E).coded.code d)) ∷ ‵ (fbor κ (Borrowed (mem (Nr E)) rb ro γ)) ∷ ‵ (flft κ q)
          ∷ ‵ (froom (block_ty E) b o) ∷ ‵ (token E.al room.alloc (block_ty E) (block_ptr b o)) ∷ ‵ (E.al.row.own_val room.alloc (hv ∷ [])) ∷ ‵ (own E x (v ∷ [])) ∷ []

      pub exits : ps ≡ vptr rb ro ∷ [] → (new : D E) → Gives d x new
          → ent 𝓤 (sep 𝓤 (A.obs γ ((Nr E).coded.code new)) (sep 𝓤 (A.bor κ (Borrowed (mem (Nr E)) rb ro γ)) (A.lft κ q))) (Post vunit)
      exits passed new e =
          qed 𝓛 (‵ (fobs γ ((Nr E).coded.code new)) ∷ ‵ (fbor κ (Borrowed (mem (Nr E)) rb ro γ)) ∷ ‵ (flft κ q) ∷ []) ∵
          suffices ! _ (ends_at 𝓛 ended stayed (spec 𝓛) bound vunit tt (new, ((tt, (tt, tt)), (tt, tt))) (tt, (tt, (tt, tt)))) $ says ! e $
          nothing ! $ move ! (3 ∷ 0 ∷ []) $ join ! $ frame ! $ feq_i ! (List Val) ps (vptr rb ro ∷ []) passed $ fjoin3 ! $
          nothing ! $ nothing ! $ fjoin ! $ nothing ! $ fjoin ! $ move ! (1 ∷ 0 ∷ []) $ fjoin ! $
          feq_i ! (List Val) (vunit ∷ []) (vunit ∷ []) refl $ move ! (1 ∷ 0 ∷ []) $ done !

      -- a walk that begins so
      abbrev pub Walk : (List Val → (Val → SProp 𝓤) → SProp 𝓤) → Type 1
      Walk G = ps ≡ vptr rb ro ∷ [] → Asks d → (b o : ℕ) (hv v : Val) → Fits E.al hv → Good (τ E) v
          → ent 𝓤 (⋆ 𝓛 (Had b o hv v)) (G (vptr rb ro ∷ vacant_val hv b o ∷ v ∷ []) Post)

      enters : (G : List Val → (Val → SProp 𝓤) → SProp 𝓤) → Walk G → Asks d
          → ent 𝓤 (⋆ 𝓛 ((‵ (flft κ q) ⊛ ‵ ftrue) ∷ ‵ (owns (MutRef (named 0) κ (Nr E) ∷ Room ∷ R E ∷ []) (self, (room, (x, tt))) (ps, (us, (vs, tt)))) ∷ []))
          (G (ps ++ (us ++ (vs ++ []))) Post)
      enters G walk asked =
          qed 𝓛 ((‵ (flft κ q) ⊛ ‵ ftrue) ∷ ‵ (owns (MutRef (named 0) κ (Nr E) ∷ Room ∷ R E ∷ []) (self, (room, (x, tt))) (ps, (us, (vs, tt)))) ∷ []) ∵
          split ! $ move ! (2 ∷ []) $ fsplit3 ! $ fsplit3 ! $ feq_l ! (λ e. move ! (3 ∷ []) $ fsplit ! $ el_tells E ! x vs (λ v g good.
          move ! (4 ∷ []) $ Vacant-had E.al NodeRow ! room us (λ b o hv at f fits. keep ! (5 ∷ 6 ∷ 7 ∷ 0 ∷ 1 ∷ 2 ∷ 3 ∷ []) $
          by ! (subst (λ (ws : List Val × List Val × List Val). ent 𝓤 (⋆ 𝓛 (Had b o hv v)) (G (ws.0 ++ (ws.1 ++ (ws.2 ++ []))) Post)) (λ j. (sym e j, sym f j, sym g j)) (walk e asked b o hv v fits good)))))

    pub meets_by : {M : Type 1} {𝓤 : Ura M} (𝓛 : Logic 𝓤) (𝓣 : Tables 𝓤 𝓛.H) (function : Fn)
        → ((κ : Lft) (q : Share) (rb ro : ℕ) (γ : GName) (d : D E) (room : Room.Denot) (x : X E) (ps us vs : List Val) → Walk 𝓛 κ q rb ro γ d room x ps us vs (WpFn 𝓤 𝓛.H 𝓣.C 𝓣.Λ function))
        → Meets 𝓛 ended.signature (WpFn 𝓤 𝓛.H 𝓣.C 𝓣.Λ function) (closing 𝓛 ended (spec 𝓛))
    meets_by {𝓤 = 𝓤} 𝓛 𝓣 function walk =
        walk_Meets 𝓛 ended stayed (Goes-ref 𝓛 1 0 tt (plain (λ _. Nr E)), (Goes-blank 𝓛 1 (plain (λ _. Room)) no (λ κs x f. tt), (Goes-dropped 𝓛 1 (plain (λ _. R E)) no (λ κs x f. refl), tt))) (spec 𝓛) (WpFn 𝓤 𝓛.H 𝓣.C 𝓣.Λ function) (WpFn-mono 𝓤 𝓛.H 𝓛.laws 𝓣 function)
        (λ z. let a = z.0.3 in let s = a.0 in let vss = z.0.4 in needs 𝓤 (Asks s.now) _
        (λ asked. enters 𝓛 z.0.0.0 z.0.1.0 s.ref_ptr.0 s.ref_ptr.1 s.ghost_name s.now a.1.0 a.1.1.0 vss.0 vss.1.0 vss.1.1.0 (WpFn 𝓤 𝓛.H 𝓣.C 𝓣.Λ function)
        (walk z.0.0.0 z.0.1.0 s.ref_ptr.0 s.ref_ptr.1 s.ghost_name s.now a.1.0 a.1.1.0 vss.0 vss.1.0 vss.1.1.0) asked))
