-- What the walks are made of: the machine value of a token, and how a walk ends. Assumes `Logic`.
pub use Rattle.std.proofs.Common.{◌≡◌, ℕ, ◌+◌, List, [], ◌∷◌, ◌++◌, refl, length}
pub use Rattle.std.proofs.raw_atomic.Walks.{leaves, proved}
use seplogic.Ra.Ura.{Ura}
pub use mir.Syntax.{a_type, dnil, named}
pub use mir.Val.{Val, vunit, vptr}
use mir.Val.{vstruct, vcons, vnil}
pub use mir.MapTy.{inst_fn}
pub use base.Logic.{SProp, emp}
use base.Logic.{ent, sep, wand, apply∗}
pub use base.Stored.{Gv}
pub use base.Fml.{Fml, ftrue, fsep, flft, fhide}
use base.Fml.{Lft, fbor}
pub use contract.Monad.{fact, fact_i}
pub use contract.Running.{tables}
use types.Logic.{Logic, sem, lfts}
pub use types.Kit.{‵, raw, ◌⊛◌, some, given, later, ◌$◌, ◌∵◌, !, qed, by, move, keep, drop, split, join, fsplit}
pub use types.Kit.{fsplit3, fjoin, fjoin3, pick, learn, use0, use1, use2, await, rewrite, feq_i}
use types.Kit.{updating, now, done}
pub use types.Run.{of_opd, unit_lit, no_more, and_then, returns, enter}
pub use types.ByLocal.{alloc_all, pass_all, free_all, look_at, get, sets}
pub use types.Part.{agg}
pub use denote.Exit.{yes}
pub use denote.RattleType.{RattleType, owns}
pub use denote.Signature.{types_at, plain}
use denote.Signature.{type_at}
pub use denote.Builtin.{RefOf, unit}
pub use denote.Ref.{mut_vals, mut_Tells, shr_vals, shr_Tells}
pub use denote.Memory.{hidden_shr}
pub use denote.Opens.{unhide}
pub use denote.Steps.{nothing, opens, closes}
use denote.Shadow.{makes_shadow}
use denote.Sharing.{said}
pub use denote.Param.{param, bounded}
use denote.Struct.Struct.{Struct}
pub use denote.Struct.Lending.{lent_out}
use denote.Struct.Lending.{Lends}
use denote.Triple.Clauses.{Ended, Clauses, Lasts, at_exit}
use denote.Triple.Entry.{Res, alive}
pub use denote.Triple.Walked.{Stays, walk_of, stay_dropped, stay_ref, Goes-dropped, Goes-ref}
use denote.Triple.Walked.{Fit, has_of}
use base.Growing.{latest, at_least}
use base.Shift.{Keyless}
use Rattle.std.specs.contracts.marker.PhantomData as marker
use Rattle.ioa_sharing.specs.Kept.{entry_owns, ledger_owns}

-- a struct of one field of no bytes
abbrev pub token : Val
token = vstruct (vcons (vstruct vnil) vnil)

module _ (X : RattleType) where
  abbrev pub Token : RattleType
  Token = Struct record { name = []; args = []; types = []; fields = marker.the_row X ∷ [] }

  module _ {M : Type 1} {𝓤 : Ura M} (𝓛 : Logic 𝓤) where
    -- its machine value is made of nothing
    pub token_made : ent 𝓤 (emp 𝓤) (sem 𝓛 (Token.own_val (record {}, tt) (token ∷ [])))
    token_made = makes_shadow 𝓛 (Token.own_val (record {}, tt) (token ∷ [])) (λ vss. (tt, ((λ uss. (tt, tt)), tt)))
        ((vstruct vnil ∷ [], tt), (refl, ((tt, (refl, tt)), tt)))

module _ {M : Type 1} {𝓤 : Ura M} (𝓛 : Logic 𝓤) where
  -- a walk ends with a result whose clauses are plain facts
  pub ends : (T : Ended) (hs : Stays T.signature.params T.kept) (c : Clauses 𝓤 T) (y : (walk_of 𝓛 T hs c).Ghost)
      (v : Val) (r : Res T.signature y.0.0) (ws : Lasts T y.0.0 y.0.3) → Fit T hs y.0.0 y.0.3 ws
      → ent 𝓤 (emp 𝓤) ((c y.0.0 y.0.3).ensures y.1 r (at_exit T y.0.0 y.0.3 ws))
      → ent 𝓤 (sep 𝓤 (alive 𝓛 T.signature y.0.0 y.0.1)
      (sep 𝓤 (sem 𝓛 (has_of y.0.0 T.signature.params T.kept hs y.0.3 ws y.0.4))
      (sem 𝓛 ((type_at T.signature.result y.0.0).own_val r (v ∷ []))))) ((walk_of 𝓛 T hs c).post y v)
  ends T hs c y v r ws fit told =
      qed 𝓛 (raw (alive 𝓛 T.signature y.0.0 y.0.1) ∷ ‵ (has_of y.0.0 T.signature.params T.kept hs y.0.3 ws y.0.4)
      ∷ ‵ ((type_at T.signature.result y.0.0).own_val r (v ∷ [])) ∷ []) ∵
      use0 𝓛 (raw ((c y.0.0 y.0.3).ensures y.1 r (at_exit T y.0.0 y.0.3 ws))) told $
      move ! (1 ∷ 2 ∷ 3 ∷ []) $ by ! (leaves 𝓛 T hs c y v r ws fit)

  -- what can be had twice is lent as it is
  pub lends_twice : (P : Fml) → ent 𝓤 (sem 𝓛 P) (sep 𝓤 (sem 𝓛 P) (sem 𝓛 P)) → (l : Lft) → Lends 𝓛 P (said P) l
  lends_twice P dup l κ ts inc split_at = let Back = 𝓛.H.⇛ (sep 𝓤 (𝓛.A.bor κ P) (lfts 𝓛 ts)) in
      qed 𝓛 (‵ (fbor κ P) ∷ raw (lfts 𝓛 ts) ∷ []) ∵ updating ! $
      use2 𝓛 (later (‵ P ⊛ raw (wand 𝓤 (sem 𝓛 P) Back))) (𝓛.more.bor_acc_by κ ts P split_at) $ await ! tt $ split ! $
      use1 𝓛 (‵ P ⊛ ‵ P) dup $ split ! $ move ! (0 ∷ 2 ∷ []) $
      use2 𝓛 (later (‵ (fbor κ P) ⊛ raw (lfts 𝓛 ts))) (apply∗ 𝓤 (sem 𝓛 P) Back) $ await ! tt $ split ! $ drop ! $
      move ! (1 ∷ 0 ∷ []) $ now ! $ done !

-- a list names no token of one thread
pub ledger_keyless : (name : ℕ) (log : List Gv) → Keyless (ledger_owns name log)
unfolding latest
ledger_keyless name log = tt

module _ {X : Type 0} (code : X → Gv) where
  -- nor does an entry
  pub entry_keyless : (name number : ℕ) (value : X) → Keyless (entry_owns code name number value)
  unfolding at_least
  entry_keyless name number value = λ log. ((λ told. tt), tt)
