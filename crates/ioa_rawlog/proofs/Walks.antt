-- The names that the walks of `nodes` cite.
pub use mathlib.Core.Path.{◌≡◌, refl, sym, ap, subst, ◌∙◌}
pub use mathlib.Core.List.{List, [], ◌∷◌, ◌++◌, map-append}
pub use Prim.Native.Nat.{ℕ, suc, ◌+◌, ◌-◌, ◌<◌, ◌≤◌, ◌^◌}
pub use native.Mathlib.Omega.{arith}
pub use lib.Dec.{lit<}
pub use lib.ListN.{length, length-append, length-map, get_or, set}
pub use seplogic.Ra.Ura.{Ura}
pub use base.Logic.{SProp, ent, sep, emp, via, fst∗, never}
pub use base.Fml.{Lft, GName, Share, Fml, ftrue, fsep, froom, flft, fobs, fbor}
pub use base.Fraction.{full_share}
pub use mir.Syntax.{Fn, named, w64, ty_ptr}
pub use mir.MapTy.{inst_fn}
pub use mir.Val.{Val, vint, vptr, vunit}
pub use prog.Wp.{Env, Calls, Loops, WpFn, Tables}
pub use types.Logic.{Logic, sem}
pub use types.SemTy.{Body as Borrowed}
pub use contract.Monad.{fact}
pub use contract.Running.{tables}
unfoldable pub use contract.Running.{tables_of}
pub use sound.WpLaws.{WpFn-mono}
pub use types.Kit.{Item, ⋆, ‵, raw, ◌⊛◌, some, later, await, pick, at_ret, ◌$◌, ◌∵◌, !, qed, by, move, keep, use1, use2, drop, split, join, group, rewrite, fsplit, fsplit3, fjoin, fjoin3, fpack, feq_i, feq_l, flt_l, suffices, frame, done}
pub use types.Part.{whole, sub, agg, look_in, store_in}
pub use types.Run.{init, store, look, stop, from, fld, load, lit, unit_lit, of_opd, addr, and_then, no_more, assigns, assigns_last, first, blocks, exec, returns, enter}
pub use types.ByLocal.{alloc_all, pass_all, free_all, look_at, get, get_in, through, sets, sets_last, is, env}
pub use denote.Exit.{yes, no}
pub use denote.RattleType.{RattleType, owns}
pub use denote.Memory.{cell_at, part_at, mem, lone, shared_of, hidden_shr}
unfoldable pub use denote.Memory.{part_of}
pub use denote.RawPtr.{Ptr, RawPtr, block_ptr, ptr_val, in_a_block, ◌+ₚ◌}
pub use denote.Ref.{Bor, MutBor, ShrRef, MutRef}
pub use denote.Builtin.{RefOf, RefMutOf, unit, usize}
pub use denote.Signature.{plain, mut_ref_to}
pub use denote.Steps.{nothing}
pub use denote.Opens.{hide}
pub use denote.Follow.{follows, Part, lends_Part}
pub use denote.Struct.Struct.{as_fields}
pub use denote.Struct.Tuple.{Tuple}
pub use denote.Struct.Lending.{lent_at}
pub use denote.Triple.Carry.{spared}
pub use denote.Triple.Clauses.{Clauses, Ended, closing}
pub use denote.Triple.Entry.{on_entry}
pub use denote.Triple.Spec.{Meets, triple_of}
pub use denote.Triple.Table.{entered, run_framed}
pub use denote.Triple.Walked.{says, needs, Stays, stay_dropped, stay_ref, walk_of, ends_at, Goes-dropped, Goes-ref, Goes-spent_ref, walk_Meets}
pub use Rattle.core.proofs.alloc.Calls.{α, token, Fits, Goes-blank}
pub use Rattle.core.proofs.slice.Lists.{any-default}
pub use Rattle.std_alloc.proofs.VecSteps.Shapes.{after}
pub use Rattle.std_alloc.proofs.RawLayout.{as_written}
pub use Rattle.std_alloc.proofs.RcSteps.{Good, Ptr-Good, word, word-Good}
pub use Rattle.std_alloc.proofs.BoxSteps.Form.{Bx, args, X, τ, own, R, P}
pub use Rattle.std_alloc.proofs.BoxSteps.Steps.{el_tells}
pub use Rattle.std_alloc.proofs.OfVacant.{Vacant, vacant_val, vacant_ty, vacant_typed, Vacant-had, Vacant-made}
pub use Rattle.std_alloc.proofs.Pairs.{pair_val, pair_Typed, pair_of}
pub use Rattle.std_collections.proofs.TreeMemory.Owned.{word_had, word_made}
pub use Rattle.std_collections.proofs.ListMemory.Steps.{uncons, unsnoc}
pub use Rattle.std_collections.proofs.ListMemory.Seen.{pointer_in, pointer_out}
