-- What a look shows of a run of an accepted system, and what a turn on it leaves.
use Rattle.std.proofs.Common.{◌≡◌, Bool, List, Some, Ok, sym, subst, length}
use Rattle.std.specs.Prelude.{filter}
use Rattle.std.specs.List.{AllByRecursion, Contains}
use Rattle.std.proofs.lemmas.List.Elements.{All-filter, All-from_recursion, recursion_from_All}
use Rattle.ioa_terms.specs.Inboxes.{inbox_values}
use Rattle.ioa_source.specs.Sides.{SourceText}
use Rattle.ioa_system.specs.Parts.{Parts, message_shape}
use Rattle.ioa_system.specs.Systems.{SystemParts}
use Rattle.ioa_check.specs.Systems.{IsSystemOf}
use Rattle.ioa_compose.specs.Executions.{replay}
use Rattle.ioa_compose.specs.Start.{start}
use Rattle.ioa_compose.specs.declared.configuration.Conf.{Conf}
use Rattle.ioa_commits.specs.Books.{PlainBook, states_held}
use Rattle.ioa_commits.specs.Versions.{read_confs}
use Rattle.ioa_book.specs.Looks.{PlainSnapshot}
use Rattle.ioa_book.proofs.FreshLooks.{confs_shown}
use Rattle.ioa_held.specs.Openings.{BeginsAt}
use Rattle.ioa_schedules.specs.Turns.{TurnEnd}
use Rattle.ioa_turns.specs.Inboxes.{inboxes_seen}
use Rattle.ioa_turns.specs.NodeTurns.{PlainProgress, turn_at}
use Rattle.ioa_solo.proofs.UpTo.{shown}
use Rattle.ioa_run_laws.specs.BlockStates.{IsBlockState}
use Rattle.ioa_run_laws.specs.Invariants.{IsWellRead}
use Rattle.ioa_run_laws.specs.Shaped.{AreShaped, FitInboxes, IsShapedConf}
use Rattle.ioa_run_laws.specs.SimpleValues.{AreSimpleValues}
use Rattle.ioa_run_laws.specs.UnderWay.{IsShownOf, IsUnderWay, ended, first, passed, turned, used}
use Rattle.ioa_run_laws.specs.WellSorted.{AreConfsWellSorted}
use Rattle.ioa_run_laws.proofs.BlockTurns.{block_passes, block_starts}
use Rattle.ioa_run_laws.proofs.ChosenValues.{replay_chosen}
use Rattle.ioa_run_laws.proofs.Evaluated.{confs_sorted}
use Rattle.ioa_run_laws.proofs.ReadInvariants.{replay_read}
use Rattle.ioa_run_laws.proofs.RunBlocks.{HoldsNode, turn_kept}
use Rattle.ioa_run_laws.proofs.Runs.{replay_shaped}
use Rattle.ioa_run_laws.proofs.SeenInboxes.{seen_fit}

-- the log of a book that begins at the start replays from there
leads : (s : SystemParts) (b : PlainBook) → BeginsAt s b → replay b.log (start s) ≡ Some (states_held b)
leads s b h = subst (λ (cs : List Conf). replay b.log cs ≡ Some (states_held b)) h.start h.lawful.leads

-- what is left out of configurations leaves their shapes
filtered : (s : SystemParts) (p : Conf → Bool) (cs : List Conf) → AreShaped s cs → AreShaped s (filter p cs)
filtered s p cs h = recursion_from_All (IsShapedConf s) (filter p cs) (All-filter p (IsShapedConf s) cs (All-from_recursion (IsShapedConf s) cs h))

module _ (x : SourceText) (s : SystemParts) (h : IsSystemOf x s) where
  -- the configurations that the book holds
  held_shaped : (b : PlainBook) → BeginsAt s b → AreShaped s (states_held b)
  held_shaped b begins = replay_shaped x s b.log (states_held b) h (leads s b begins)

  -- and those that a look has read
  look_shaped : (look : PlainSnapshot) → IsShownOf s look → AreShaped s (read_confs look.reads)
  look_shaped look k =
      subst (λ (l : PlainSnapshot). AreShaped s (read_confs l.reads)) (sym (shown k.book k.node k.pass look k.shown))
      (subst (λ (cs : List Conf). AreShaped s cs) (sym (confs_shown k.book k.node)) (filtered s _ (states_held k.book) (held_shaped k.book k.begins)))

  -- a node under way
  record IsGoing (p : PlainProgress) : Type 0 where
    present : Contains s.programs p.program
    block : IsBlockState p.program p.todo p.own

  turn_goes : (p : PlainProgress) (look : PlainSnapshot) (t : TurnEnd × PlainProgress) → IsShownOf s look → IsGoing p → turn_at (read_confs look.reads) p ≡ Ok t → IsGoing t.1
  turn_goes p look t k n e =
      let cs : List Conf = read_confs look.reads in
      let before : HoldsNode x s h cs p = record { present = n.present; block = n.block } in
      let after : HoldsNode x s h cs t.1 = turn_kept x s h cs p t (look_shaped look k) before e in
      record { present = after.present; block = after.block }

  goes : {p : PlainProgress} → IsUnderWay s p → IsGoing p
  goes (first {p = p} c) = record { present = c; block = block_starts x s p h c }
  goes (turned {p = p} {look = look} {t = t} before k e) = turn_goes p look t k (goes before) e
  goes (passed {p = p} before) =
      let n = goes before in
      record { present = n.present; block = block_passes p.program p.todo p.own n.block }
  goes (used before) = let n = goes before in record { present = n.present; block = n.block }
  goes (ended before) = let n = goes before in record { present = n.present; block = n.block }

pub shown_shaped : (x : SourceText) (s : SystemParts) (look : PlainSnapshot) → IsSystemOf x s → IsShownOf s look → AreShaped s (read_confs look.reads)
shown_shaped x s look h k = look_shaped x s h look k

pub shown_sorted : (x : SourceText) (s : SystemParts) (look : PlainSnapshot) → IsSystemOf x s → IsShownOf s look → AreConfsWellSorted (read_confs look.reads)
shown_sorted x s look h k = confs_sorted x s (read_confs look.reads) h (look_shaped x s h look k)

pub shown_inboxes : (x : SourceText) (s : SystemParts) (p : Parts) (look : PlainSnapshot) → IsSystemOf x s → Contains s.programs p → IsShownOf s look →
    FitInboxes (message_shape p.automaton.rules) (inbox_values (inboxes_seen p (read_confs look.reads)))
shown_inboxes x s p look h present k = seen_fit x s h p present (read_confs look.reads) (look_shaped x s h look k)

pub shown_turn : (x : SourceText) (s : SystemParts) (p : PlainProgress) (look : PlainSnapshot) (t : TurnEnd × PlainProgress) → IsSystemOf x s → Contains s.programs p.program → IsShownOf s look →
    IsBlockState p.program p.todo p.own → turn_at (read_confs look.reads) p ≡ Ok t → IsBlockState t.1.program t.1.todo t.1.own
shown_turn x s p look t h present k block e = (turn_goes x s h p look t k (record { present = present; block = block }) e).block

pub under_way : (x : SourceText) (s : SystemParts) (p : PlainProgress) → IsSystemOf x s → IsUnderWay s p → IsBlockState p.program p.todo p.own
under_way x s p h k = (goes x s h k).block

pub book_chosen : (x : SourceText) (s : SystemParts) (b : PlainBook) → IsSystemOf x s → BeginsAt s b → AllByRecursion (λ e. AreSimpleValues (length s.names) e.chosen) b.log
book_chosen x s b h begins = replay_chosen x s b.log (states_held b) h (leads s b begins)

pub book_read : (x : SourceText) (s : SystemParts) (b : PlainBook) → IsSystemOf x s → BeginsAt s b → AllByRecursion (IsWellRead s (states_held b)) s.invariants
book_read x s b h begins = replay_read x s b.log (states_held b) h (leads s b begins)
