-- A schedule that is told step by step.
use Rattle.std.proofs.Common.{◌≡◌, ℕ, ◌+◌, List, [], ◌∷◌, ◌++◌, Option, Some, Ok, refl, ap, sym, subst, ◌∙◌, arith, length, append_assoc}
use Rattle.std.proofs.lemmas.List.{append-nil, length-append}
use Rattle.std.specs.List.{AllByRecursion, position_from}
use Rattle.std.specs.Prelude.{slice_get}
use Rattle.ioa_actions.specs.ActionParts.{node_of}
use Rattle.ioa_actions.specs.ComponentOrder.{same_component}
use Rattle.ioa_actions.specs.declared.component.Component.{Component}
use Rattle.ioa_actions.specs.declared.component.Component.TheVariants.{Node}
use Rattle.ioa_compose.specs.Composition.{component_names, find_conf, joint_answer}
use Rattle.ioa_compose.specs.Executions.{replay}
use Rattle.ioa_compose.specs.Participants.{participants_of}
use Rattle.ioa_compose.specs.Start.{start}
use Rattle.ioa_compose.specs.declared.configuration.Conf.{Conf}
use Rattle.ioa_commits.specs.Books.{states_after}
use Rattle.ioa_system.specs.Systems.{SystemParts}
use Rattle.ioa_transitions.specs.Entries.{PlainEntry}
use Rattle.ioa_commits.proofs.Commits.{held_is}
use Rattle.ioa_compose.proofs.Replays.{replay-push}
use Rattle.ioa_course.proofs.Standing.{stands_in}
use Rattle.ioa_reasons.specs.Reasons.{queue_among}
use Rattle.ioa_tell.specs.Events.{PlainEvent, taken}
use Rattle.ioa_tell.specs.Refusals.{PlainRefusal}
use Rattle.ioa_tell.specs.Schedules.{HearsRefusedIf, HearsStep, HearsSteps, HearsTakenTo, IsTake, TellsSchedule}
use Rattle.ioa_tell.specs.Told.{IsTakenFrom}
use Rattle.ioa_tell.proofs.Tellings.{heard_then, told_then}

-- what stands in the slot of a component is what is found by its name
pub found_in_slot : (k : Component) (cs : List Conf) (m : ℕ)
    → Some m ≡ position_from (λ l. same_component k l) 0 (component_names cs) → slice_get cs m ≡ find_conf k cs
found_in_slot k cs m h =
    let there = stands_in k m (component_names cs) cs refl h in
    there.at ∙ sym there.found

-- events of which each takes an action, and one more that does
takes_then : (xs ys : List PlainEvent) → AllByRecursion IsTake xs → AllByRecursion IsTake ys
    → AllByRecursion IsTake (xs ++ ys)
takes_then [] ys h g = g
takes_then (x ∷ xs) ys h g = (h.0, takes_then xs ys h.1 g)

module _ {S : Type 0} (hears : PlainEvent → S → S → Type 0) where
  -- a step is told that was taken
  pub step_told : (cs next : List Conf) (k : ℕ) (e : PlainEntry) (was : Conf) (x y : S)
      → joint_answer e cs ≡ Ok next → find_conf (Node (node_of e.action)) cs ≡ Some was
      → HearsTakenTo hears next k e was x y → HearsStep hears cs next k e x y
  step_told cs next k e was x y step before h = record {
    before = was;
    after = h.after;
    step = record { step = step; before = before; after = h.found; queue = refl };
    heard = h.heard;
  }

  -- one more step is told
  steps_further : (first cs next : List Conf) (log : List PlainEntry) (e : PlainEntry) (k : ℕ) (x y z : S)
      → HearsSteps hears first cs log x y → k ≡ length log → HearsStep hears cs next k e y z
      → HearsSteps hears first next (log ++ e ∷ []) x z
  steps_further first cs next log e k x y z f count g = record {
    replayed = replayed;
    events = f.events ++ event ∷ [];
    told = told_then first [] f.events (event ∷ []) log (log ++ e ∷ []) f.told (count, there, refl);
    takes = takes_then f.events (event ∷ []) f.takes (tt, tt);
    heard = heard_then hears f.events (event ∷ []) x y z f.heard (z, g.heard, refl);
  }
    where
      queue : Option Conf
      queue = queue_among (participants_of e.action) next

      event : PlainEvent
      event = taken k e g.before g.after queue

      replayed : replay (log ++ e ∷ []) first ≡ Some next
      replayed = replay-push log e first cs next f.replayed g.step.step

      there : IsTakenFrom (states_after first log) (states_after first (log ++ e ∷ [])) e g.before g.after queue
      there =
          subst (λ (c : List Conf). IsTakenFrom c (states_after first (log ++ e ∷ [])) e g.before g.after queue)
          (sym (held_is first cs log f.replayed))
          (subst (λ (n : List Conf). IsTakenFrom cs n e g.before g.after queue)
          (sym (held_is first next (log ++ e ∷ []) replayed)) g.step)

  -- the steps by the first entries are told, as many as that, and these are left
  pub record SoFar (first cs : List Conf) (all rest : List PlainEntry) (k : ℕ) (x y : S) : Type 0 where
    pub log : List PlainEntry
    pub split : log ++ rest ≡ all
    pub count : k ≡ length log
    pub steps : HearsSteps hears first cs log x y

  pub so_far_none : (cs : List Conf) (all rest : List PlainEntry) (x : S) → rest ≡ all
      → SoFar cs cs all rest 0 x x
  so_far_none cs all rest x whole = record {
    log = [];
    split = whole;
    count = refl;
    steps = record { replayed = refl; events = []; told = refl; takes = tt; heard = refl };
  }

  pub so_far_on : (first cs next : List Conf) (all rest more : List PlainEntry) (e : PlainEntry) (k : ℕ) (x y z : S)
      → SoFar first cs all rest k x y → rest ≡ e ∷ more → HearsStep hears cs next k e y z
      → SoFar first next all more (k + 1) x z
  so_far_on first cs next all rest more e k x y z f split step = record {
    log = f.log ++ e ∷ [];
    split = append_assoc f.log (e ∷ []) more ∙ ap (λ (xs : List PlainEntry). f.log ++ xs) (sym split) ∙ f.split;
    count = omega (arith, f.count, length-append f.log (e ∷ []));
    steps = steps_further first cs next f.log e k x y z f.steps f.count step;
  }

  pub so_far_all : (first cs : List Conf) (all rest : List PlainEntry) (k : ℕ) (x y : S)
      → SoFar first cs all rest k x y → rest ≡ [] → HearsSteps hears first cs all x y
  so_far_all first cs all rest k x y f over =
      let whole : f.log ≡ all =
      sym (append-nil f.log) ∙ ap (λ (xs : List PlainEntry). f.log ++ xs) (sym over) ∙ f.split in
      subst (λ (log : List PlainEntry). HearsSteps hears first cs log x y) whole f.steps

  -- and then the entry that is no step, if there is one
  pub schedule_told : (refuses : ℕ → PlainEntry → PlainRefusal → S → S → Type 0) (s : SystemParts) (cs next : List Conf)
      (entries : List PlainEntry) (refused : Option PlainEntry) (k : ℕ) (x y z : S) → cs ≡ start s
      → k ≡ length entries → HearsSteps hears cs next entries x y → HearsRefusedIf refuses next k refused y z
      → TellsSchedule hears refuses s entries refused x z
  schedule_told refuses s cs next entries refused k x y z at_start count f g =
      let steps : HearsSteps hears (start s) next entries x y =
      subst (λ (c : List Conf). HearsSteps hears c next entries x y) at_start f in
      let there : HearsRefusedIf refuses (states_after (start s) entries) k refused y z =
      subst (λ (c : List Conf). HearsRefusedIf refuses c k refused y z)
      (sym (held_is (start s) next entries steps.replayed)) g in
      record {
        events = steps.events;
        told = steps.told;
        takes = steps.takes;
        mid = y;
        heard = steps.heard;
        refusal = subst (λ (n : ℕ). HearsRefusedIf refuses (states_after (start s) entries) n refused y z) count there;
      }
