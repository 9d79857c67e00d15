-- Replies to one event more.
use Rattle.std.proofs.Common.{◌≡◌, ◌+◌, ◌<◌, ℕ, Bool, false, List, [], ◌∷◌, ◌++◌, refl, sym, ap, ◌∙◌, take, get_or, length}
use Rattle.std.specs.List.{list_any}
use Rattle.std.proofs.lemmas.List.{take_more}
use Rattle.std.proofs.lemmas.List.Folds.{list_any-append}
use Rattle.ioa_core.specs.Cores.{IsHaltedAt, PlainCore, answer, core_after, replies}
use Rattle.ioa_core.specs.declared.event.Event.{Event}
use Rattle.ioa_core.specs.declared.reply.Reply.{Reply}

replies-push : (c : PlainCore) (es : List Event) (e : Event) → replies c (es ++ e ∷ []) ≡ replies c es ++ (answer (core_after c es) e).0 ∷ []
replies-push c [] e = refl
replies-push c (x ∷ es) e = ap (λ (rs : List Reply). (answer c x).0 ∷ rs) (replies-push (answer c x).1 es e)

core_after-push : (c : PlainCore) (es : List Event) (e : Event) → core_after c (es ++ e ∷ []) ≡ (answer (core_after c es) e).1
core_after-push c [] e = refl
core_after-push c (x ∷ es) e = core_after-push (answer c x).1 es e

module _ (old now new : PlainCore) (events : List Event) (i : ℕ) (e : Event) (told : List Reply) (r : Reply) (within : i < length events)
    (is : e ≡ get_or events i e) (stands : now ≡ core_after old (take i events)) (answered : answer now e ≡ (r, new)) where
  all : take (i + 1) events ≡ take i events ++ e ∷ []
  all = take_more events i e within ∙ ap (λ (x : Event). take i events ++ x ∷ []) (sym is)

  -- the reply to the next event is told behind the others
  pub told_next : told ≡ replies old (take i events) → told ++ r ∷ [] ≡ replies old (take (i + 1) events)
  told_next before =
      let this : (answer (core_after old (take i events)) e).0 ≡ r =
      ap (λ (c : PlainCore). (answer c e).0) (sym stands) ∙ ap (λ (t : Reply × PlainCore). t.0) answered in
      rw (all, replies-push old (take i events) e, this, before) refl

  -- and the core stands behind it
  pub after_next : new ≡ core_after old (take (i + 1) events)
  after_next =
      let this : (answer (core_after old (take i events)) e).1 ≡ new =
      ap (λ (c : PlainCore). (answer c e).1) (sym stands) ∙ ap (λ (t : Reply × PlainCore). t.1) answered in
      rw (all, core_after-push old (take i events) e, this) refl

-- a core that halts in front of an event
pub halted_at : (old new : PlainCore) (events : List Event) (i : ℕ) (told : List Reply) → i < length events → told ≡ replies old (take i events) →
    new ≡ core_after old (take i events) → IsHaltedAt old events told new
halted_at old new events i told within is stands = record { count = i; shorter = within; told_are = is; stands = stands }

-- none of the replies is of this kind, nor is one more
pub none_more : (p : Reply → Bool) (told : List Reply) (r : Reply) → list_any p told ≡ false → p r ≡ false → list_any p (told ++ r ∷ []) ≡ false
none_more p told r none this = rw (list_any-append p told (r ∷ []), none, this) refl
