-- Verdicts, one after another.
use Rattle.std.proofs.Common.{◌≡◌, ℕ, Bool, true, false, ◌||◌, List, [], ◌∷◌, Result, Ok, Err, refl, if◌then◌else◌}
use Rattle.ioa_values.specs.Data.{Data}
use Rattle.ioa_operators.specs.declared.fault.TermFault.{TermFault}
use Rattle.ioa_operators.specs.declared.fault.TermFault.TheVariants as fault
use Rattle.ioa_system.specs.Invariants.{InvariantParts}
use Rattle.ioa_transitions.specs.Entries.{PlainEntry}
use Rattle.ioa_compose.specs.declared.configuration.Conf.{Conf}
use Rattle.ioa_verdicts.specs.Verdicts.{answer_in, is_true, or_later, verdict_at, verdict_from}
use Rattle.ioa_verdicts.specs.declared.verdict.Verdict.{Verdict}
use Rattle.ioa_verdicts.specs.declared.verdict.Verdict.TheVariants.{Holds, Fails, Undefined, Range}

-- a verdict, and then another one if it is asked for
abbrev pub chosen : Bool → Verdict → Verdict → Verdict
chosen b f w = if b then or_later f w else f

-- one verdict twice
pub or_later-itself : (w : Verdict) → or_later w w ≡ w
or_later-itself Holds = refl
or_later-itself (Fails k) = refl
or_later-itself (Undefined k) = refl
or_later-itself (Range k) = refl

-- nothing behind a verdict
pub or_later-holds : (w : Verdict) → or_later w Holds ≡ w
or_later-holds Holds = refl
or_later-holds (Fails k) = refl
or_later-holds (Undefined k) = refl
or_later-holds (Range k) = refl

pub or_later-assoc : (f a w : Verdict) → or_later (or_later f a) w ≡ or_later f (or_later a w)
or_later-assoc Holds a w = refl
or_later-assoc (Fails k) a w = refl
or_later-assoc (Undefined k) a w = refl
or_later-assoc (Range k) a w = refl

-- what is said again between two verdicts
pub or_later-between : (f a w : Verdict) → (f ≡ Holds → a ≡ Holds) → or_later f (or_later a w) ≡ or_later f w
or_later-between Holds a w h = let holds : a ≡ Holds = h refl in rw holds refl
or_later-between (Fails k) a w h = refl
or_later-between (Undefined k) a w h = refl
or_later-between (Range k) a w h = refl

-- and at the end
pub or_later-end : (f a : Verdict) → (f ≡ Holds → a ≡ Holds) → or_later f a ≡ f
or_later-end Holds a h = h refl
or_later-end (Fails k) a h = refl
or_later-end (Undefined k) a h = refl
or_later-end (Range k) a h = refl

-- two verdicts hold if one after the other does
pub or_later-second : (f a : Verdict) → or_later f a ≡ Holds → a ≡ Holds
or_later-second Holds a h = h
or_later-second (Fails k) a h = absurd (cc)
or_later-second (Undefined k) a h = absurd (cc)
or_later-second (Range k) a h = absurd (cc)

-- what is chosen again is chosen once
pub chosen-again : (a b : Bool) (f w : Verdict) → chosen b (chosen a f w) w ≡ chosen (a || b) f w
chosen-again true true f w = rw or_later-assoc (rw or_later-itself refl)
chosen-again true false f w = refl
chosen-again false true f w = refl
chosen-again false false f w = refl

-- an answer that is true in one state is so whatever the state's number
pub holds_at : (k j : ℕ) (r : Result Data TermFault) → verdict_at k r ≡ Holds → verdict_at j r ≡ Holds
holds_at k j (Ok d) h = by_test (is_true d) h
  where
    by_test : (b : Bool) → (if b then Holds else Fails k) ≡ Holds → (if b then Holds else Fails j) ≡ Holds
    by_test true h = refl
    by_test false h = absurd (cc)
holds_at k j (Err fault.Undefined) h = absurd (cc)
holds_at k j (Err fault.Range) h = absurd (cc)
holds_at k j (Err fault.Memory) h = absurd (cc)

-- a verdict on a schedule says what the first state says
pub first_now : (v : InvariantParts) (k : ℕ) (entries : List PlainEntry) (cs : List Conf) →
    or_later (verdict_at k (answer_in v cs)) (verdict_from v k entries cs) ≡ verdict_from v k entries cs
first_now v k [] cs = or_later-itself (verdict_at k (answer_in v cs))
first_now v k (e ∷ more) cs =
    rw (← or_later-assoc) (rw or_later-itself refl)
