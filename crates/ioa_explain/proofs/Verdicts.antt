-- What the reader and the check say of a text.
use Rattle.std.proofs.Common.{◌≡◌, ◌<◌, ◌≤◌, ◌⊎◌, inl, inr, ℕ, List, length, Option, Some, None, Ok, Err, true}
use Rattle.std.proofs.Common.{subst, sym, arith}
use Rattle.std.specs.Prelude.{◌≢◌, IfSome}
use Rattle.std.specs.Option.{option_map}
use Rattle.ioa_text_reader.specs.declared.fault.FrontFault.{FrontFault}
use Rattle.ioa_text_reader.specs.declared.fault.FrontFault.TheVariants as front
use Rattle.ioa_text_reader.specs.Texts.{TextSpells, StandsInText, is_exact, length_limit}
use Rattle.ioa_refusals.specs.declared.refusal.Refusal.{Refusal}
use Rattle.ioa_sections.specs.declared.fault.CheckFault.TheVariants as fault
use Rattle.ioa_check.specs.Checking.{system_of}
use Rattle.ioa_check.specs.Systems.{IsSystemOf}
use Rattle.ioa_source.specs.Sides.{SourceText}
use Rattle.ioa_explain.specs.declared.verdict.Verdict.{Verdict}
use Rattle.ioa_explain.specs.declared.verdict.Verdict.TheVariants.{Accepted, Unread, Refused}
use Rattle.ioa_explain.specs.Verdicts.{DescribesSystem, IsFaultOf, IsReadersRefusal, IsRefusalOf, IsVerdictOf}
use Rattle.ioa_explain.specs.Verdicts.{HasTokens, IsVerdictOn, SaysWhether, unread_verdict}
use Rattle.ioa_tokens.specs.declared.token.LocatedToken.{LocatedToken}
use Rattle.ioa_tokens.specs.Tokens.{tokens}
use Rattle.ioa_walk.specs.declared.span.Span.{Span}
use Rattle.ioa_walk.specs.Places.{IsSpanIn}
use Rattle.ioa_culprit.specs.Cuts.{AreTokensOf}
use Rattle.ioa_culprit.specs.declared.finding.Spot.{Spot}

-- a refusal is no want of memory
never_memory : (r : Refusal) (index : ℕ) → fault.Refused r index ≡ fault.Memory → ⊥
never_memory r index memory = cc

-- what a refusal says, if want of memory says nothing
said_of_refusal : (r : Refusal) (index : ℕ) (P : Type 0) → (fault.Refused r index ≡ fault.Memory) ⊎ P → P
said_of_refusal r index P (inl memory) = absurd (never_memory r index memory)
said_of_refusal r index P (inr said) = said

-- a fault of the check that is a refusal is its refusal
pub refused_exact : (r : Refusal) (index : ℕ) (p : SourceText) → IsFaultOf (fault.Refused r index) p
    → IsRefusalOf r index p
refused_exact r index p h =
    record { exact = said_of_refusal r index (system_of p ≡ Err (fault.Refused r index)) h.exact; none = h.none }

-- a text that is not too long is short enough
at_most : (n most : ℕ) → (most < n → ⊥) → n ≤ most
at_most n most short = omega (arith, short)

-- a verdict on the source of a text is one on the text
pub verdict_on : (v : Verdict) (p : SourceText) (text : List ℕ) → IsVerdictOf v p text → TextSpells p text
    → (length_limit < length text → ⊥) → IsVerdictOn v text
verdict_on Accepted p text said spelled short =
    record { short = at_most _ _ short; source = p; spelled = spelled; system = said.0; meant = said.1 }
verdict_on (Unread e) p text said spelled short = absurd said
verdict_on (Refused r index part) p text said spelled short =
    record { short = at_most _ _ short; source = p; spelled = spelled; exact = said.0.exact; within = said.1 }

-- the text describes no system if its only source does not
pub whether_by : (v : Verdict) (p : SourceText) (text : List ℕ) → IsVerdictOf v p text
    → ((q : SourceText) → length text ≤ length_limit → TextSpells q text → p ≡ q) → SaysWhether v text
whether_by Accepted p text said only = tt
whether_by (Unread e) p text said only = absurd said
whether_by (Refused r index part) p text said only = λ d.
    said.0.none d.system (subst (λ q. IsSystemOf q d.system) (sym (only d.source d.short d.spelled)) d.meant)

-- what the verdict of a refusal of the reader is
pub record IsUnread (e : FrontFault) (v : Verdict) : Type 0 where
  pub same : v ≡ Unread e
  pub refused : e ≢ front.Memory

pub unread_is : (e : FrontFault) (v : Verdict) → unread_verdict e ≡ Some v → IsUnread e v
unread_is front.Empty v h = record { same = cc; refused = λ m. absurd (cc) }
unread_is (front.BadCharacter offset) v h = record { same = cc; refused = λ m. absurd (cc) }
unread_is (front.Unexpected offset) v h = record { same = cc; refused = λ m. absurd (cc) }
unread_is (front.NumberTooLarge offset) v h = record { same = cc; refused = λ m. absurd (cc) }
unread_is (front.TooDeep offset) v h = record { same = cc; refused = λ m. absurd (cc) }
unread_is front.TooLong v h = record { same = cc; refused = λ m. absurd (cc) }
unread_is (front.LeftOut w offset) v h = record { same = cc; refused = λ m. absurd (cc) }
unread_is front.Memory v h = absurd (cc)

-- what may be want of memory, and is none
is_other : (e x : FrontFault) → e ≢ front.Memory → (e ≡ front.Memory) ⊎ (e ≡ x) → e ≡ x
is_other e x refused (inl memory) = absurd (refused memory)
is_other e x refused (inr same) = same

pub unread_on : (e : FrontFault) (v : Verdict) (text : List ℕ) → unread_verdict e ≡ Some v → StandsInText e text
    → ((x : FrontFault) → is_exact x ≡ true → StandsInText x text → (e ≡ front.Memory) ⊎ (e ≡ x))
    → IsVerdictOn v text
unread_on e v text h stands exact =
    let u : IsUnread e v = unread_is e v h in
    let said : IsReadersRefusal e text = record {
      no_want = u.refused;
      stands = stands;
      exact = λ x found there. is_other e x u.refused (exact x found there);
    } in
    subst (λ w. IsVerdictOn w text) (sym u.same) said

pub unread_whether : (e : FrontFault) (v : Verdict) (text : List ℕ) → unread_verdict e ≡ Some v
    → ((q : SourceText) → length text ≤ length_limit → TextSpells q text → e ≡ front.Memory) → SaysWhether v text
unread_whether e v text h only =
    let u : IsUnread e v = unread_is e v h in
    let none : DescribesSystem text → ⊥ = λ d. u.refused (only d.source d.short d.spelled) in
    subst (λ w. SaysWhether w text) (sym u.same) none

-- with a refusal of the reader come no tokens
pub unread_tokens : (e : FrontFault) (v : Verdict) (text : List ℕ) (ts : List LocatedToken)
    → unread_verdict e ≡ Some v → HasTokens v text ts
unread_tokens e v text ts h =
    let u : IsUnread e v = unread_is e v h in
    let none : HasTokens (Unread e) text ts = tt in
    subst (λ w. HasTokens w text ts) (sym u.same) none

-- a text with a part has been cut
pub cut_by : (text : List ℕ) (ts : List LocatedToken) (s : Span) → AreTokensOf text ts → IsSpanIn text s
    → tokens text ≡ Ok ts
cut_by text ts s are within = subst (λ l. tokens text ≡ Ok l) (sym (are within.ts within.cut)) within.cut

-- a place that was found is a part of the text
spot_within : (spot : Option Spot) (text : List ℕ) → IfSome spot (λ c. IsSpanIn text c.span)
    → IfSome (option_map (λ c. c.span) spot) (IsSpanIn text)
spot_within None text h = tt
spot_within (Some c) text h = h

-- the verdict of a refusal of the check, with what the search for the part comes to
pub said_by : (v : Verdict) (r : Refusal) (index : ℕ) (spot : Option Spot) (p : SourceText) (text : List ℕ)
    → v ≡ Refused r index (option_map (λ c. c.span) spot) → IsRefusalOf r index p
    → IfSome spot (λ c. IsSpanIn text c.span) → IsVerdictOf v p text
said_by v r index spot p text same refused found =
    let said : IsVerdictOf (Refused r index (option_map (λ c. c.span) spot)) p text =
    (refused, spot_within spot text found) in
    subst (λ w. IsVerdictOf w p text) (sym same) said

-- with it come the tokens of the text
pub tokens_by : (v : Verdict) (r : Refusal) (index : ℕ) (part : Option Span) (text : List ℕ) (ts : List LocatedToken)
    → v ≡ Refused r index part → AreTokensOf text ts → HasTokens v text ts
tokens_by v r index part text ts same are =
    let with_them : HasTokens (Refused r index part) text ts = are in
    subst (λ w. HasTokens w text ts) (sym same) with_them
