-- What the reader and the check say of a text, as one fault.
use Rattle.std.proofs.Common.{◌≡◌, ◌<◌, ◌≤◌, ◌⊎◌, inl, inr, ℕ, List, length, Result, Ok, Err, true, refl, sym}
use Rattle.std.proofs.Common.{◌∙◌, ap, arith}
use Rattle.std.specs.Prelude.{IsErr, IsErrAnd}
use Rattle.ioa_text_reader.specs.declared.fault.FrontFault.{FrontFault}
use Rattle.ioa_text_reader.specs.declared.fault.FrontFault.TheVariants as front
use Rattle.ioa_text_reader.specs.Texts.{StandsInText, TextSpells, is_exact, length_limit}
use Rattle.ioa_sections.specs.declared.fault.CheckFault.{CheckFault}
use Rattle.ioa_sections.specs.declared.fault.CheckFault.TheVariants as check
use Rattle.ioa_check.specs.Checking.{system_of}
use Rattle.ioa_check.specs.Systems.{SaysNoSystem}
use Rattle.ioa_source.specs.Sides.{SourceText}
use Rattle.ioa_system.specs.Systems.{SystemParts}
use Rattle.ioa_pipeline.specs.declared.described.SystemFault.{SystemFault}
use Rattle.ioa_pipeline.specs.declared.described.SystemFault.TheVariants.{Front, Check, Memory}
use Rattle.ioa_pipeline.specs.Described.{IsExactBy, IsFaultOfText, IsRefusalOfCheck, system_fault_of_check, system_fault_of_front}

-- a text that is not too long is short enough
at_most : (n most : ℕ) → (most < n → ⊥) → n ≤ most
at_most n most short = omega (arith, short)

-- a fault of reading that is always found is passed on
named : (x : FrontFault) → is_exact x ≡ true → system_fault_of_front x ≡ Front x
named front.Empty exact = refl
named (front.BadCharacter offset) exact = refl
named (front.Unexpected offset) exact = absurd (cc)
named (front.NumberTooLarge offset) exact = refl
named (front.TooDeep offset) exact = absurd (cc)
named front.TooLong exact = refl
named (front.LeftOut w offset) exact = absurd (cc)
named front.Memory exact = absurd (cc)

-- a fault of reading is that of the text, and then nothing was checked
unread_exact : {S : Type 0} (text : List ℕ) (e : FrontFault) (f : SystemFault) → f ≡ system_fault_of_front e
    → ((x : FrontFault) → is_exact x ≡ true → StandsInText x text → (e ≡ front.Memory) ⊎ (e ≡ x))
    → (length_limit < length text → e ≡ front.TooLong)
    → ((p : SourceText) → length text ≤ length_limit → TextSpells p text → e ≡ front.Memory)
    → IsExactBy {T = S} Front Check Memory (Err f) text
unread_exact text e f is exact long only = record {
  reading = λ x found stands. by_outcome x found (exact x found stands);
  checking = λ p x short spelled refused. inr (is ∙ ap system_fault_of_front (only p short spelled));
}
  where
    short_of : e ≡ front.Memory → length text ≤ length_limit
    short_of memory =
        at_most (length text) length_limit
        (λ past. let both : front.Memory ≡ front.TooLong = sym memory ∙ long past in absurd (cc))

    by_outcome : (x : FrontFault) → is_exact x ≡ true → (e ≡ front.Memory) ⊎ (e ≡ x)
        → (f ≡ Front x) ⊎ ((f ≡ Memory) × (length text ≤ length_limit))
    by_outcome x found (inl memory) = inr (is ∙ ap system_fault_of_front memory, short_of memory)
    by_outcome x found (inr same) = inl (is ∙ (ap system_fault_of_front same ∙ named x found))

pub unread_outcome : {S : Type 0} (text : List ℕ) (e : FrontFault) (r : Result S SystemFault)
    → IsErr r × IsErrAnd r (λ f. f ≡ system_fault_of_front e)
    → ((x : FrontFault) → is_exact x ≡ true → StandsInText x text → (e ≡ front.Memory) ⊎ (e ≡ x))
    → (length_limit < length text → e ≡ front.TooLong)
    → ((p : SourceText) → length text ≤ length_limit → TextSpells p text → e ≡ front.Memory)
    → IsExactBy Front Check Memory r text
unread_outcome text e (Ok s) is exact long only = absurd is.1
unread_outcome text e (Err f) is exact long only = unread_exact text e f is.1 exact long only

-- a fault of the check is that of the source that the text spells
checked : (e x : CheckFault) (f : SystemFault) → f ≡ system_fault_of_check e
    → (e ≡ check.Memory) ⊎ (e ≡ x) → (f ≡ Check x) ⊎ (f ≡ Memory)
checked e x f is (inl memory) = inr (is ∙ ap system_fault_of_check memory)
checked e (check.Refused r index) f is (inr same) = inl (is ∙ ap system_fault_of_check same)
checked e check.Memory f is (inr same) = inr (is ∙ ap system_fault_of_check same)

-- if the check refuses a source so, this is its only refusal
only_refusal : (p q : SourceText) (e x : CheckFault) → q ≡ p → (e ≡ check.Memory) ⊎ (system_of q ≡ Err e)
    → system_of p ≡ Err x → (e ≡ check.Memory) ⊎ (e ≡ x)
only_refusal p q e x same (inl memory) refused = inl memory
only_refusal p q e x same (inr answer) refused =
    let both : Err e ≡ Err x = sym answer ∙ (ap system_of same ∙ refused) in inr (cc)

refused_exact : {S : Type 0} (text : List ℕ) (q : SourceText) (e : CheckFault) (f : SystemFault)
    → ((x : FrontFault) → is_exact x ≡ true → StandsInText x text → ⊥)
    → ((p : SourceText) → length text ≤ length_limit → TextSpells p text → q ≡ p)
    → (e ≡ check.Memory) ⊎ (system_of q ≡ Err e) → f ≡ system_fault_of_check e
    → IsExactBy {T = S} Front Check Memory (Err f) text
refused_exact text q e f exact only answer is = record {
  reading = λ x found stands. absurd (exact x found stands);
  checking = λ p x short spelled refused.
      checked e x f is (only_refusal p q e x (only p short spelled) answer refused);
}

pub refused_outcome : {S : Type 0} (text : List ℕ) (q : SourceText) (e : CheckFault) (r : Result S SystemFault)
    → IsErr r × IsErrAnd r (λ f. f ≡ system_fault_of_check e)
    → ((x : FrontFault) → is_exact x ≡ true → StandsInText x text → ⊥)
    → ((p : SourceText) → length text ≤ length_limit → TextSpells p text → q ≡ p)
    → (e ≡ check.Memory) ⊎ (system_of q ≡ Err e) → IsExactBy Front Check Memory r text
refused_outcome text q e (Ok s) is exact only answer = absurd is.1
refused_outcome text q e (Err f) is exact only answer = refused_exact text q e f exact only answer is.1

-- a text of which nothing is passed over, whatever is made of it
pub exact_again : {S T F : Type 0} (of_front : FrontFault → F) (of_check : CheckFault → F) (memory f : F)
    (text : List ℕ) → IsExactBy {T = S} of_front of_check memory (Err f) text
    → IsExactBy {T = T} of_front of_check memory (Err f) text
exact_again of_front of_check memory f text h = record { reading = h.reading; checking = h.checking }

pub exact_after : {S T F : Type 0} (of_front : FrontFault → F) (of_check : CheckFault → F) (memory : F) (s : S)
    (r : Result T F) (text : List ℕ) → IsExactBy {T = S} of_front of_check memory (Ok s) text
    → IsExactBy of_front of_check memory r text
exact_after of_front of_check memory s r text h = record {
  reading = λ x found stands. absurd (h.reading x found stands);
  checking = λ p x short spelled refused. absurd (h.checking p x short spelled refused);
}

-- there is no fault of a text that has a system
pub accepted_exact : {S : Type 0} (text : List ℕ) (q : SourceText) (made : SystemParts) (s : S)
    → ((x : FrontFault) → is_exact x ≡ true → StandsInText x text → ⊥)
    → ((p : SourceText) → length text ≤ length_limit → TextSpells p text → q ≡ p)
    → system_of q ≡ Ok made → IsExactBy Front Check Memory (Ok s) text
accepted_exact text q made s exact only answer = record {
  reading = λ x found stands. exact x found stands;
  checking = λ p x short spelled refused. never p x (only p short spelled) refused;
}
  where
    never : (p : SourceText) (x : CheckFault) → q ≡ p → system_of p ≡ Err x → ⊥
    never p x same refused =
        let both : Ok made ≡ Err x = sym answer ∙ (ap system_of same ∙ refused) in absurd (cc)

-- and none but want of memory if there is no memory for it
pub wanted_exact : {S : Type 0} (text : List ℕ) → ((x : FrontFault) → is_exact x ≡ true → StandsInText x text → ⊥)
    → IsExactBy {T = S} Front Check Memory (Err Memory) text
wanted_exact text exact = record {
  reading = λ x found stands. absurd (exact x found stands);
  checking = λ p x short spelled refused. inr refl;
}

-- a fault of the check is the refusal of the source
pub refused_by : (text : List ℕ) (q : SourceText) (e : CheckFault) (f : SystemFault) → TextSpells q text
    → (e ≡ check.Memory) ⊎ (system_of q ≡ Err e) → SaysNoSystem e q → f ≡ system_fault_of_check e
    → IsFaultOfText f text
refused_by text q check.Memory f spelled answer none is = rw is tt
refused_by text q (check.Refused r index) f spelled (inl memory) none is = absurd (cc)
refused_by text q (check.Refused r index) f spelled (inr answer) none is =
    let other : check.Refused r index ≡ check.Memory → ⊥ = λ same. absurd (cc) in
    let said : IsRefusalOfCheck (check.Refused r index) text =
    record { source = q; spelled = spelled; exact = answer; none = none } in
    rw is (other, said)

pub ruleset rules_of_text = (wanted_exact, refused_by)

pub ruleset handed_on = (exact_again, exact_after)
