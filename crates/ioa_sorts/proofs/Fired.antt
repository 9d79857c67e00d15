-- The rule that a firing is of, by the number of the name that it fires.
use Rattle.std.proofs.Common.{◌≡◌, ◌<◌, ℕ, zero, suc, Bool, true, List, [], ◌∷◌, Some, None, map, find, length, slice_get, refl, sym, arith, if◌then◌else◌}
use Rattle.std.specs.List.{IsDistinct}
use Rattle.ioa_terms.specs.declared.name.Name.TheVariants.{Word}
use Rattle.std.proofs.lemmas.List.{length-map}
use Rattle.ioa_terms.specs.Bindings.{same_word, slot_in}
use Rattle.ioa_terms.proofs.Slots.{slot_within}
use Rattle.ioa_source.specs.Sides.{SourceFiring}
use Rattle.ioa_names.specs.Indexes.{AreIndexed}
use Rattle.ioa_system.specs.Parts.{PlainRule, rule_names}
use Rattle.ioa_sorts.specs.Firings.{fires, is_of_kind, number_fired}
use Rattle.ioa_sorts.proofs.CompleteStatements.{number_is}
use Rattle.ioa_sorts.proofs.Lookups.{by_index, found_is, none_by_index}

-- there is something within the length of a list
within_there : {A : Type 0} (xs : List A) (k : ℕ) → k < length xs → None ≡ slice_get xs k → ⊥
within_there [] k less h = absurd (omega (arith, less))
within_there (x ∷ xs) zero less h = absurd (cc)
within_there (x ∷ xs) (suc k) less h = within_there xs k (omega (arith, less)) h

module _ (f : SourceFiring) (rules : List PlainRule) (differ : IsDistinct same_word (rule_names rules)) where
  abbrev indexed : AreIndexed (rule_names rules) (rule_names rules)
  indexed = record { same = refl; differ = differ }

  -- no rule has the name
  pub none_named : None ≡ slot_in (Word f.action) (map Word (rule_names rules)) → None ≡ find (fires f) rules
  none_named h = none_by_index (λ r. r.entry.name) (λ r. is_of_kind f.kind r.entry.kind) f.action (rule_names rules) rules indexed h

  -- there is a rule of the number of a name
  pub never_missing : (k : ℕ) → Some k ≡ slot_in (Word f.action) (map Word (rule_names rules)) → None ≡ slice_get rules k → ⊥
  never_missing k slot h =
      let within = slot_within (rule_names rules) (Word f.action) k (sym slot) in
      let as_many = length-map rules (λ (r : PlainRule). r.entry.name) in
      within_there rules k (omega (arith, within, as_many)) h

  -- the rule of the name is of the firing's kind, or is not
  pub rule_by_kind : (k : ℕ) (r : PlainRule) → Some k ≡ slot_in (Word f.action) (map Word (rule_names rules)) → Some r ≡ slice_get rules k → (b : Bool) → b ≡ is_of_kind f.kind r.entry.kind → (if b then Some r else None) ≡ find (fires f) rules
  rule_by_kind k r slot there b kind = by_index (λ r. r.entry.name) (λ r. is_of_kind f.kind r.entry.kind) f.action (rule_names rules) rules indexed k r slot there b kind

  -- the number of the name is that of the rule
  pub number_by_kind : (k : ℕ) (r : PlainRule) → Some k ≡ slot_in (Word f.action) (map Word (rule_names rules)) → Some r ≡ slice_get rules k → true ≡ is_of_kind f.kind r.entry.kind → k ≡ number_fired f rules
  number_by_kind k r slot there kind =
      let is = found_is (λ r. r.entry.name) (λ r. is_of_kind f.kind r.entry.kind) f.action rules r (sym (rule_by_kind k r slot there true kind)) in
      sym (number_is f rules differ k r (sym there) is.1 is.2)
