-- Parts of texts that the tests find the same are equal, if the tests of annotations decide equality.
use Rattle.std.proofs.Common.{◌≡◌, Bool, Option, refl, ap}
use Rattle.std.specs.Option.{option_eq}
use Rattle.std.specs.Bool.{Decides}
use Rattle.std.proofs.lemmas.Bool.Decides.{Decides-and, Decides-like}
use Rattle.std.proofs.lemmas.Slice.Eq.{slice_eq-Decides, bytes_eq-Decides}
use Rattle.ioa_terms.specs.SameTerms.{same_term}
use Rattle.ioa_terms.specs.PlainTerm.{PlainTerm}
use Rattle.ioa_terms.proofs.SameTerms.{kind_is, option_is, same_term_is, same_terms_is, same_statements_is}
use Rattle.ioa_terms.specs.SameSorts.{same_sort_is}
use Rattle.ioa_source.specs.PlainText.{PlainDeclared, PlainParameter, PlainEntry, PlainVariable, PlainTransition, PlainSchedule, const, named}
use Rattle.ioa_source.specs.SameTexts.{same_declared, same_parameter, same_entry, same_variable, same_transition, same_schedule}

-- the test finds two declared names the same if and only if they are equal
pub same_declared_is : {D : Type 0} {d : D → D → Bool} → ((s t : D) → Decides (d s t) (s ≡ t)) → (a b : PlainDeclared D) → Decides (same_declared d a b) (a ≡ b)
same_declared_is {D} d_is a b =
    Decides-like _ (λ p i. record { name = p.0 i; sort = p.1.0 i; shape = p.1.1 i })
    (λ e. (ap (λ (x : PlainDeclared D). x.name) e, (ap (λ (x : PlainDeclared D). x.sort) e, ap (λ (x : PlainDeclared D). x.shape) e)))
    (Decides-and _ _ (bytes_eq-Decides a.name b.name)
    (Decides-and _ _ (same_sort_is a.sort b.sort) (d_is a.shape b.shape)))

module _ {N C D : Type 0} {n : N → N → Bool} {c : C → C → Bool} {d : D → D → Bool} (n_is : (x y : N) → Decides (n x y) (x ≡ y)) (c_is : (x y : C) → Decides (c x y) (x ≡ y)) (d_is : (s t : D) → Decides (d s t) (s ≡ t)) where
  parameter_is : (a b : PlainParameter N C D) → Decides (same_parameter n c d a b) (a ≡ b)
  parameter_is (const t) (const u) =
      (λ h i. const ((same_term_is n_is c_is d_is t u).0 h i), λ e. let p : t ≡ u = cc in (same_term_is n_is c_is d_is t u).1 p)
  parameter_is (const t) (named b) = (λ h. absurd (cc), λ e. absurd (cc))
  parameter_is (named a) (const u) = (λ h. absurd (cc), λ e. absurd (cc))
  parameter_is (named a) (named b) =
      (λ h i. named ((same_declared_is d_is a b).0 h i), λ e. let p : a ≡ b = cc in (same_declared_is d_is a b).1 p)

  guard_is : (t u : Option (PlainTerm N C D)) → Decides (option_eq (same_term n c d) t u) (t ≡ u)
  guard_is = option_is (same_term_is n_is c_is d_is)

  pub same_entry_is : (a b : PlainEntry N C D) → Decides (same_entry n c d a b) (a ≡ b)
  same_entry_is a b =
      Decides-like _ (λ p i. record { kind = p.0 i; name = p.1.0 i; parameters = p.1.1.0 i; condition = p.1.1.1 i })
      (λ e. (ap (λ (x : PlainEntry N C D). x.kind) e, (ap (λ (x : PlainEntry N C D). x.name) e, (ap (λ (x : PlainEntry N C D). x.parameters) e, ap (λ (x : PlainEntry N C D). x.condition) e))))
      (Decides-and _ _ (kind_is a.kind b.kind)
      (Decides-and _ _ (bytes_eq-Decides a.name b.name)
      (Decides-and _ _ (slice_eq-Decides parameter_is a.parameters b.parameters _ refl) (guard_is a.condition b.condition))))

  pub same_variable_is : (a b : PlainVariable N C D) → Decides (same_variable n c d a b) (a ≡ b)
  same_variable_is a b =
      Decides-like _ (λ p i. record { declared = p.0 i; initial = p.1 i })
      (λ e. (ap (λ (x : PlainVariable N C D). x.declared) e, ap (λ (x : PlainVariable N C D). x.initial) e))
      (Decides-and _ _ (same_declared_is d_is a.declared b.declared) (guard_is a.initial b.initial))

  pub same_transition_is : (a b : PlainTransition N C D) → Decides (same_transition n c d a b) (a ≡ b)
  same_transition_is a b =
      Decides-like _ (λ p i. record { kind = p.0 i; name = p.1.0 i; arguments = p.1.1.0 i; pre = p.1.1.1.0 i; effect = p.1.1.1.1 i })
      (λ e. (ap (λ (x : PlainTransition N C D). x.kind) e, (ap (λ (x : PlainTransition N C D). x.name) e, (ap (λ (x : PlainTransition N C D). x.arguments) e, (ap (λ (x : PlainTransition N C D). x.pre) e, ap (λ (x : PlainTransition N C D). x.effect) e)))))
      (Decides-and _ _ (kind_is a.kind b.kind)
      (Decides-and _ _ (bytes_eq-Decides a.name b.name)
      (Decides-and _ _ (same_terms_is n_is c_is d_is a.arguments b.arguments)
      (Decides-and _ _ (guard_is a.pre b.pre) (same_statements_is n_is c_is d_is a.effect b.effect)))))

  pub same_schedule_is : (a b : PlainSchedule N C D) → Decides (same_schedule n c d a b) (a ≡ b)
  same_schedule_is a b =
      Decides-like _ (λ p i. record { variables = p.0 i; statements = p.1 i })
      (λ e. (ap (λ (x : PlainSchedule N C D). x.variables) e, ap (λ (x : PlainSchedule N C D). x.statements) e))
      (Decides-and _ _ (slice_eq-Decides same_variable_is a.variables b.variables _ refl) (same_statements_is n_is c_is d_is a.statements b.statements))
