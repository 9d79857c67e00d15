-- How the logic stores the parts of texts (form): as trees of numbers, no two alike. Names, calls and displays are
-- annotated with data that is stored in a way of its own.
use Rattle.std.specs.Prelude.{◌≡◌, ◌⊎◌, ℕ, List, Option, refl}
use mathlib.Core.Logic.{inl, inr}
use Rattle.std.specs.Coded.{code_by, coded_option}
use base.Stored.{Gv, gnil, gnum, gcons, Coded, coded_ℕ, coded_list, coded×, coded⊎}
use Rattle.ioa_terms.specs.contracts.tree.Kind as kind
use Rattle.ioa_terms.specs.declared.tree.Kind.{Kind}
use Rattle.ioa_terms.specs.PlainTerm.{PlainTerm, PlainStatement}
use Rattle.ioa_terms.specs.TermCode.{term_code, statement_code}
use Rattle.ioa_terms.specs.PlainSort.{PlainSort}
use Rattle.ioa_terms.specs.SortCode.{sort_code}
use Rattle.ioa_source.specs.PlainText.{PlainDeclared, PlainParameter, PlainEntry, PlainVariable, PlainTransition}
use Rattle.ioa_source.specs.PlainText.{PlainSchedule, const, named}

abbrev word : Coded (List ℕ)
word = coded_list coded_ℕ

-- what declares a name: a nest of pairs
abbrev pub declared_code : {D : Type 0} → Coded D → Coded (PlainDeclared D)
declared_code {D} d =
    code_by (List ℕ × (PlainSort × D)) (coded× word (coded× sort_code d))
    (λ x. (x.name, (x.sort, x.shape)))
    (λ t. record { name = t.0; sort = t.1.0; shape = t.1.1 })
    (λ _. refl)

module _ {N C D : Type 0} (n : Coded N) (c : Coded C) (d : Coded D) where
  abbrev split : PlainParameter N C D → PlainTerm N C D ⊎ PlainDeclared D
  split (const t) = inl t
  split (named x) = inr x

  abbrev join : PlainTerm N C D ⊎ PlainDeclared D → PlainParameter N C D
  join (inl t) = const t
  join (inr x) = named x

  pub join-split : (p : PlainParameter N C D) → join (split p) ≡ p
  join-split (const t) = refl
  join-split (named x) = refl

  -- a parameter: a constant's term, or else a name
  abbrev pub parameter_code : Coded (PlainParameter N C D)
  parameter_code =
      code_by (PlainTerm N C D ⊎ PlainDeclared D) (coded⊎ (term_code n c d) (declared_code d)) split join join-split

  abbrev guard_code : Coded (Option (PlainTerm N C D))
  guard_code = coded_option (term_code n c d)

  -- an entry, a state variable and a transition: nests of pairs
  abbrev pub entry_code : Coded (PlainEntry N C D)
  entry_code =
      code_by (Kind × (List ℕ × (List (PlainParameter N C D) × Option (PlainTerm N C D))))
      (coded× kind.the_row.coded (coded× word (coded× (coded_list parameter_code) guard_code)))
      (λ e. (e.kind, (e.name, (e.parameters, e.condition))))
      (λ t. record { kind = t.0; name = t.1.0; parameters = t.1.1.0; condition = t.1.1.1 })
      (λ _. refl)

  abbrev pub variable_code : Coded (PlainVariable N C D)
  variable_code =
      code_by (PlainDeclared D × Option (PlainTerm N C D)) (coded× (declared_code d) guard_code)
      (λ v. (v.declared, v.initial))
      (λ t. record { declared = t.0; initial = t.1 })
      (λ _. refl)

  abbrev pub transition_code : Coded (PlainTransition N C D)
  transition_code =
      code_by
      (Kind × (List ℕ × (List (PlainTerm N C D) × (Option (PlainTerm N C D) × List (PlainStatement N C D)))))
      (coded× kind.the_row.coded
      (coded× word (coded× (coded_list (term_code n c d)) (coded× guard_code (coded_list (statement_code n c d))))))
      (λ r. (r.kind, (r.name, (r.arguments, (r.pre, r.effect)))))
      (λ t. record { kind = t.0; name = t.1.0; arguments = t.1.1.0; pre = t.1.1.1.0; effect = t.1.1.1.1 })
      (λ _. refl)

  -- a schedule block: a pair
  abbrev pub schedule_code : Coded (PlainSchedule N C D)
  schedule_code =
      code_by (List (PlainVariable N C D) × List (PlainStatement N C D))
      (coded× (coded_list variable_code) (coded_list (statement_code n c d)))
      (λ s. (s.variables, s.statements))
      (λ t. record { variables = t.0; statements = t.1 })
      (λ _. refl)
