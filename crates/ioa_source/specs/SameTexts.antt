-- Whether two parts of a text are the same (profile), by a test of what is beside names and one of what is
-- beside displays.
use Rattle.std.specs.Prelude.{Bool, true, false, ◌&&◌}
use Rattle.std.specs.Option.{option_eq}
use lib.Pointwise.{pointwise}
use Rattle.ioa_terms.specs.Bindings.{same_word}
use Rattle.ioa_terms.specs.PlainTerm.{terms_of, statements_of}
use Rattle.ioa_terms.specs.SameTerms.{same_kind, same_term, same_terms, same_statements}
use Rattle.ioa_terms.specs.SameSorts.{same_sort}
use Rattle.ioa_source.specs.PlainText.{PlainDeclared, PlainParameter, PlainEntry, PlainVariable, PlainTransition}
use Rattle.ioa_source.specs.PlainText.{PlainSchedule, const, named}

-- other parts are the same if their parts are
abbrev pub same_declared : {D : Type 0} → (D → D → Bool) → PlainDeclared D → PlainDeclared D → Bool
same_declared d a b = same_word a.name b.name && (same_sort a.sort b.sort && d a.shape b.shape)

module _ {N C D : Type 0} (n : N → N → Bool) (c : C → C → Bool) (d : D → D → Bool) where
  abbrev pub same_parameter : PlainParameter N C D → PlainParameter N C D → Bool
  same_parameter (const t) (const u) = same_term n c d t u
  same_parameter (named a) (named b) = same_declared d a b
  same_parameter a b = false

  abbrev pub same_entry : PlainEntry N C D → PlainEntry N C D → Bool
  same_entry a b =
      same_kind a.kind b.kind
      && (same_word a.name b.name
      && (pointwise same_parameter a.parameters b.parameters
      && option_eq (same_term n c d) a.condition b.condition))

  abbrev pub same_variable : PlainVariable N C D → PlainVariable N C D → Bool
  same_variable a b = same_declared d a.declared b.declared && option_eq (same_term n c d) a.initial b.initial

  abbrev pub same_transition : PlainTransition N C D → PlainTransition N C D → Bool
  same_transition a b =
      same_kind a.kind b.kind
      && (same_word a.name b.name
      && (same_terms n c d (terms_of a.arguments) (terms_of b.arguments)
      && (option_eq (same_term n c d) a.pre b.pre
      && same_statements n c d (statements_of a.effect) (statements_of b.effect))))

  abbrev pub same_schedule : PlainSchedule N C D → PlainSchedule N C D → Bool
  same_schedule a b =
      pointwise same_variable a.variables b.variables
      && same_statements n c d (statements_of a.statements) (statements_of b.statements)
