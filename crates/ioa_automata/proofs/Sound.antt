-- What is made of the parts of an automaton.
use Rattle.std.proofs.Common.{◌≡◌, ◌&&◌, ℕ, false, List, [], ◌∷◌, Option, Some, None, refl, sym, ap, subst, ◌∙◌, map, take}
use Rattle.std.specs.List.{AllByRecursion, AllZip}
use Rattle.std.specs.Option.{is_some}
use Rattle.ioa_values.specs.Outcome.{and_then}
use Rattle.ioa_operators.specs.Shapes.{PlainShape, truths}
use Rattle.ioa_terms.specs.declared.tree.Kind.{Kind}
use Rattle.ioa_terms.specs.declared.tree.Kind.TheVariants.{Input, Output, Internal}
use Rattle.ioa_terms.specs.PlainTerm.{statements_of}
use Rattle.ioa_terms.specs.SameTerms.{same_kind}
use Rattle.ioa_terms.specs.Sorted.{NameShapes, shape_in_terms}
use Rattle.ioa_source.specs.PlainText.{const, named}
use Rattle.ioa_source.specs.Sides.{SourceTerm, SourceDeclared, SourceParameter, SourceVariable, SourceTransition, SourceStatement, CheckedTerm, CheckedDeclared, CheckedVariable, CheckedTransition, CheckedStatement}
use Rattle.ioa_sort_rules.specs.DeclaredTypes.{TupleTypes, IsDeclared, AreAllDeclared}
use Rattle.ioa_typed.specs.Parts.{PlainTyped, typed}
use Rattle.ioa_sorts.specs.Sorting.{infer, fit, sorting}
use Rattle.ioa_sorts.specs.Statements.{all_ok, statement_sorting, statement_sortings}
use Rattle.ioa_sorts.specs.SortedStatements.{IsStatementOf}
use Rattle.ioa_sorts.specs.StatementSites.{PlainStatementSite, IsDeclaredSite, effect_site}
use Rattle.ioa_sorts.proofs.Types.{in_terms}
use Rattle.ioa_sorts.proofs.Sound.{own_sound, own_declared, own_bare, fit_sound}
use Rattle.ioa_sorts.proofs.SoundStatements.{statement_sound}
use Rattle.ioa_types.specs.TypeTables.{TypeTable, shape_of_sort}
use Rattle.ioa_types.specs.Meanings.{tuple_types, IsTypeTable}
use Rattle.ioa_types.proofs.Meant.{sort_means, sort_declared}
use Rattle.ioa_automata.specs.Parts.{declared_at, all_declared_at, own_or, infer_own, own_term, own_terms, condition_at, initial_at, variable_at, variables_at, PlainSortedParameter, sorted_parameter, parameter_at, PlainSortedParameters, sorted_parameters, parameters_at, where_at, transition_at}
use Rattle.ioa_automata.specs.SortedAutomata.{IsDeclaredOf, IsOwnTermOf, IsInitialOf, IsVariableOf, IsConditionOf, IsParameterOf, AreParametersOf, IsTransitionOf}
use Rattle.ioa_automata.proofs.Loops.{results_are}
use Rattle.ioa_automata.proofs.Results.{result_is, first_of, all_ok_each, zip_weaker}

-- statements one by one, by what is found of each
pub sortings_listed : (site : PlainStatementSite) (ss : List SourceStatement) → statement_sortings site (statements_of ss) ≡ map (statement_sorting site) ss
sortings_listed site [] = refl
sortings_listed site (s ∷ ss) = ap (λ rs. statement_sorting site s ∷ rs) (sortings_listed site ss)

pub statements_sound : (types : TupleTypes) (site : PlainStatementSite) → IsDeclaredSite types site → (ss : List SourceStatement) (cs : List CheckedStatement) → all_ok (statement_sortings site (statements_of ss)) ≡ results_are cs → AllZip (IsStatementOf site) ss cs
statements_sound types site d ss cs h =
    zip_weaker (λ s c. statement_sorting site s ≡ result_is c) (IsStatementOf site) (λ s c e. statement_sound types site d s c (sym e)) ss cs (all_ok_each (statement_sorting site) ss cs (sym (ap all_ok (sortings_listed site ss)) ∙ h))

module _ (types : TypeTable) (table : IsTypeTable types) where
  -- declared names
  abbrev IsSound : SourceDeclared → CheckedDeclared → Type 0
  IsSound d c = IsDeclaredOf types d c × IsDeclared (tuple_types types) c.shape

  pub declared_sound : (d : SourceDeclared) (c : CheckedDeclared) → declared_at types d ≡ result_is c → IsDeclaredOf types d c × IsDeclared (tuple_types types) c.shape
  unfolding declared_at
  declared_sound d c h =
      let one = first_of (shape_of_sort types d.sort) (λ s. result_is (record { name = d.name; sort = d.sort; shape = s })) c h in
      let made : CheckedDeclared = record { name = d.name; sort = d.sort; shape = one.0 } in
      let same : made ≡ c = cc in
      let meant = sort_means types table d.sort one.0 (sym one.1) in
      subst (IsSound d) same (record { same = refl; means = meant.0; low = meant.1 }, sort_declared types table d.sort one.0 (sym one.1))

  pub all_declared_sound : (ds : List SourceDeclared) (cs : List CheckedDeclared) → all_declared_at types ds ≡ results_are cs → AllZip (λ d c. IsDeclaredOf types d c × IsDeclared (tuple_types types) c.shape) ds cs
  all_declared_sound ds cs h = zip_weaker (λ d c. declared_at types d ≡ result_is c) IsSound declared_sound ds cs (all_ok_each (declared_at types) ds cs h)

  module _ (names : NameShapes) (all : AreAllDeclared (tuple_types types) names) where
    -- terms with shapes of their own
    abbrev IsKnown : SourceTerm → PlainTyped → Type 0
    IsKnown t u = IsOwnTermOf names t u.tree u.shape × IsDeclared (tuple_types types) u.shape

    pub inferred_sound : (t : SourceTerm) (u : PlainTyped) → infer_own names t ≡ result_is u → IsOwnTermOf names t u.tree u.shape × IsDeclared (tuple_types types) u.shape
    unfolding own_or
    inferred_sound t u h = let one = first_of (infer (sorting names t)) own_or u h in by_found one.0 one.1 one.2
      where
        by_found : (o : Option PlainTyped) → infer (sorting names t) ≡ result_is o → own_or o ≡ result_is u → IsKnown t u
        by_found None e k = absurd (cc)
        by_found (Some v) e k =
            let same : v ≡ u = cc in
            let found : result_is (Some (typed v.tree v.shape)) ≡ infer (sorting names t) = sym e in
            subst (IsKnown t) same (record { term = own_sound (tuple_types types) names all t v.tree v.shape found; own = own_bare (tuple_types types) names all t v.tree v.shape found }, own_declared (tuple_types types) names all t v.tree v.shape found)

    abbrev HasOwn : SourceTerm → CheckedTerm → Type 0
    HasOwn t c = (s : PlainShape) × IsOwnTermOf names t c s

    own_term_sound : (t : SourceTerm) (c : CheckedTerm) → own_term names t ≡ result_is c → HasOwn t c
    own_term_sound t c h =
        let one = first_of (infer_own names t) (λ u. result_is u.tree) c h in
        let same : one.0.tree ≡ c = cc in
        subst (HasOwn t) same (one.0.shape, (inferred_sound t one.0 one.1).0)

    own_terms_sound : (ts : List SourceTerm) (cs : List CheckedTerm) → own_terms names ts ≡ results_are cs → AllZip HasOwn ts cs
    own_terms_sound ts cs h = zip_weaker (λ t c. own_term names t ≡ result_is c) HasOwn own_term_sound ts cs (all_ok_each (own_term names) ts cs h)

    -- conditions and initial terms
    pub condition_sound : (o : Option SourceTerm) (c : Option CheckedTerm) → condition_at names o ≡ result_is c → IsConditionOf names o c
    unfolding condition_at
    condition_sound None c h = let same : None ≡ c = cc in subst (IsConditionOf names None) same tt
    condition_sound (Some t) c h =
        let one = first_of (fit (sorting names t) truths) (λ d. result_is (Some d)) c h in
        let same : Some one.0 ≡ c = cc in
        subst (IsConditionOf names (Some t)) same (fit_sound (tuple_types types) names all t truths tt one.0 (sym one.1))

    pub where_sound : (k : Kind) (o : Option SourceTerm) (c : Option CheckedTerm) → where_at names k o ≡ result_is c → IsConditionOf names o c × (is_some o && same_kind k Input ≡ false)
    unfolding where_at
    where_sound k None c h = let same : None ≡ c = cc in (subst (IsConditionOf names None) same tt, refl)
    where_sound Input (Some t) c h = absurd (cc)
    where_sound Output (Some t) c h = (condition_sound (Some t) c h, refl)
    where_sound Internal (Some t) c h = (condition_sound (Some t) c h, refl)

    initial_sound : (s : PlainShape) → IsDeclared (tuple_types types) s → (o : Option SourceTerm) (c : CheckedTerm) → initial_at names s o ≡ result_is c → IsInitialOf names s o (Some c)
    unfolding initial_at
    initial_sound s d None c h = absurd (cc)
    initial_sound s d (Some t) c h = fit_sound (tuple_types types) names all t (shape_in_terms s) (in_terms (tuple_types types) s d) c (sym h)

    -- state variables
    abbrev IsValued : SourceVariable → CheckedVariable → Type 0
    IsValued v c = IsVariableOf types names v c × IsDeclared (tuple_types types) c.declared.shape

    pub variable_sound : (v : SourceVariable) (c : CheckedVariable) → variable_at types names v ≡ result_is c → IsVariableOf types names v c × IsDeclared (tuple_types types) c.declared.shape
    unfolding variable_at
    variable_sound v c h =
        let one = first_of (declared_at types v.declared) (λ d. and_then (initial_at names d.shape v.initial) (λ t. result_is (record { declared = d; initial = Some t }))) c h in
        let two = first_of (initial_at names one.0.shape v.initial) (λ t. result_is (record { declared = one.0; initial = Some t })) c one.2 in
        let made : CheckedVariable = record { declared = one.0; initial = Some two.0 } in
        let same : made ≡ c = cc in
        let sound = declared_sound v.declared one.0 one.1 in
        subst (IsValued v) same (record { declared = sound.0; initial = initial_sound one.0.shape sound.1 v.initial two.0 two.1 }, sound.1)

    pub variables_sound : (vs : List SourceVariable) (cs : List CheckedVariable) → variables_at types names vs ≡ results_are cs → AllZip (λ v c. IsVariableOf types names v c × IsDeclared (tuple_types types) c.declared.shape) vs cs
    variables_sound vs cs h = zip_weaker (λ v c. variable_at types names v ≡ result_is c) IsValued variable_sound vs cs (all_ok_each (variable_at types names) vs cs h)

    -- parameters of an entry
    abbrev IsSorted : SourceParameter → PlainSortedParameter → Type 0
    IsSorted p q = IsParameterOf types names p q.parameter q.shape × IsDeclared (tuple_types types) q.shape

    parameter_sound : (p : SourceParameter) (q : PlainSortedParameter) → parameter_at types names p ≡ result_is q → IsSorted p q
    unfolding parameter_at
    parameter_sound (const t) q h =
        let one = first_of (infer_own names t) (λ u. result_is (sorted_parameter (const u.tree) u.shape)) q h in
        let same : sorted_parameter (const one.0.tree) one.0.shape ≡ q = cc in
        subst (IsSorted (const t)) same (inferred_sound t one.0 one.1)
    parameter_sound (named d) q h =
        let one = first_of (declared_at types d) (λ e. result_is (sorted_parameter (named e) e.shape)) q h in
        let same : sorted_parameter (named one.0) one.0.shape ≡ q = cc in
        let sound = declared_sound d one.0 one.1 in
        subst (IsSorted (named d)) same ((sound.0, refl), sound.1)

    abbrev AreSorted : List SourceParameter → PlainSortedParameters → Type 0
    AreSorted ps qs = AreParametersOf types names ps qs.parameters qs.shapes × AllByRecursion (IsDeclared (tuple_types types)) qs.shapes

    pub parameters_sound : (ps : List SourceParameter) (qs : PlainSortedParameters) → parameters_at types names ps ≡ result_is qs → AreParametersOf types names ps qs.parameters qs.shapes × AllByRecursion (IsDeclared (tuple_types types)) qs.shapes
    parameters_sound [] qs h = let same : sorted_parameters [] [] ≡ qs = cc in subst (AreSorted []) same (tt, tt)
    parameters_sound (p ∷ ps) qs h =
        let one = first_of (parameter_at types names p) (λ q. and_then (parameters_at types names ps) (λ rs. result_is (sorted_parameters (q.parameter ∷ rs.parameters) (q.shape ∷ rs.shapes)))) qs h in
        let two = first_of (parameters_at types names ps) (λ rs. result_is (sorted_parameters (one.0.parameter ∷ rs.parameters) (one.0.shape ∷ rs.shapes))) qs one.2 in
        let same : sorted_parameters (one.0.parameter ∷ two.0.parameters) (one.0.shape ∷ two.0.shapes) ≡ qs = cc in
        let sound = parameter_sound p one.0 one.1 in
        let rest = parameters_sound ps two.0 two.1 in
        subst (AreSorted (p ∷ ps)) same ((sound.0, rest.0), (sound.1, rest.1))

    -- transitions
    module _ (variables : ℕ) (first : AreAllDeclared (tuple_types types) (take variables names)) where
      effect_sound : (ss : List SourceStatement) (cs : List CheckedStatement) → all_ok (statement_sortings (effect_site types (take variables names) names) (statements_of ss)) ≡ results_are cs → AllZip (IsStatementOf (effect_site types (take variables names) names)) ss cs
      effect_sound ss cs h = statements_sound (tuple_types types) (effect_site types (take variables names) names) (record { variables = first; names = all; rules = tt }) ss cs h

      pub transition_sound : (t : SourceTransition) (c : CheckedTransition) → transition_at types names variables t ≡ result_is c → IsTransitionOf types names variables t c
      unfolding transition_at
      transition_sound t c h =
          let one = first_of (own_terms names t.arguments) (λ ts. and_then (condition_at names t.pre) (λ p. and_then (all_ok (statement_sortings (effect_site types (take variables names) names) (statements_of t.effect))) (λ ss. result_is (record { kind = t.kind; name = t.name; arguments = ts; pre = p; effect = ss })))) c h in
          let two = first_of (condition_at names t.pre) (λ p. and_then (all_ok (statement_sortings (effect_site types (take variables names) names) (statements_of t.effect))) (λ ss. result_is (record { kind = t.kind; name = t.name; arguments = one.0; pre = p; effect = ss }))) c one.2 in
          let three = first_of (all_ok (statement_sortings (effect_site types (take variables names) names) (statements_of t.effect))) (λ ss. result_is (record { kind = t.kind; name = t.name; arguments = one.0; pre = two.0; effect = ss })) c two.2 in
          let made : CheckedTransition = record { kind = t.kind; name = t.name; arguments = one.0; pre = two.0; effect = three.0 } in
          let same : made ≡ c = cc in
          subst (IsTransitionOf types names variables t) same (record {
            kind = refl;
            name = refl;
            arguments = own_terms_sound t.arguments one.0 one.1;
            pre = condition_sound t.pre two.0 two.1;
            effect = effect_sound t.effect three.0 three.1;
          })
