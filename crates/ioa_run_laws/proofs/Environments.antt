-- What terms read at a node are the names in view, with values of their shapes.
use Rattle.std.proofs.Common.{◌≡◌, ◌+◌, ℕ, true, List, [], ◌∷◌, ◌++◌, Option, Some, None, refl, sym, ap, subst, ◌∙◌, map, zip}
use Rattle.std.specs.List.{AllZip}
use Rattle.std.proofs.lemmas.List.{map-append}
use Rattle.ioa_values.specs.Data.{Data}
use Rattle.ioa_operators.specs.Shapes.{PlainShape, has_shape}
use Rattle.ioa_terms.specs.declared.name.Name.{Name}
use Rattle.ioa_terms.specs.declared.name.Name.TheVariants.{Word}
use Rattle.ioa_terms.specs.Bindings.{Bindings, constants_from, environment, names_of}
use Rattle.ioa_terms.specs.Sorted.{NameShapes, IsShaped}
use Rattle.ioa_source.specs.PlainText.{const, named}
use Rattle.ioa_source.specs.Sides.{CheckedDeclared, CheckedParameter, CheckedVariable}
use Rattle.ioa_system.specs.InView as view
use Rattle.ioa_system.specs.InView.{Site, in_view, entry_constant, initial_value, entry_condition, guard_or_effect, block_statement, bindings_at, block_bindings, block_own_names, given_bindings, inbox_words, own_names, parameter_names, scope_at, variable_names}
use Rattle.ioa_system.specs.Parts.{AutomatonParts, message_shape}
use Rattle.ioa_names.specs.NameTables.{declared_names, words}
use Rattle.ioa_names.proofs.Words.{names_joined}
use Rattle.ioa_types.specs.TextTypes.{PlainTextTypes}
use Rattle.ioa_automata.specs.NamesInView.{parameter_shapes, variable_shapes, own_shapes, inbox_shapes_of, inbox_shapes, block_own_shapes}
use Rattle.ioa_automata.specs.SortedAutomata.{block_names, names_at}
use Rattle.ioa_transitions.specs.NodeStep.{IsOfSort, own_values}
use Rattle.ioa_run_laws.specs.Shaped.{FitsParameter, FitsVariable, FitInboxes}
use Rattle.ioa_run_laws.proofs.Numbered.{AreConstants, shaped_more, constants_shaped}
use Rattle.ioa_run_laws.proofs.Throughout.{HasValuesOf}

-- a value has the shape of a name
abbrev pub FitsName : Name × PlainShape → Data → Type 0
FitsName n v = has_shape n.1 v ≡ true

-- values have the shapes of names, one by one
abbrev Fit : NameShapes → List Data → Type 0
Fit ns vs = AllZip FitsName ns vs

fit_behind : (ns ms : NameShapes) (vs us : List Data) → Fit ns vs → Fit ms us → Fit (ns ++ ms) (vs ++ us)
fit_behind [] ms [] us h g = g
fit_behind [] ms (v ∷ vs) us h g = absurd h
fit_behind (n ∷ ns) ms [] us h g = absurd h
fit_behind (n ∷ ns) ms (v ∷ vs) us h g = (h.0, fit_behind ns ms vs us h.1 g)

fit_in_view : (site : Site) (ps vs own : NameShapes) (gs ds os : List Data) → Fit ps gs → Fit vs ds → Fit own os → Fit (in_view site ps vs own) (in_view site gs ds os)
fit_in_view entry_constant ps vs own gs ds os f g h = f
fit_in_view initial_value ps vs own gs ds os f g h = f
fit_in_view entry_condition ps vs own gs ds os f g h = fit_behind ps own gs os f h
fit_in_view guard_or_effect ps vs own gs ds os f g h = fit_behind vs (ps ++ own) ds (gs ++ os) g (fit_behind ps own gs os f h)
fit_in_view block_statement ps vs own gs ds os f g h = fit_behind own (vs ++ ps) os (ds ++ gs) h (fit_behind vs ps ds gs g f)

parameters_fit : (ps : List CheckedDeclared) (vs : List Data) → AllZip FitsParameter ps vs → Fit (parameter_shapes ps) vs
parameters_fit [] [] h = tt
parameters_fit [] (v ∷ vs) h = absurd h
parameters_fit (p ∷ ps) [] h = absurd h
parameters_fit (p ∷ ps) (v ∷ vs) h = (h.0, parameters_fit ps vs h.1)

variables_fit : (xs : List CheckedVariable) (vs : List Data) → AllZip FitsVariable xs vs → Fit (variable_shapes xs) vs
variables_fit [] [] h = tt
variables_fit [] (v ∷ vs) h = absurd h
variables_fit (x ∷ xs) [] h = absurd h
variables_fit (x ∷ xs) (v ∷ vs) h = (h.0, variables_fit xs vs h.1)

-- arguments of their sorts have the shapes of an entry's own parameters
pub own_fit : (ps : List CheckedParameter) (vs : List Data) → AllZip IsOfSort ps vs → AllZip FitsName (own_shapes ps) (own_values ps vs)
own_fit [] [] h = tt
own_fit [] (v ∷ vs) h = absurd h
own_fit (p ∷ ps) [] h = absurd h
own_fit (const t ∷ ps) (v ∷ vs) h = own_fit ps vs h.1
own_fit (named d ∷ ps) (v ∷ vs) h = (h.0, own_fit ps vs h.1)

-- names with their values, in front of others
front_shaped : (ns cs : NameShapes) (vs : List Data) (e : Bindings) → Fit ns vs → IsShaped cs e → IsShaped (ns ++ cs) (zip (declared_names ns) vs ++ e)
front_shaped [] cs [] e h g = g
front_shaped [] cs (v ∷ vs) e h g = absurd h
front_shaped (n ∷ ns) cs [] e h g = absurd h
front_shaped (n ∷ ns) cs (v ∷ vs) e h g = shaped_more n.0 n.1 v (ns ++ cs) (zip (declared_names ns) vs ++ e) h.0 (front_shaped ns cs vs e h.1 g)

front_named : (ns : NameShapes) (vs : List Data) (e : Bindings) → Fit ns vs → names_of (zip (declared_names ns) vs ++ e) ≡ declared_names ns ++ names_of e
front_named [] [] e h = refl
front_named [] (v ∷ vs) e h = absurd h
front_named (n ∷ ns) [] e h = absurd h
front_named (n ∷ ns) (v ∷ vs) e h = ap (λ (ms : List Name). n.0 ∷ ms) (front_named ns vs e h.1)

constants_named : (k : ℕ) (ws : List (List ℕ)) → names_of (constants_from k ws) ≡ map Word ws
constants_named k [] = refl
constants_named k (w ∷ ws) = ap (λ (ns : List Name). Word w ∷ ns) (constants_named (k + 1) ws)

-- in front of constants
front_names : (ns : NameShapes) (vs : List Data) (ws : List (List ℕ)) → Fit ns vs → names_of (environment (declared_names ns) vs ws) ≡ declared_names ns ++ map Word ws
front_names ns vs ws h = front_named ns vs (constants_from 0 ws) h ∙ ap (λ ms. declared_names ns ++ ms) (constants_named 0 ws)

-- what is read, if the names that come first have these values
pub front_valued : (ns cs : NameShapes) (vs : List Data) → AllZip FitsName ns vs → AreConstants cs → HasValuesOf (ns ++ cs) (environment (declared_names ns) vs (words cs))
front_valued ns cs vs h constants = record {
  named = front_names ns vs (words cs) h ∙ ap (λ ms. declared_names ns ++ ms) (sym constants.named) ∙ sym (names_joined ns cs);
  shaped = front_shaped ns cs vs (constants_from 0 (words cs)) h (constants_shaped 0 cs (words cs) constants.named constants.numbered);
}

-- the names in view at a site are words
own_named : (ps : List CheckedParameter) → declared_names (own_shapes ps) ≡ map Word (own_names ps)
own_named [] = refl
own_named (const t ∷ ps) = own_named ps
own_named (named d ∷ ps) = ap (λ (ns : List Name). Word d.name ∷ ns) (own_named ps)

parameters_named : (ps : List CheckedDeclared) → declared_names (parameter_shapes ps) ≡ map Word (parameter_names ps)
parameters_named [] = refl
parameters_named (p ∷ ps) = ap (λ (ns : List Name). Word p.name ∷ ns) (parameters_named ps)

variables_named : (vs : List CheckedVariable) → declared_names (variable_shapes vs) ≡ map Word (variable_names vs)
variables_named [] = refl
variables_named (v ∷ vs) = ap (λ (ns : List Name). Word v.declared.name ∷ ns) (variables_named vs)

inboxes_named : (o : Option PlainShape) → declared_names (inbox_shapes_of o) ≡ map Word (inbox_words o)
inboxes_named None = refl
inboxes_named (Some s) = refl

both_named : (ns ms : NameShapes) (us ws : List (List ℕ)) → declared_names ns ≡ map Word us → declared_names ms ≡ map Word ws → declared_names (ns ++ ms) ≡ map Word (us ++ ws)
both_named ns ms us ws h g = names_joined ns ms ∙ (λ i. h i ++ g i) ∙ sym (map-append Word us ws)

site_named : (site : Site) (ps vs own : NameShapes) (us ws os : List (List ℕ)) → declared_names ps ≡ map Word us → declared_names vs ≡ map Word ws → declared_names own ≡ map Word os → declared_names (in_view site ps vs own) ≡ map Word (in_view site us ws os)
site_named entry_constant ps vs own us ws os f g h = f
site_named initial_value ps vs own us ws os f g h = f
site_named entry_condition ps vs own us ws os f g h = both_named ps own us os f h
site_named guard_or_effect ps vs own us ws os f g h = both_named vs (ps ++ own) ws (us ++ os) g (both_named ps own us os f h)
site_named block_statement ps vs own us ws os f g h = both_named own (vs ++ ps) os (ws ++ us) h (both_named vs ps ws us g f)

-- what is read at a site, in an automaton of a text
module _ (t : PlainTextTypes) (a : AutomatonParts) (same : a.constants ≡ words t.constants) (constants : AreConstants t.constants) (site : Site) (own : List CheckedParameter) where
  abbrev seen : NameShapes
  seen = in_view site (parameter_shapes a.parameters) (variable_shapes a.variables) (own_shapes own)

  seen_words : declared_names seen ≡ map Word (scope_at site (view.declared_names a) (own_names own))
  seen_words =
      site_named site (parameter_shapes a.parameters) (variable_shapes a.variables) (own_shapes own) (parameter_names a.parameters) (variable_names a.variables) (own_names own)
      (parameters_named a.parameters) (variables_named a.variables) (own_named own)

  pub seen_valued : (args vars os : List Data) → AllZip FitsName seen (in_view site args vars os) → HasValuesOf (names_at site t.constants a.parameters a.variables own) (bindings_at site a args vars own os)
  seen_valued args vars os h =
      subst (λ (e : Bindings). HasValuesOf (names_at site t.constants a.parameters a.variables own) e) there
      (front_valued seen t.constants (in_view site args vars os) h constants)
    where
      there : environment (declared_names seen) (in_view site args vars os) (words t.constants) ≡ bindings_at site a args vars own os
      there = λ i. environment (seen_words i) (in_view site args vars os) (sym same i)

  -- it has the names in view
  pub seen_names : (args vars os : List Data) → AllZip FitsName seen (in_view site args vars os) → names_of (bindings_at site a args vars own os) ≡ view.names_at site (view.declared_names a) (own_names own)
  seen_names args vars os h =
      subst (λ (ns : List Name). names_of (environment ns (in_view site args vars os) a.constants) ≡ ns ++ map Word a.constants)
      seen_words (front_names seen (in_view site args vars os) a.constants h)

  -- if each parameter, each state variable and each own parameter has a value of its shape
  module _ (args vars os : List Data) (f : AllZip FitsParameter a.parameters args) (g : AllZip FitsVariable a.variables vars) (h : AllZip FitsName (own_shapes own) os) where
    all_fit : Fit seen (in_view site args vars os)
    all_fit = fit_in_view site (parameter_shapes a.parameters) (variable_shapes a.variables) (own_shapes own) args vars os (parameters_fit a.parameters args f) (variables_fit a.variables vars g) h

    pub bindings_valued : HasValuesOf (names_at site t.constants a.parameters a.variables own) (bindings_at site a args vars own os)
    bindings_valued = seen_valued args vars os all_fit

    pub bindings_names : names_of (bindings_at site a args vars own os) ≡ view.names_at site (view.declared_names a) (own_names own)
    bindings_names = seen_names args vars os all_fit

-- what the constants of entries read
pub given_valued : (t : PlainTextTypes) (a : AutomatonParts) → a.constants ≡ words t.constants → AreConstants t.constants → (args : List Data) → AllZip FitsParameter a.parameters args →
    HasValuesOf (names_at entry_constant t.constants a.parameters a.variables []) (given_bindings a args)
given_valued t a same constants args f = seen_valued t a same constants entry_constant [] args [] [] (parameters_fit a.parameters args f)

pub given_names : (t : PlainTextTypes) (a : AutomatonParts) → a.constants ≡ words t.constants → AreConstants t.constants → (args : List Data) → AllZip FitsParameter a.parameters args → names_of (given_bindings a args) ≡ view.names_at entry_constant (view.declared_names a) []
given_names t a same constants args f = seen_names t a same constants entry_constant [] args [] [] (parameters_fit a.parameters args f)

inboxes_fit : (o : Option PlainShape) (ds : List Data) → FitInboxes o ds → Fit (inbox_shapes_of o) ds
inboxes_fit None [] h = tt
inboxes_fit None (d ∷ ds) h = absurd h
inboxes_fit (Some s) [] h = absurd h
inboxes_fit (Some s) (d ∷ []) h = (h, tt)
inboxes_fit (Some s) (d ∷ e ∷ ds) h = absurd h

-- what a schedule block reads, if its variables and its inboxes have values of their shapes
module _ (t : PlainTextTypes) (a : AutomatonParts) (same : a.constants ≡ words t.constants) (constants : AreConstants t.constants) where
  abbrev block_own : List CheckedVariable
  block_own = a.schedule.variables

  abbrev block_seen : NameShapes
  block_seen = in_view block_statement (parameter_shapes a.parameters) (variable_shapes a.variables) (block_own_shapes block_own a.rules)

  block_words : declared_names block_seen ≡ map Word (scope_at block_statement (view.declared_names a) (block_own_names a))
  block_words =
      site_named block_statement (parameter_shapes a.parameters) (variable_shapes a.variables) (block_own_shapes block_own a.rules) (parameter_names a.parameters) (variable_names a.variables) (block_own_names a)
      (parameters_named a.parameters) (variables_named a.variables)
      (both_named (variable_shapes block_own) (inbox_shapes a.rules) (variable_names block_own) (inbox_words (message_shape a.rules)) (variables_named block_own) (inboxes_named (message_shape a.rules)))

  block_fit : (args vars is os : List Data) → AllZip FitsParameter a.parameters args → AllZip FitsVariable a.variables vars → FitInboxes (message_shape a.rules) is → AllZip FitsVariable block_own os → Fit block_seen (in_view block_statement args vars (os ++ is))
  block_fit args vars is os f g k h =
      fit_in_view block_statement (parameter_shapes a.parameters) (variable_shapes a.variables) (block_own_shapes block_own a.rules) args vars (os ++ is) (parameters_fit a.parameters args f) (variables_fit a.variables vars g)
      (fit_behind (variable_shapes block_own) (inbox_shapes a.rules) os is (variables_fit block_own os h) (inboxes_fit (message_shape a.rules) is k))

  pub block_valued : (args vars is os : List Data) → AllZip FitsParameter a.parameters args → AllZip FitsVariable a.variables vars → FitInboxes (message_shape a.rules) is → AllZip FitsVariable block_own os → HasValuesOf (block_names t.constants a.parameters a.variables block_own a.rules) (block_bindings a args vars is os)
  block_valued args vars is os f g k h =
      subst (λ (e : Bindings). HasValuesOf (block_names t.constants a.parameters a.variables block_own a.rules) e) there
      (front_valued block_seen t.constants (in_view block_statement args vars (os ++ is)) (block_fit args vars is os f g k h) constants)
    where
      there : environment (declared_names block_seen) (in_view block_statement args vars (os ++ is)) (words t.constants) ≡ block_bindings a args vars is os
      there = λ i. environment (block_words i) (in_view block_statement args vars (os ++ is)) (sym same i)

  pub block_reads : (args vars is os : List Data) → AllZip FitsParameter a.parameters args → AllZip FitsVariable a.variables vars → FitInboxes (message_shape a.rules) is → AllZip FitsVariable block_own os → names_of (block_bindings a args vars is os) ≡ view.names_at block_statement (view.declared_names a) (block_own_names a)
  block_reads args vars is os f g k h =
      subst (λ (ns : List Name). names_of (environment ns (in_view block_statement args vars (os ++ is)) a.constants) ≡ ns ++ map Word a.constants)
      block_words (front_names block_seen (in_view block_statement args vars (os ++ is)) a.constants (block_fit args vars is os f g k h))
