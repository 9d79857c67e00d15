-- A block that can go on sees what it needs, and what its turn leaves.
use Rattle.std.proofs.Common.{◌≡◌, ℕ, ◌+◌, List, [], ◌++◌, Option, Some, None, Result, Ok, Err, map, take, length, length-append, append_assoc, refl, sym, ap, subst, ◌∙◌, arith}
use Rattle.std.proofs.Math.Seq.{take-append_seam}
use Rattle.std.proofs.lemmas.List.{length-map, map-append, take-append-le}
use Rattle.std.proofs.lemmas.Slice.Zip.{seconds-zip}
use Rattle.std.specs.List.{zip}
use Rattle.std.specs.Prelude.{is_some}
use Rattle.std.specs.Option.{option_map}
use Rattle.ioa_values.specs.Data.{Data}
use Rattle.ioa_operators.specs.declared.fault.TermFault.{TermFault}
use Rattle.ioa_operators.specs.declared.shape.Shape.{Shape}
use Rattle.ioa_operators.specs.Shapes.{PlainShape}
use Rattle.ioa_terms.specs.declared.callee.Callee.{Callee}
use Rattle.ioa_terms.specs.Inboxes.{PlainInboxes, inbox_values, inboxes_of, lent_values}
use Rattle.ioa_terms.specs.Bindings.{Bindings, environment, constants_from}
use Rattle.ioa_terms.specs.PlainTerm.{PlainStatements, statements_of, no_statements, statement}
use Rattle.ioa_terms.specs.declared.name.Name.{Name}
use Rattle.ioa_terms.specs.declared.name.Name.TheVariants.{Word}
use Rattle.ioa_terms.proofs.Performed.{all_resolved}
use Rattle.ioa_schedules.specs.Turns.{turn_answer, turn_limit, following_statements}
use Rattle.ioa_terms.specs.Views.{IsNamed, all_names, environment_of}
use Rattle.ioa_schedules.specs.Views.{AreResolvedIn, turn_of}
use Rattle.ioa_schedules.specs.declared.turn.Turn.{Turn}
use Rattle.ioa_schedules.specs.declared.turn.Turn.TheVariants as turn
use Rattle.ioa_terms.specs.declared.environment.View.{View}
use Rattle.ioa_source.specs.Sides.{CheckedDeclared, CheckedSchedule, CheckedVariable}
use Rattle.ioa_system.specs.InView.{block_bindings, block_own_names, block_statement, declared_names, inbox_words, names_at, scope_at, parameter_names, variable_names}
use Rattle.ioa_system.specs.Numbered.{AreNumbered}
use Rattle.ioa_system.specs.Parts.{AutomatonParts, Parts, message_shape}
use Rattle.ioa_system.specs.ResolvedPrograms.{IsResolvedSchedule}
use Rattle.ioa_turns.specs.Ready.{IsReady}
use Rattle.ioa_turns.specs.NodeTurns.{PlainProgress, block_turn, end_of, own_values, reached}

-- a block before a run is ready
pub start_ready : (p : Parts) → length p.block ≡ length p.automaton.schedule.variables → IsResolvedSchedule (declared_names p.automaton) (block_own_names p.automaton) p.automaton.schedule → AreNumbered p.automaton.rules (statements_of p.automaton.schedule.statements) → IsReady p (statements_of p.automaton.schedule.statements) p.block
start_ready p valued resolved numbered = record {
  valued = valued;
  resolved = all_resolved p.automaton.schedule.statements (map Word (variable_names p.automaton.schedule.variables)) (names_at block_statement (declared_names p.automaton) (block_own_names p.automaton)) resolved.statements;
  numbered = numbered;
}

-- the same of what a program lends
pub start_from : (p : Parts) (a : AutomatonParts) (s : CheckedSchedule) (todo : PlainStatements ℕ Callee Shape) (own : List Data) → a ≡ p.automaton → s ≡ a.schedule → length p.block ≡ length p.automaton.schedule.variables → IsResolvedSchedule (declared_names a) (block_own_names a) s → AreNumbered a.rules (statements_of s.statements) → todo ≡ statements_of s.statements → own ≡ p.block → IsReady p todo own
start_from p a s todo own automaton schedule valued resolved numbered all first =
    let there : s ≡ p.automaton.schedule = schedule ∙ ap (λ (x : AutomatonParts). x.schedule) automaton in
    let both : (todo, own) ≡ (statements_of p.automaton.schedule.statements, p.block) =
    λ i. ((all ∙ ap (λ (x : CheckedSchedule). statements_of x.statements) there) i, first i) in
    subst (λ (x : PlainStatements ℕ Callee Shape × List Data). IsReady p x.0 x.1) (sym both)
    (start_ready p valued (subst (λ (x : AutomatonParts × CheckedSchedule). IsResolvedSchedule (declared_names x.0) (block_own_names x.0) x.1) (λ i. (automaton i, there i)) resolved)
    (subst (λ (x : AutomatonParts × CheckedSchedule). AreNumbered x.0.rules (statements_of x.1.statements)) (λ i. (automaton i, there i)) numbered))

-- and so is one behind its first statement
pub following_ready : (p : Parts) (todo : PlainStatements ℕ Callee Shape) (own : List Data) → IsReady p todo own → IsReady p (following_statements todo) own
following_ready p no_statements own h = record { valued = h.valued; resolved = tt; numbered = tt }
following_ready p (statement s rest) own h = record { valued = h.valued; resolved = h.resolved.1; numbered = h.numbered.1 }

-- what a block of a program sees, if it sees these inboxes, and these are the values of the state variables
pub record Sees (p : Parts) (seen : Option PlainInboxes) (variables : List Data) (v : View) : Type 0 where
  pub front : v.front.now ≡ []
  pub names : v.names ≡ map Word (scope_at block_statement (declared_names p.automaton) (block_own_names p.automaton))
  pub inboxes : option_map (λ is. inboxes_of is.now) v.lent.inboxes ≡ seen
  pub first : v.lent.first.now ≡ variables
  pub second : v.lent.second.now ≡ p.arguments
  pub constants : v.constants.now ≡ p.automaton.constants

-- the names of the block's own variables come first
own_first : {A : Type 0} (f : List ℕ → A) (n : ℕ) (own rest : List (List ℕ)) → n ≡ length own → take n (map f (own ++ rest)) ≡ map f own
own_first f n own rest h =
    rw (map-append f own rest, h, ← length-map own f) (take-append_seam (map f own) (map f rest))

-- the values of the names in view
pub own_of : (names : List Name) (values : List Data) (cs : List (List ℕ)) (own rest : List Data) → values ≡ own ++ rest → length names ≡ length values → own_values (length own) (environment names values cs) ≡ own
own_of names values cs own rest e many =
    let behind : List Data = map (λ (b : Name × Data). b.1) (constants_from 0 cs) in
    let split : map (λ (b : Name × Data). b.1) (environment names values cs) ≡ values ++ behind =
    map-append (λ (b : Name × Data). b.1) (zip names values) (constants_from 0 cs)
    ∙ ap (λ (ds : List Data). ds ++ behind) (seconds-zip names values (sym many)) in
    let within : length own + length rest ≡ length values = rw e (sym (length-append own rest)) in
    ap (λ (ds : List Data). take (length own) ds) split
    ∙ take-append-le (length own) values behind (omega arith)
    ∙ rw e (take-append_seam own rest)

-- what is seen is there if it is there
pub seen_as : {A B : Type 0} (f : A → B) (o : Option A) → is_some (option_map f o) ≡ is_some o
seen_as f None = refl
seen_as f (Some x) = refl

-- the inboxes have a value if they have a name
as_many : (o : Option PlainInboxes) (m : Option PlainShape) → is_some o ≡ is_some m → length (inbox_words m) ≡ length (inbox_values o)
as_many None None h = refl
as_many None (Some s) h = absurd (cc)
as_many (Some is) None h = absurd (cc)
as_many (Some is) (Some s) h = refl

-- three lists behind one another are as long as three others
three_long : {A B : Type 0} (xs ys zs : List A) (us vs ws : List B) → length xs ≡ length us → length ys ≡ length vs → length zs ≡ length ws → length (xs ++ (ys ++ zs)) ≡ length (us ++ (vs ++ ws))
three_long xs ys zs us vs ws h k l =
    omega (arith, h, k, l, length-append xs (ys ++ zs), length-append ys zs, length-append us (vs ++ ws), length-append vs ws)

-- and so are four
four_long : {A B : Type 0} (xs os ys zs : List A) (us is vs ws : List B) → length xs ≡ length us → length os ≡ length is → length ys ≡ length vs → length zs ≡ length ws →
    length ((xs ++ os) ++ (ys ++ zs)) ≡ length (us ++ (is ++ (vs ++ ws)))
four_long xs os ys zs us is vs ws h n k l =
    let both : length (xs ++ os) ≡ length (us ++ is) = omega (arith, h, n, length-append xs os, length-append us is) in
    three_long (xs ++ os) ys zs (us ++ is) vs ws both k l
    ∙ ap (λ (ds : List _). length ds) (append_assoc us is (vs ++ ws))

module _ (p : Parts) (seen : Option PlainInboxes) (variables : List Data) (v : View) (sees : Sees p seen variables v) where
  -- the names to which it may assign, and those that it may read
  own_seen : (n : ℕ) → n ≡ length p.automaton.schedule.variables → take n (all_names v) ≡ map Word (variable_names p.automaton.schedule.variables)
  own_seen n h =
      let own = variable_names p.automaton.schedule.variables in
      let inboxes = inbox_words (message_shape p.automaton.rules) in
      let others = variable_names p.automaton.variables ++ parameter_names p.automaton.parameters in
      rw (sees.front, sees.names, append_assoc own inboxes others)
      (own_first Word n own (inboxes ++ others) (h ∙ sym (length-map p.automaton.schedule.variables (λ (x : CheckedVariable). x.declared.name))))

  all_seen : all_names v ++ map Word v.constants.now ≡ names_at block_statement (declared_names p.automaton) (block_own_names p.automaton)
  all_seen = rw (sees.front, sees.names, sees.constants) refl

  -- each value in view has a name
  pub sees_named : (values : List Data) → length values ≡ length p.automaton.schedule.variables → is_some seen ≡ is_some (message_shape p.automaton.rules) → length variables ≡ length p.automaton.variables → length p.arguments ≡ length p.automaton.parameters → IsNamed v values
  sees_named values h m k l =
      rw (sees.front, sees.names, length-map (scope_at block_statement (declared_names p.automaton) (block_own_names p.automaton)) Word, sees.inboxes, sees.first, sees.second)
      (four_long (variable_names p.automaton.schedule.variables) (inbox_words (message_shape p.automaton.rules)) (variable_names p.automaton.variables) (parameter_names p.automaton.parameters) values (inbox_values seen) variables p.arguments
      (length-map p.automaton.schedule.variables (λ (x : CheckedVariable). x.declared.name) ∙ sym h) (as_many seen (message_shape p.automaton.rules) m) (length-map p.automaton.variables (λ (x : CheckedVariable). x.declared.name) ∙ sym k) (length-map p.automaton.parameters (λ (d : CheckedDeclared). d.name) ∙ sym l))

  -- what is to do is resolved in view
  pub sees_resolved : (todo : PlainStatements ℕ Callee Shape) (values : List Data) → IsReady p todo values → AreResolvedIn v (length values) todo
  sees_resolved todo values h = rw (own_seen (length values) h.valued, all_seen) h.resolved

  -- and the block is ready if that is so
  pub ready_after : (todo : PlainStatements ℕ Callee Shape) (values : List Data) → AreResolvedIn v (length values) todo → length values ≡ length p.automaton.schedule.variables → AreNumbered p.automaton.rules todo → IsReady p todo values
  ready_after todo values h k n = record {
    valued = k;
    resolved = rw (own_seen (length values) k, all_seen) at h;
    numbered = n;
  }

  -- its terms are evaluated over the bindings of a block
  pub sees_bindings : (values : List Data) → environment_of v values ≡ block_bindings p.automaton p.arguments variables (inbox_values seen) values
  sees_bindings values =
      rw (sees.front, sees.names, sees.inboxes, sees.first, sees.second, sees.constants, append_assoc values (inbox_values seen) (variables ++ p.arguments)) refl

-- where a turn leaves a node
reached_by : (p : PlainProgress) (todo : PlainStatements ℕ Callee Shape) (e : Bindings) (vs : List Data) (t : Turn) → reached p (Ok (turn_of todo e vs t)) ≡ Ok (end_of vs t, record p { todo = todo; own = own_values (length p.own) e })
reached_by p todo e vs (turn.Fire f) = refl
reached_by p todo e vs turn.Idle = refl
reached_by p todo e vs turn.Done = refl

module _ (p : PlainProgress) (seen : Option PlainInboxes) (variables : List Data) (v : View) (sees : Sees p.program seen variables v) where
  pub turn_told : (todo : PlainStatements ℕ Callee Shape) (values vs : List Data) (t : Turn) → turn_answer p.todo turn_limit (environment_of v p.own) ≡ Ok (turn_of todo (environment_of v values) vs t) → length values ≡ length p.own → IsNamed v values →
      block_turn p seen variables ≡ Ok (end_of vs t, record p { todo = todo; own = values })
  turn_told todo values vs t h same named =
      ap (λ (e : Bindings). reached p (turn_answer p.todo turn_limit e)) (sym (sees_bindings p.program seen variables v sees p.own))
      ∙ ap (λ (r : Result _ TermFault). reached p r) h
      ∙ reached_by p todo (environment_of v values) vs t
      ∙ ap (λ (ds : List Data). Ok (end_of vs t, record p { todo = todo; own = ds }))
      (rw (← same) (own_of (all_names v) (values ++ lent_values v.lent) v.constants.now values (lent_values v.lent) refl named))

  pub turn_missed : (f : TermFault) → turn_answer p.todo turn_limit (environment_of v p.own) ≡ Err f → block_turn p seen variables ≡ reached p (Err f)
  turn_missed f h =
      ap (λ (e : Bindings). reached p (turn_answer p.todo turn_limit e)) (sym (sees_bindings p.program seen variables v sees p.own))
      ∙ ap (λ (r : Result _ TermFault). reached p r) h
