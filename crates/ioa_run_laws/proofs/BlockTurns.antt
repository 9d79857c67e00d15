-- A turn of a schedule block keeps the shapes of the block's variables.
use Rattle.std.proofs.Common.{◌≡◌, ℕ, zero, suc, Bool, true, false, List, [], ◌∷◌, ◌++◌, Option, Some, None, if◌then◌else◌, refl, sym, ap, ◌∙◌, map, zip}
use Rattle.std.specs.List.{AllZip, Contains}
use Rattle.std.specs.Option.{IfSome, option_and_then, option_map}
use Rattle.std.proofs.lemmas.List.{append_assoc}
use Rattle.ioa_values.specs.Data.{Data}
use Rattle.ioa_operators.specs.Shapes.{PlainShape, has_shape}
use Rattle.ioa_operators.specs.declared.shape.Shape.{Shape}
use Rattle.ioa_operators.proofs.Holding.{map_holds, map_holds_any, and_then_holds_any, test_holds}
use Rattle.ioa_terms.specs.declared.callee.Callee.{Callee}
use Rattle.ioa_terms.specs.declared.name.Name.{Name}
use Rattle.ioa_terms.specs.declared.name.Name.TheVariants.{Word}
use Rattle.ioa_terms.specs.Bindings.{Bindings, constants_from, put, same_name}
use Rattle.ioa_terms.specs.Meaning.{values}
use Rattle.ioa_terms.specs.Performance.{assigned, assignment_value, fitting_value, target_name, target_shape, test_value}
use Rattle.ioa_terms.specs.PlainTerm.{PlainTarget, PlainStatement, PlainStatements, PlainArms, assign, branch, loop, fire, choosing, no_statements, statement, no_arms, arm, statements_of, terms_of}
use Rattle.ioa_terms.specs.Sorted.{shape_named}
use Rattle.ioa_source.specs.Sides.{CheckedVariable, SourceText}
use Rattle.ioa_system.specs.InView.{block_bindings, inbox_words, parameter_names, variable_names}
use Rattle.ioa_system.specs.Parts.{Parts, message_shape}
use Rattle.ioa_system.specs.Systems.{SystemParts}
use Rattle.ioa_automata.specs.NamesInView.{variable_shapes}
use Rattle.ioa_check.specs.Systems.{IsSystemOf}
use Rattle.ioa_transitions.specs.NodeState.{node_state}
use Rattle.ioa_schedules.specs.Turns.{TurnResult, turn_result, fires, joined_statements, following_statements, choice, after_step, turn}
use Rattle.ioa_run_laws.specs.BlockStates.{IsBlockState}
use Rattle.ioa_run_laws.specs.Shaped.{FitsVariable, FitInboxes, IsShapedNode}
use Rattle.ioa_run_laws.specs.WellSorted.{IsOwnTarget, AreBlockArmsWellSorted, AreBlockWellSorted}
use Rattle.ioa_run_laws.proofs.Effects.{after_test}
use Rattle.ioa_run_laws.proofs.Evaluated.{node_sorted}
use Rattle.ioa_run_laws.proofs.Starts.{node_shaped}

-- the block's own variables with their values come first in what it reads
pub own_read : (xs : List CheckedVariable) (own : List Data) (ws : List (List ℕ)) (others : List Data) (e : Bindings) → AllZip FitsVariable xs own → zip (map Word (variable_names xs ++ ws)) (own ++ others) ++ e ≡ zip (map Word (variable_names xs)) own ++ (zip (map Word ws) others ++ e)
own_read [] [] ws others e h = refl
own_read [] (v ∷ vs) ws others e h = absurd h
own_read (x ∷ xs) [] ws others e h = absurd h
own_read (x ∷ xs) (v ∷ vs) ws others e h = ap (λ (bs : Bindings). (Word x.declared.name, v) ∷ bs) (own_read xs vs ws others e h.1)

-- what a block of a program reads: its own variables with their values, and behind them the rest
pub bindings_read : (p : Parts) (state inboxes own : List Data) → AllZip FitsVariable p.automaton.schedule.variables own →
    block_bindings p.automaton p.arguments state inboxes own
    ≡ zip (map Word (variable_names p.automaton.schedule.variables)) own
    ++ (zip (map Word (inbox_words (message_shape p.automaton.rules) ++ (variable_names p.automaton.variables ++ parameter_names p.automaton.parameters))) (inboxes ++ (state ++ p.arguments)) ++ constants_from 0 p.automaton.constants)
bindings_read p state inboxes own h =
    let xs = variable_names p.automaton.schedule.variables in
    let is = inbox_words (message_shape p.automaton.rules) in
    let ws = variable_names p.automaton.variables ++ parameter_names p.automaton.parameters in
    (λ i. zip (map Word (append_assoc xs is ws i)) (append_assoc own inboxes (state ++ p.arguments) i) ++ constants_from 0 p.automaton.constants)
    ∙ own_read p.automaton.schedule.variables own (is ++ ws) (inboxes ++ (state ++ p.arguments)) (constants_from 0 p.automaton.constants) h

-- an assignment of a value of its shape to one of them leaves values of their shapes
record IsPut (xs : List CheckedVariable) (rest e : Bindings) : Type 0 where
  left : List Data
  fits : AllZip FitsVariable xs left
  same : e ≡ zip (map Word (variable_names xs)) left ++ rest

put_own : (xs : List CheckedVariable) (own : List Data) (rest : Bindings) (x : Name) (d : PlainShape) (v : Data) → AllZip FitsVariable xs own → shape_named x (variable_shapes xs) ≡ Some d → has_shape d v ≡ true → IsPut xs rest (put x v (zip (map Word (variable_names xs)) own ++ rest))
put_own [] own rest x d v fits declared has = absurd (cc)
put_own (y ∷ ys) [] rest x d v fits declared has = absurd fits
put_own (y ∷ ys) (w ∷ ws) rest x d v fits declared has = by_same (same_name x (Word y.declared.name)) refl declared (λ k. put_own ys ws rest x d v fits.1 k has)
  where
    by_same : (b : Bool) → same_name x (Word y.declared.name) ≡ b → (if b then Some y.declared.shape else shape_named x (variable_shapes ys)) ≡ Some d →
        (shape_named x (variable_shapes ys) ≡ Some d → IsPut ys rest (put x v (zip (map Word (variable_names ys)) ws ++ rest))) → IsPut (y ∷ ys) rest (put x v (zip (map Word (variable_names (y ∷ ys))) (w ∷ ws) ++ rest))
    by_same true e k further =
        let shape : y.declared.shape ≡ d = cc in
        record { left = v ∷ ws; fits = (rw shape has, fits.1); same = rw e refl }
    by_same false e k further =
        let r = further k in
        record { left = w ∷ r.left; fits = (fits.0, r.fits); same = rw e (ap (λ (bs : Bindings). (Word y.declared.name, w) ∷ bs) r.same) }

-- lists of well-sorted statements, one behind the other
joined_sorted : (p : Parts) (ss more : PlainStatements ℕ Callee Shape) (e : Bindings) → AreBlockWellSorted p.automaton.schedule.variables p.automaton.rules ss e → AreBlockWellSorted p.automaton.schedule.variables p.automaton.rules more e → AreBlockWellSorted p.automaton.schedule.variables p.automaton.rules (joined_statements ss more) e
joined_sorted p no_statements more e h g = g
joined_sorted p (statement s ss) more e h g = (h.0, joined_sorted p ss more e h.1 g)

module _ (p : Parts) where
  -- what holds of statements, or of arms, for all values of their shapes
  abbrev AreSorted : PlainStatements ℕ Callee Shape → Type 0
  AreSorted todo = (state inboxes later : List Data) → AllZip FitsVariable p.automaton.variables state → FitInboxes (message_shape p.automaton.rules) inboxes → AllZip FitsVariable p.automaton.schedule.variables later → AreBlockWellSorted p.automaton.schedule.variables p.automaton.rules todo (block_bindings p.automaton p.arguments state inboxes later)

  abbrev AreArmsSorted : PlainArms ℕ Callee Shape → Type 0
  AreArmsSorted arms = (state inboxes later : List Data) → AllZip FitsVariable p.automaton.variables state → FitInboxes (message_shape p.automaton.rules) inboxes → AllZip FitsVariable p.automaton.schedule.variables later → AreBlockArmsWellSorted p.automaton.schedule.variables p.automaton.rules arms (block_bindings p.automaton p.arguments state inboxes later)

  -- what an `if` goes on with
  choice_sorted : (arms : PlainArms ℕ Callee Shape) (rest : PlainStatements ℕ Callee Shape) (e : Bindings) → AreArmsSorted arms → AreSorted rest → IfSome (choice arms rest e) AreSorted
  choice_sorted no_arms rest e h g = g
  choice_sorted (arm t body more) rest e h g =
      after_test (λ (o : Option (PlainStatements ℕ Callee Shape)). IfSome o AreSorted) (test_value t e) None (Some body) (choice more rest e)
      tt (λ state is later f i k. (h state is later f i k).1) (choice_sorted more rest e (λ state is later f i k. (h state is later f i k).2) g)

  module _ (state inboxes : List Data) (g : AllZip FitsVariable p.automaton.variables state) (seen : FitInboxes (message_shape p.automaton.rules) inboxes) where
    abbrev reads : List Data → Bindings
    reads own = block_bindings p.automaton p.arguments state inboxes own

    -- the block after some statements: its variables have values of their shapes, and what is to do is well sorted
    record IsLeft (e : Bindings) : Type 0 where
      own : List Data
      fits : AllZip FitsVariable p.automaton.schedule.variables own
      same : e ≡ block_bindings p.automaton p.arguments state inboxes own

    record IsKept (todo : PlainStatements ℕ Callee Shape) (e : Bindings) : Type 0 where
      left : IsLeft e
      sorted : AreSorted todo

    as_it_was : (own : List Data) → AllZip FitsVariable p.automaton.schedule.variables own → IsLeft (reads own)
    as_it_was own fits = record { own = own; fits = fits; same = refl }

    assigned_left : (q : PlainTarget ℕ Callee Shape) (v : Data) (own : List Data) → AllZip FitsVariable p.automaton.schedule.variables own → IsOwnTarget p.automaton.schedule.variables q → has_shape (target_shape q) v ≡ true → IsLeft (put (target_name q) v (reads own))
    assigned_left q v own fits declared has =
        let xs = p.automaton.schedule.variables in
        let ws = inbox_words (message_shape p.automaton.rules) ++ (variable_names p.automaton.variables ++ parameter_names p.automaton.parameters) in
        let others = inboxes ++ (state ++ p.arguments) in
        let constants = constants_from 0 p.automaton.constants in
        let r = put_own xs own (zip (map Word ws) others ++ constants) (target_name q) (target_shape q) v fits declared has in
        record {
          own = r.left;
          fits = r.fits;
          same = ap (put (target_name q) v) (bindings_read p state inboxes own fits) ∙ r.same ∙ sym (bindings_read p state inboxes r.left r.fits);
        }

    assignment_left : (q : PlainTarget ℕ Callee Shape) (o : Option Data) (own : List Data) → AllZip FitsVariable p.automaton.schedule.variables own → IsOwnTarget p.automaton.schedule.variables q →
        IfSome (option_map (λ v. put (target_name q) v (reads own)) (option_and_then (fitting_value (target_shape q)) o)) IsLeft
    assignment_left q o own fits declared =
        map_holds Fits IsLeft (λ v. put (target_name q) v (reads own)) (option_and_then (fitting_value (target_shape q)) o)
        (and_then_holds_any Fits (fitting_value (target_shape q)) o (λ v. test_holds Fits (has_shape (target_shape q) v) v (λ k. k)))
        (λ v k. assigned_left q v own fits declared k)
      where
        Fits : Data → Type 0
        Fits v = has_shape (target_shape q) v ≡ true

    abbrev StepKeeps : Option (PlainStatements ℕ Callee Shape × Bindings) → Type 0
    StepKeeps o = IfSome o (λ q. IsKept q.0 q.1)

    -- one statement
    step_kept : (s : PlainStatement ℕ Callee Shape) (rest : PlainStatements ℕ Callee Shape) (own : List Data) → AllZip FitsVariable p.automaton.schedule.variables own → AreSorted (statement s rest) → StepKeeps (after_step s rest (reads own))
    step_kept (assign q t) rest own fits h =
        map_holds IsLeft (λ (k : PlainStatements ℕ Callee Shape × Bindings). IsKept k.0 k.1) (λ d. (rest, d)) (assigned q t (reads own))
        (assignment_left q (assignment_value q t (reads own)) own fits (h state inboxes own g seen fits).0.0)
        (λ d k. record { left = k; sorted = λ st is later a i b. (h st is later a i b).1 })
    step_kept (branch arms others) rest own fits h =
        map_holds AreSorted (λ (k : PlainStatements ℕ Callee Shape × Bindings). IsKept k.0 k.1) (λ body. (joined_statements body rest, reads own)) (choice arms others (reads own))
        (choice_sorted arms others (reads own) (λ st is later a i b. (h st is later a i b).0.0) (λ st is later a i b. (h st is later a i b).0.1))
        (λ body k. record { left = as_it_was own fits; sorted = λ st is later a i b. joined_sorted p body rest (block_bindings p.automaton p.arguments st is later) (k st is later a i b) (h st is later a i b).1 })
    step_kept (loop t body) rest own fits h =
        after_test StepKeeps (test_value t (reads own)) None (Some (joined_statements body (statement (loop t body) rest), reads own)) (Some (rest, reads own))
        tt
        (record { left = as_it_was own fits; sorted = λ st is later a i b. joined_sorted p body (statement (loop t body) rest) (block_bindings p.automaton p.arguments st is later) (h st is later a i b).0.1 (h st is later a i b) })
        (record { left = as_it_was own fits; sorted = λ st is later a i b. (h st is later a i b).1 })
    step_kept (fire f) rest own fits h = tt
    step_kept (choosing c) rest own fits h = tt

    abbrev TurnKeeps : Option TurnResult → Type 0
    TurnKeeps o = IfSome o (λ r. IsKept r.todo r.bindings)

    here_kept : (todo : PlainStatements ℕ Callee Shape) (own : List Data) → AllZip FitsVariable p.automaton.schedule.variables own → AreSorted todo → IsKept todo (reads own)
    here_kept todo own fits h = record { left = as_it_was own fits; sorted = h }

    -- further statements of a turn
    further_kept : (n : ℕ) (o : Option (PlainStatements ℕ Callee Shape × Bindings)) → StepKeeps o →
        ((todo : PlainStatements ℕ Callee Shape) (own : List Data) → AllZip FitsVariable p.automaton.schedule.variables own → AreSorted todo → TurnKeeps (turn todo n (reads own))) → TurnKeeps (option_and_then (λ q. turn q.0 n q.1) o)
    further_kept n None h more = tt
    further_kept n (Some q) h more = rw h.left.same (more q.0 h.left.own h.left.fits h.sorted)

    turn_kept : (n : ℕ) (todo : PlainStatements ℕ Callee Shape) (own : List Data) → AllZip FitsVariable p.automaton.schedule.variables own → AreSorted todo → TurnKeeps (turn todo n (reads own))
    turn_kept n no_statements own fits h = here_kept no_statements own fits h
    turn_kept n (statement (fire f) rest) own fits h =
        map_holds_any (λ (r : TurnResult). IsKept r.todo r.bindings) (λ vs. turn_result (fires f.kind f.action vs) (statement (fire f) rest) (reads own)) (values (terms_of f.arguments) (reads own))
        (λ vs. here_kept (statement (fire f) rest) own fits h)
    turn_kept zero (statement (assign q t) rest) own fits h = here_kept (statement (assign q t) rest) own fits h
    turn_kept zero (statement (branch arms others) rest) own fits h = here_kept (statement (branch arms others) rest) own fits h
    turn_kept zero (statement (loop t body) rest) own fits h = here_kept (statement (loop t body) rest) own fits h
    turn_kept zero (statement (choosing c) rest) own fits h = here_kept (statement (choosing c) rest) own fits h
    turn_kept (suc n) (statement (assign q t) rest) own fits h =
        further_kept n (after_step (assign q t) rest (reads own)) (step_kept (assign q t) rest own fits h) (λ todo left k l. turn_kept n todo left k l)
    turn_kept (suc n) (statement (branch arms others) rest) own fits h =
        further_kept n (after_step (branch arms others) rest (reads own)) (step_kept (branch arms others) rest own fits h) (λ todo left k l. turn_kept n todo left k l)
    turn_kept (suc n) (statement (loop t body) rest) own fits h =
        further_kept n (after_step (loop t body) rest (reads own)) (step_kept (loop t body) rest own fits h) (λ todo left k l. turn_kept n todo left k l)
    turn_kept (suc n) (statement (choosing c) rest) own fits h = tt

    turn_left : (r : TurnResult) → IsKept r.todo r.bindings → (left : List Data) × (r.bindings ≡ block_bindings p.automaton p.arguments state inboxes left) × IsBlockState p r.todo left
    turn_left r k = (k.left.own, k.left.same, record { values = k.left.fits; sorted = k.sorted })

-- a turn
pub block_turns : (p : Parts) (state inboxes own : List Data) (todo : PlainStatements ℕ Callee Shape) (n : ℕ) (r : TurnResult) → AllZip FitsVariable p.automaton.variables state → FitInboxes (message_shape p.automaton.rules) inboxes → IsBlockState p todo own →
    turn todo n (block_bindings p.automaton p.arguments state inboxes own) ≡ Some r → (left : List Data) × (r.bindings ≡ block_bindings p.automaton p.arguments state inboxes left) × IsBlockState p r.todo left
block_turns p state inboxes own todo n r g seen b h = turn_left p state inboxes g seen r (rw h at (turn_kept p state inboxes g seen n todo own b.values b.sorted))

-- the way past the first statement
pub block_passes : (p : Parts) (todo : PlainStatements ℕ Callee Shape) (own : List Data) → IsBlockState p todo own → IsBlockState p (following_statements todo) own
block_passes p no_statements own b = b
block_passes p (statement s rest) own b = record { values = b.values; sorted = λ state is later g i k. (b.sorted state is later g i k).1 }

-- the start
pub block_starts : (x : SourceText) (s : SystemParts) (p : Parts) → IsSystemOf x s → Contains s.programs p → IsBlockState p (statements_of p.automaton.schedule.statements) p.block
block_starts x s p h c =
    let initial = node_shaped x s h p c in
    record {
      values = (node_sorted x s h (node_state p p.initial) initial).block_starts;
      sorted = λ state is later g i k. (node_sorted x s h (node_state p state) (with_values state g)).block is later i k;
    }
  where
    with_values : (state : List Data) → AllZip FitsVariable p.automaton.variables state → IsShapedNode s (node_state p state)
    with_values state g = record { program = c; arguments = (node_shaped x s h p c).arguments; variables = g }
