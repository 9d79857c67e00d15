-- What a turn keeps, and where it may be cut.
use Rattle.std.proofs.Common.{◌≡◌, ◌+◌, ℕ, zero, suc, Bool, true, false, [], ◌∷◌, Option, Some, None, refl, sym, ap, ◌∙◌, arith}
use Rattle.std.specs.Option.{option_and_then, option_map}
use Rattle.ioa_values.specs.Outcome.{and_then}
use Rattle.ioa_operators.specs.declared.shape.Shape.{Shape}
use Rattle.ioa_terms.specs.declared.callee.Callee.{Callee}
use Rattle.ioa_terms.specs.Bindings.{Bindings, names_of}
use Rattle.ioa_terms.specs.PlainTerm.{terms_of, PlainStatement, PlainStatements, PlainTarget, PlainTerm, assign, branch, loop, fire, choosing, no_statements, statement}
use Rattle.ioa_terms.specs.Meaning.{values}
use Rattle.ioa_terms.specs.Choices.{left, given}
use Rattle.ioa_terms.specs.Performance.{test_value, by_test, assigned, after_all, after_assign}
use Rattle.ioa_terms.proofs.Statements.{after_names}
use Rattle.ioa_schedules.specs.Turns.{TurnResult, turn_result, fires, idle, done, joined_statements, choice, after_step, turn}

-- what is to do, and the environment
abbrev State : Type 0
State = PlainStatements ℕ Callee Shape × Bindings

-- an assignment changes no name
assigned_names : (o : Option Bindings) (rest : PlainStatements ℕ Callee Shape) (e : Bindings) (p : State) → ((f : Bindings) → o ≡ Some f → names_of f ≡ names_of e) → option_map {U = State} (λ d. (rest, d)) o ≡ Some p → names_of p.1 ≡ names_of e
assigned_names None rest e p g h = absurd (cc)
assigned_names (Some d) rest e p g h = let same : (rest, d) ≡ p = cc in sym (ap (λ (q : State). names_of q.1) same) ∙ g d refl

branch_names : (o : Option (PlainStatements ℕ Callee Shape)) (rest : PlainStatements ℕ Callee Shape) (e : Bindings) (p : State) → option_map {U = State} (λ body. (joined_statements body rest, e)) o ≡ Some p → names_of p.1 ≡ names_of e
branch_names None rest e p h = absurd (cc)
branch_names (Some body) rest e p h = let same : (joined_statements body rest, e) ≡ p = cc in sym (ap (λ (q : State). names_of q.1) same)

loop_names : (b : Option Bool) (again rest : PlainStatements ℕ Callee Shape) (e : Bindings) (p : State) → by_test {A = Option State} b None (Some (again, e)) (Some (rest, e)) ≡ Some p → names_of p.1 ≡ names_of e
loop_names None again rest e p h = absurd (cc)
loop_names (Some true) again rest e p h = let same : (again, e) ≡ p = cc in sym (ap (λ (q : State). names_of q.1) same)
loop_names (Some false) again rest e p h = let same : (rest, e) ≡ p = cc in sym (ap (λ (q : State). names_of q.1) same)

-- by what an effect leaves that chooses nothing
assignment_names : (q : PlainTarget ℕ Callee Shape) (t : PlainTerm ℕ Callee Shape) (e f : Bindings) → assigned q t e ≡ Some f → names_of f ≡ names_of e
assignment_names q t e f k = after_names (assign q t ∷ []) (left e (given [])) (left f (given [])) (ap (λ (o : Option Bindings). and_then (after_assign o (given [])) (after_all {N = ℕ} {C = Callee} no_statements)) k)

-- nor does any statement
step_names : (s : PlainStatement ℕ Callee Shape) (rest : PlainStatements ℕ Callee Shape) (e : Bindings) (p : State) → after_step s rest e ≡ Some p → names_of p.1 ≡ names_of e
step_names (assign q t) rest e p h = assigned_names (assigned q t e) rest e p (λ f k. assignment_names q t e f k) h
step_names (branch arms others) rest e p h = branch_names (choice arms others e) rest e p h
step_names (loop t body) rest e p h = loop_names (test_value t e) (joined_statements body (statement (loop t body) rest)) rest e p h
step_names (fire f) rest e p h = absurd (cc)
step_names (choosing c) rest e p h = absurd (cc)

-- a turn that ends at once
here_names : (e : Bindings) (t r : TurnResult) → t.bindings ≡ e → Some t ≡ Some r → names_of r.bindings ≡ names_of e
here_names e t r g h = let same : t ≡ r = cc in sym (ap (λ (q : TurnResult). names_of q.bindings) same) ∙ ap names_of g

fire_names : {A : Type 0} (o : Option A) (made : A → TurnResult) (e : Bindings) (r : TurnResult) → ((a : A) → (made a).bindings ≡ e) → option_map made o ≡ Some r → names_of r.bindings ≡ names_of e
fire_names None made e r g h = absurd (cc)
fire_names (Some a) made e r g h = here_names e (made a) r (g a) h

on_names : (o : Option State) (n : ℕ) (e : Bindings) (r : TurnResult) → ((p : State) → o ≡ Some p → names_of p.1 ≡ names_of e) → ((todo : PlainStatements ℕ Callee Shape) (d : Bindings) → turn todo n d ≡ Some r → names_of r.bindings ≡ names_of d) → option_and_then (λ p. turn p.0 n p.1) o ≡ Some r → names_of r.bindings ≡ names_of e
on_names None n e r g k h = absurd (cc)
on_names (Some p) n e r g k h = k p.0 p.1 h ∙ g p refl

names_by : (n : ℕ) (todo : PlainStatements ℕ Callee Shape) (e : Bindings) (r : TurnResult) → turn todo n e ≡ Some r → names_of r.bindings ≡ names_of e
names_by n no_statements e r h = here_names e (turn_result done no_statements e) r refl h
names_by n (statement (fire f) rest) e r h = fire_names (values (terms_of f.arguments) e) (λ vs. turn_result (fires f.kind f.action vs) (statement (fire f) rest) e) e r (λ vs. refl) h
names_by zero (statement (assign p t) rest) e r h = here_names e (turn_result idle (statement (assign p t) rest) e) r refl h
names_by zero (statement (branch arms others) rest) e r h = here_names e (turn_result idle (statement (branch arms others) rest) e) r refl h
names_by zero (statement (loop t body) rest) e r h = here_names e (turn_result idle (statement (loop t body) rest) e) r refl h
names_by zero (statement (choosing c) rest) e r h = here_names e (turn_result idle (statement (choosing c) rest) e) r refl h
names_by (suc n) (statement (assign p t) rest) e r h = on_names (after_step (assign p t) rest e) n e r (step_names (assign p t) rest e) (λ todo d k. names_by n todo d r k) h
names_by (suc n) (statement (branch arms others) rest) e r h = on_names (after_step (branch arms others) rest e) n e r (step_names (branch arms others) rest e) (λ todo d k. names_by n todo d r k) h
names_by (suc n) (statement (loop t body) rest) e r h = on_names (after_step (loop t body) rest e) n e r (step_names (loop t body) rest e) (λ todo d k. names_by n todo d r k) h
names_by (suc n) (statement (choosing c) rest) e r h = absurd (cc)

pub turn_names : (todo : PlainStatements ℕ Callee Shape) (n : ℕ) (e : Bindings) (r : TurnResult) → turn todo n e ≡ Some r → names_of r.bindings ≡ names_of e
turn_names todo n e r h = names_by n todo e r h

-- one that ends of itself is not idle
not_idle : (t r : TurnResult) → (t.ending ≡ idle → ⊥) → Some t ≡ Some r → r.ending ≡ idle → ⊥
not_idle t r g h k = let same : t ≡ r = cc in g (ap (λ (q : TurnResult). q.ending) same ∙ k)

fire_not_idle : {A : Type 0} (o : Option A) (made : A → TurnResult) (r : TurnResult) → ((a : A) → (made a).ending ≡ idle → ⊥) → option_map made o ≡ Some r → r.ending ≡ idle → ⊥
fire_not_idle None made r g h k = absurd (cc)
fire_not_idle (Some a) made r g h k = not_idle (made a) r (g a) h k

-- one that is idle at once goes on from there
idle_here : (todo : PlainStatements ℕ Callee Shape) (m : ℕ) (e : Bindings) (r : TurnResult) → Some (turn_result idle todo e) ≡ Some r → turn todo (zero + m) e ≡ turn r.todo m r.bindings
idle_here todo m e r h =
    let same : turn_result idle todo e ≡ r = cc in
    let none : zero + m ≡ m = omega arith in
    rw none (ap (λ (q : TurnResult). turn q.todo m q.bindings) same)

on_limit : (o : Option State) (n m : ℕ) (r : TurnResult) → ((todo : PlainStatements ℕ Callee Shape) (d : Bindings) → turn todo n d ≡ Some r → turn todo (n + m) d ≡ turn r.todo m r.bindings) → option_and_then (λ p. turn p.0 n p.1) o ≡ Some r → option_and_then (λ p. turn p.0 (n + m) p.1) o ≡ turn r.todo m r.bindings
on_limit None n m r k h = absurd (cc)
on_limit (Some p) n m r k h = k p.0 p.1 h

limit_by : (n : ℕ) (todo : PlainStatements ℕ Callee Shape) (m : ℕ) (e : Bindings) (r : TurnResult) → turn todo n e ≡ Some r → r.ending ≡ idle → turn todo (n + m) e ≡ turn r.todo m r.bindings
limit_by n no_statements m e r h k = absurd (not_idle (turn_result done no_statements e) r (λ g. absurd (cc)) h k)
limit_by n (statement (fire f) rest) m e r h k = absurd (fire_not_idle (values (terms_of f.arguments) e) (λ vs. turn_result (fires f.kind f.action vs) (statement (fire f) rest) e) r (λ vs g. absurd (cc)) h k)
limit_by zero (statement (assign p t) rest) m e r h k = idle_here (statement (assign p t) rest) m e r h
limit_by zero (statement (branch arms others) rest) m e r h k = idle_here (statement (branch arms others) rest) m e r h
limit_by zero (statement (loop t body) rest) m e r h k = idle_here (statement (loop t body) rest) m e r h
limit_by zero (statement (choosing c) rest) m e r h k = idle_here (statement (choosing c) rest) m e r h
limit_by (suc n) (statement (assign p t) rest) m e r h k =
    let more : suc n + m ≡ suc (n + m) = omega arith in
    rw more (on_limit (after_step (assign p t) rest e) n m r (λ todo d g. limit_by n todo m d r g k) h)
limit_by (suc n) (statement (branch arms others) rest) m e r h k =
    let more : suc n + m ≡ suc (n + m) = omega arith in
    rw more (on_limit (after_step (branch arms others) rest e) n m r (λ todo d g. limit_by n todo m d r g k) h)
limit_by (suc n) (statement (loop t body) rest) m e r h k =
    let more : suc n + m ≡ suc (n + m) = omega arith in
    rw more (on_limit (after_step (loop t body) rest e) n m r (λ todo d g. limit_by n todo m d r g k) h)
limit_by (suc n) (statement (choosing c) rest) m e r h k = absurd (cc)

pub turn_goes_on_from : (todo : PlainStatements ℕ Callee Shape) (n m : ℕ) (e : Bindings) (r : TurnResult) → turn todo n e ≡ Some r → r.ending ≡ idle → turn todo (n + m) e ≡ turn r.todo m r.bindings
turn_goes_on_from todo n m e r h k = limit_by n todo m e r h k
