-- The position of a component among configurations.
use Rattle.std.proofs.Common.{◌≡◌, ℕ, suc, ◌+◌, ◌-◌, ◌<◌, ◌≤◌, Bool, true, false, List, [], ◌∷◌, ◌++◌, Some, None, refl, ap, length, set, arith, if◌then◌else◌}
use Rattle.std.specs.List.{position_from}
use Rattle.ioa_actions.specs.declared.component.Component.{Component}
use Rattle.ioa_compose.specs.declared.configuration.Conf.{Conf}
use Rattle.ioa_actions.specs.ComponentOrder.{same_component}
use Rattle.ioa_compose.specs.Composition.{component_of, put_conf, put_confs}

-- the first configuration of a name is `m - n` positions on
record IsPosition (d : Conf) (cs : List Conf) (n m : ℕ) : Type 0 where
  behind : n ≤ m
  within : m - n < length cs
  at : put_conf d cs ≡ set cs (m - n) d

-- behind a configuration of another name the position is one further on
next_position : (d c : Conf) (cs : List Conf) (n m : ℕ) → same_component (component_of d) (component_of c) ≡ false → IsPosition d cs (n + 1) m → IsPosition d (c ∷ cs) n m
next_position d c cs n m e p =
    let further : m - n ≡ suc (m - (n + 1)) = omega (arith, p.behind) in
    record {
      behind = omega (arith, p.behind);
      within = rw further (omega (arith, p.within));
      at = rw (further, e) (ap (λ ds. c ∷ ds) p.at);
    }

-- what is found by position is the position
position : (d : Conf) (cs : List Conf) (n m : ℕ) → position_from (λ c. same_component (component_of d) (component_of c)) n cs ≡ Some m → IsPosition d cs n m
position d [] n m h = absurd (cc)
position d (c ∷ cs) n m h = by_test (same_component (component_of d) (component_of c)) refl h (λ k. position d cs (n + 1) m k)
  where
    by_test : (b : Bool) → same_component (component_of d) (component_of c) ≡ b → (if b then Some n else position_from (λ e. same_component (component_of d) (component_of e)) (n + 1) cs) ≡ Some m →
        (position_from (λ e. same_component (component_of d) (component_of e)) (n + 1) cs ≡ Some m → IsPosition d cs (n + 1) m) → IsPosition d (c ∷ cs) n m
    by_test true e h more =
        let same_position : n ≡ m = cc in
        let first : m - n ≡ 0 = omega arith in
        record { behind = omega arith; within = rw first (omega arith); at = rw (first, e) refl }
    by_test false e h more = next_position d c cs n m e (more h)

-- the position of the first configuration of a name is within the list
pub position-within : (d : Conf) (cs : List Conf) (k : Component) (m : ℕ) → k ≡ component_of d → Some m ≡ position_from (λ c. same_component k (component_of c)) 0 cs → m < length cs
position-within d cs k m e h =
    let p : IsPosition d cs 0 m = position d cs 0 m (rw (← e, ← h) refl) in omega (arith, p.within)

-- a configuration is put at the position of the first one of its name
pub put_conf-position : (d : Conf) (cs : List Conf) (k : Component) (m : ℕ) → k ≡ component_of d → Some m ≡ position_from (λ c. same_component k (component_of c)) 0 cs → set cs m d ≡ put_conf d cs
put_conf-position d cs k m e h =
    let p : IsPosition d cs 0 m = position d cs 0 m (rw (← e, ← h) refl) in
    let same_position : m ≡ m - 0 = omega arith in
    rw (p.at, ← same_position) refl

-- without a position nothing is put
nowhere : (d : Conf) (cs : List Conf) (n : ℕ) → None ≡ position_from (λ c. same_component (component_of d) (component_of c)) n cs → cs ≡ put_conf d cs
nowhere d [] n h = refl
nowhere d (c ∷ cs) n h = by_test (same_component (component_of d) (component_of c)) refl h (λ k. nowhere d cs (n + 1) k)
  where
    by_test : (b : Bool) → same_component (component_of d) (component_of c) ≡ b → None ≡ (if b then Some n else position_from (λ e. same_component (component_of d) (component_of e)) (n + 1) cs) →
        (None ≡ position_from (λ e. same_component (component_of d) (component_of e)) (n + 1) cs → cs ≡ put_conf d cs) → c ∷ cs ≡ (if same_component (component_of d) (component_of c) then d ∷ cs else c ∷ put_conf d cs)
    by_test true e h more = absurd (cc)
    by_test false e h more = rw e (ap (λ ds. c ∷ ds) (more h))

-- if no configuration has its name, it is put nowhere
pub put_conf-no_position : (d : Conf) (cs : List Conf) (k : Component) → k ≡ component_of d → None ≡ position_from (λ c. same_component k (component_of c)) 0 cs → cs ≡ put_conf d cs
put_conf-no_position d cs k e h = nowhere d cs 0 (rw (← e) h)

-- one more configuration is put after the others
pub put_confs-push : (ds : List Conf) (d : Conf) (cs : List Conf) → put_confs (ds ++ d ∷ []) cs ≡ put_conf d (put_confs ds cs)
put_confs-push [] d cs = refl
put_confs-push (e ∷ ds) d cs = put_confs-push ds d (put_conf e cs)
