-- The participants of a step take it in the slots in which they are held.
use Rattle.std.proofs.Common.{◌≡◌, ◌≢◌, ◌+◌, ◌≤◌, ℕ, zero, suc, Bool, true, false, List, [], ◌∷◌, ◌++◌, Option, Some, None, Result, Ok, Err, refl, sym, ap, ◌∙◌, map, length, set, arith}
use Rattle.std.specs.Prelude.{◌||◌, slice_get}
use Rattle.ioa_values.specs.Outcome.{and_then}
use Rattle.std.specs.List.{position_from}
use Rattle.std.specs.Option.{option_map}
use Rattle.std.proofs.lemmas.Option.{slice_get-map, slice_get_past, slice_get_within}
use Rattle.ioa_actions.specs.ComponentOrder.{same_component}
use Rattle.ioa_actions.specs.declared.action.Action.{Action}
use Rattle.ioa_actions.specs.declared.action.Action.TheVariants.{Send, Receive, Local, Stimulus}
use Rattle.ioa_actions.specs.declared.fault.StepFault.{StepFault}
use Rattle.ioa_actions.specs.declared.component.Component.{Component}
use Rattle.ioa_actions.proofs.SameComponents.{Decides-same_component, same_component-itself}
use Rattle.ioa_transitions.specs.Entries.{PlainEntry}
use Rattle.ioa_compose.specs.Composition.{component_names, component_of, conf_answer, own_steps}
use Rattle.ioa_compose.specs.Participants.{participants_of, takes_part}
use Rattle.ioa_compose.specs.declared.configuration.Conf.{Conf}
use Rattle.ioa_compose.proofs.Components.{component_of-conf_answer, takes_part-is}
use Rattle.ioa_commits.specs.Proposals.{PlainParticipant, participants_next, participants_read}
use Rattle.ioa_commits.specs.Slots.{AreDistinct, AreHeldIn, advance, advance_both, next_version, put_all_held, put_held}
use Rattle.ioa_commits.specs.Versions.{PlainVersionedConf, read_component, version, versioned_conf, with_version}
use Rattle.ioa_commits.proofs.Lookups.{held_components}
use Rattle.ioa_commits.proofs.Puts.{IsPutAt, put_at, put_components}
use Rattle.ioa_commits.proofs.Raises.{raised_one, version_push}

module _ {A B : Type 0} (f g : A → B) where
  -- lists of what agrees everywhere
  agree : (xs : List A) → ((i : ℕ) (x : A) → slice_get xs i ≡ Some x → f x ≡ g x) → map f xs ≡ map g xs
  agree [] h = refl
  agree (x ∷ xs) h = rw (h zero x refl, agree xs (λ i y e. h (suc i) y e)) refl

  -- lists of what agrees but in one slot, in which the same is put
  pub agree_off : (xs : List A) (m : ℕ) (v : B) → ((i : ℕ) (x : A) → slice_get xs i ≡ Some x → i ≢ m → f x ≡ g x) → set (map f xs) m v ≡ set (map g xs) m v
  agree_off [] m v h = refl
  agree_off (x ∷ xs) zero v h = ap (λ (ys : List B). v ∷ ys) (agree xs (λ i y e. h (suc i) y e (λ z. omega (arith, z))))
  agree_off (x ∷ xs) (suc m) v h =
      rw (h zero x refl (λ z. omega (arith, z)), agree_off xs m v (λ i y e off. h (suc i) y e (λ z. off (omega (arith, z))))) refl

  -- and in two
  pub agree_off_two : (xs : List A) (m n : ℕ) (v w : B) → ((i : ℕ) (x : A) → slice_get xs i ≡ Some x → i ≢ m → i ≢ n → f x ≡ g x) → set (set (map f xs) m v) n w ≡ set (set (map g xs) m v) n w
  agree_off_two [] m n v w h = refl
  agree_off_two (x ∷ xs) zero zero v w h = ap (λ (ys : List B). w ∷ ys) (agree xs (λ i y e. h (suc i) y e (λ z. omega (arith, z)) (λ z. omega (arith, z))))
  agree_off_two (x ∷ xs) zero (suc n) v w h = ap (λ (ys : List B). v ∷ ys) (agree_off xs n w (λ i y e off. h (suc i) y e (λ z. omega (arith, z)) (λ z. off (omega (arith, z)))))
  agree_off_two (x ∷ xs) (suc m) zero v w h = ap (λ (ys : List B). w ∷ ys) (agree_off xs m v (λ i y e off. h (suc i) y e (λ z. off (omega (arith, z))) (λ z. omega (arith, z))))
  agree_off_two (x ∷ xs) (suc m) (suc n) v w h =
      rw (h zero x refl (λ z. omega (arith, z)) (λ z. omega (arith, z)), agree_off_two xs m n v w (λ i y e off further. h (suc i) y e (λ z. off (omega (arith, z))) (λ z. further (omega (arith, z))))) refl

-- what is put in one slot leaves what is in another
get_set_other : {A : Type 0} (xs : List A) (m n : ℕ) (v : A) → n ≢ m → slice_get (set xs m v) n ≡ slice_get xs n
get_set_other [] m n v off = refl
get_set_other (x ∷ xs) zero zero v off = absurd (off refl)
get_set_other (x ∷ xs) zero (suc n) v off = refl
get_set_other (x ∷ xs) (suc m) zero v off = refl
get_set_other (x ∷ xs) (suc m) (suc n) v off = get_set_other xs m n v (λ z. off (ap suc z))

-- nothing is put in a slot that is not there
pub none_advanced : (d : Conf) (held : List PlainVersionedConf) (m : ℕ) → length held ≤ m → held ≡ advance d m held
none_advanced d held m past = rw (slice_get_past held m past) refl

-- what is put in a slot that is there
advance_there : (d : Conf) (held : List PlainVersionedConf) (m : ℕ) (h : PlainVersionedConf) → slice_get held m ≡ Some h → advance d m held ≡ set held m (versioned_conf d (next_version h.version))
advance_there d held m h there = rw there refl

-- own steps keep the components
pub kept_names : (e : PlainEntry) (cs ds : List Conf) → own_steps e (map Some cs) ≡ Ok ds → map component_of ds ≡ map component_of cs
kept_names e [] ds h = let none : [] ≡ ds = cc in rw (← none) refl
kept_names e (c ∷ cs) ds h = by_step (λ more g. kept_names e cs more g) (conf_answer e c) refl h
  where
    by_step : ((more : List Conf) → own_steps e (map Some cs) ≡ Ok more → map component_of more ≡ map component_of cs) → (r : Result Conf StepFault) → conf_answer e c ≡ r → and_then r (λ d. and_then (own_steps e (map Some cs)) (λ more. Ok (d ∷ more))) ≡ Ok ds → map component_of ds ≡ component_of c ∷ map component_of cs
    by_step further (Err f) step h = absurd (cc)
    by_step further (Ok d) step h = by_more (own_steps e (map Some cs)) refl h
      where
        by_more : (r : Result (List Conf) StepFault) → own_steps e (map Some cs) ≡ r → and_then r (λ more. Ok (d ∷ more)) ≡ Ok ds → map component_of ds ≡ component_of c ∷ map component_of cs
        by_more (Err f) rest h = absurd (cc)
        by_more (Ok more) rest h =
            let all : d ∷ more ≡ ds = cc in
            rw (← all, component_of-conf_answer e c d step, further more rest) refl

-- the two participants of an action are different components
two_parts : (a : Action) (k : Component) → participants_of a ≡ k ∷ k ∷ [] → ⊥
two_parts (Send m i j) k h = absurd (cc)
two_parts (Receive m i j) k h = absurd (cc)
two_parts (Local a) k h = absurd (cc)
two_parts (Stimulus a) k h = absurd (cc)

module _ (log : List PlainEntry) (cs : List Conf) where
  -- what is held in a slot was a configuration of the list
  pub record IsOfConf (m : ℕ) (r : PlainVersionedConf) : Type 0 where
    pub conf : Conf
    pub there : slice_get cs m ≡ Some conf
    pub read : r ≡ with_version log conf

  pub of_conf : (m : ℕ) (r : PlainVersionedConf) → slice_get (map (with_version log) cs) m ≡ Some r → IsOfConf m r
  of_conf m r h = by_slot (slice_get cs m) refl (sym (slice_get-map (with_version log) cs m) ∙ h)
    where
      by_slot : (o : Option Conf) → slice_get cs m ≡ o → option_map (with_version log) o ≡ Some r → IsOfConf m r
      by_slot None g k = absurd (cc)
      by_slot (Some c) g k = record { conf = c; there = g; read = let same : with_version log c ≡ r = cc in sym same }

module _ (cs : List Conf) (distinct : AreDistinct (component_names cs)) where
  -- the slot of a component is the first that has its name
  pub first : (m : ℕ) (c : Conf) → slice_get cs m ≡ Some c → position_from (λ k. same_component (component_of c) k) 0 (component_names cs) ≡ Some m
  first m c h =
      let name : slice_get (component_names cs) m ≡ Some (component_of c) = slice_get-map component_of cs m ∙ ap (λ (o : Option Conf). option_map component_of o) h in
      distinct m (slice_get_within (component_names cs) m (component_of c) name) (component_of c) name

  -- so a component has one slot
  one_slot : (m n : ℕ) (c d : Conf) → slice_get cs m ≡ Some c → slice_get cs n ≡ Some d → component_of d ≡ component_of c → n ≡ m
  one_slot m n c d h g name =
      let twice : Some n ≡ Some m = sym (first n d g) ∙ rw name (first m c h) in cc

module _ (e : PlainEntry) (log : List PlainEntry) (small : length log ≤ 1000000) (cs : List Conf) (distinct : AreDistinct (component_names cs)) where
  abbrev pub after : List PlainEntry
  after = log ++ e ∷ []

  abbrev pub before : List PlainVersionedConf
  before = map (with_version log) cs

  abbrev pub behind : List PlainVersionedConf
  behind = map (with_version after) cs

  -- a component that takes no part keeps its version, and one that does gets the next
  unmoved : (c : Conf) → takes_part (component_of c) e.action ≡ false → with_version log c ≡ with_version after c
  unmoved c h = ap (λ (v : ℕ). versioned_conf c v) (sym (rw h at (version_push (component_of c) log e)))

  moved : (c : Conf) → takes_part (component_of c) e.action ≡ true → next_version (version (component_of c) log) ≡ version (component_of c) after
  moved c h = ap (λ (x : PlainVersionedConf). x.version) (rw h at (raised_one e log small c))

  -- what is held in a slot is a configuration with its version
  held_in : (f : Conf → PlainVersionedConf) (m : ℕ) (c : Conf) → slice_get cs m ≡ Some c → slice_get (map f cs) m ≡ Some (f c)
  held_in f m c h = slice_get-map f cs m ∙ ap (λ (o : Option Conf). option_map f o) h

  -- where a component's step is put
  put_there : (d c : Conf) (m : ℕ) → slice_get cs m ≡ Some c → component_of d ≡ component_of c → (hs : List PlainVersionedConf) → map read_component hs ≡ component_names cs → IsPutAt d hs m (put_held d hs)
  put_there d c m h name hs names = put_at d hs m (rw (name, names) (first cs distinct m c h))

  -- a node that takes its step alone
  alone_at : (d c : Conf) (m : ℕ) → slice_get cs m ≡ Some c → component_of d ≡ component_of c → participants_of e.action ≡ component_of c ∷ [] →
      set before m (versioned_conf d (next_version (version (component_of c) log))) ≡ put_held d behind
  alone_at d c m h name parts =
      agree_off (with_version log) (with_version after) cs m (versioned_conf d (next_version (version (component_of c) log))) others
      ∙ ap (λ (v : ℕ). set behind m (versioned_conf d v)) (moved c own)
      ∙ (put_there d c m h name behind (held_components after cs)).at (with_version after c) (held_in (with_version after) m c h)
    where
      own : takes_part (component_of c) e.action ≡ true
      own = rw (takes_part-is (component_of c) e.action, parts, same_component-itself (component_of c)) refl

      others : (i : ℕ) (x : Conf) → slice_get cs i ≡ Some x → i ≢ m → with_version log x ≡ with_version after x
      others i x g off = unmoved x (by_test (takes_part (component_of x) e.action) refl)
        where
          by_test : (b : Bool) → takes_part (component_of x) e.action ≡ b → b ≡ false
          by_test false t = refl
          by_test true t = absurd (off (one_slot cs distinct m i c x h g (named (same_component (component_of x) (component_of c)) refl)))
            where
              named : (s : Bool) → same_component (component_of x) (component_of c) ≡ s → component_of x ≡ component_of c
              named true q = (Decides-same_component (component_of x) (component_of c)).0 q
              named false q = let none : true ≡ false = sym t ∙ rw (takes_part-is (component_of x) e.action, parts, q) refl in absurd (cc)

  -- a queue and a node that take their steps together
  both_at : (b a d c : Conf) (q m : ℕ) → slice_get cs q ≡ Some a → slice_get cs m ≡ Some c → component_of b ≡ component_of a → component_of d ≡ component_of c → participants_of e.action ≡ component_of a ∷ component_of c ∷ [] →
      set (set before q (versioned_conf b (next_version (version (component_of a) log)))) m (versioned_conf d (next_version (version (component_of c) log))) ≡ put_held d (put_held b behind)
  both_at b a d c q m there h queue_name name parts =
      agree_off_two (with_version log) (with_version after) cs q m (versioned_conf b (next_version (version (component_of a) log))) (versioned_conf d (next_version (version (component_of c) log))) others
      ∙ rw (moved a queue_own, moved c own) refl
      ∙ ap (λ (hs : List PlainVersionedConf). set hs m (versioned_conf d (version (component_of c) after))) queue_put
      ∙ (put_there d c m h name (put_held b behind) (put_components b behind ∙ held_components after cs)).at (with_version after c) node_there
    where
      queue_own : takes_part (component_of a) e.action ≡ true
      queue_own = rw (takes_part-is (component_of a) e.action, parts, same_component-itself (component_of a)) refl

      or_true : (s : Bool) → (s || (true || false)) ≡ true
      or_true true = refl
      or_true false = refl

      own : takes_part (component_of c) e.action ≡ true
      own = rw (takes_part-is (component_of c) e.action, parts, same_component-itself (component_of c)) (or_true (same_component (component_of c) (component_of a)))

      apart : m ≢ q
      apart same = two_parts e.action (component_of a) (parts ∙ ap (λ (k : Component). component_of a ∷ k ∷ []) (ap component_of one))
        where
          one : c ≡ a
          one = let twice : Some c ≡ Some a = sym h ∙ rw same there in cc

      queue_put : set behind q (versioned_conf b (version (component_of a) after)) ≡ put_held b behind
      queue_put = (put_there b a q there queue_name behind (held_components after cs)).at (with_version after a) (held_in (with_version after) q a there)

      node_there : slice_get (put_held b behind) m ≡ Some (with_version after c)
      node_there = rw (← queue_put) (get_set_other behind q m (versioned_conf b (version (component_of a) after)) apart ∙ held_in (with_version after) m c h)

      others : (i : ℕ) (x : Conf) → slice_get cs i ≡ Some x → i ≢ q → i ≢ m → with_version log x ≡ with_version after x
      others i x g off_queue off = unmoved x (by_test (takes_part (component_of x) e.action) refl)
        where
          by_test : (t : Bool) → takes_part (component_of x) e.action ≡ t → t ≡ false
          by_test false t = refl
          by_test true t = absurd (named (same_component (component_of x) (component_of a)) (same_component (component_of x) (component_of c)) refl refl)
            where
              named : (s u : Bool) → same_component (component_of x) (component_of a) ≡ s → same_component (component_of x) (component_of c) ≡ u → ⊥
              named true u p r = off_queue (one_slot cs distinct q i a x there g ((Decides-same_component (component_of x) (component_of a)).0 p))
              named false true p r = off (one_slot cs distinct m i c x h g ((Decides-same_component (component_of x) (component_of c)).0 r))
              named false false p r = let none : true ≡ false = sym t ∙ rw (takes_part-is (component_of x) e.action, parts, p, r) refl in absurd (cc)

  -- the participants take their step where they are held, and nothing else changes
  pub advanced : (queue : Option PlainParticipant) (node : PlainParticipant) (at slot : ℕ) → AreHeldIn before at slot (option_map (λ p. p.read) queue) node.read → map read_component (participants_read queue node) ≡ participants_of e.action → map component_of (participants_next queue node) ≡ map read_component (participants_read queue node) →
      advance_both (option_map (λ p. p.next) queue) at node.next slot before ≡ put_all_held (participants_next queue node) behind
  advanced None node at slot held parts names =
      let c = of_conf log cs slot node.read held in
      let name : component_of node.next ≡ component_of c.conf = let heads : component_of node.next ≡ read_component node.read = cc in heads ∙ ap read_component c.read in
      let own : participants_of e.action ≡ component_of c.conf ∷ [] = sym parts ∙ ap (λ (r : PlainVersionedConf). read_component r ∷ []) c.read in
      advance_there node.next before slot node.read held
      ∙ ap (λ (r : PlainVersionedConf). set before slot (versioned_conf node.next (next_version r.version))) c.read
      ∙ alone_at node.next c.conf slot c.there name own
  advanced (Some queue) node at slot held parts names =
      let a = of_conf log cs at queue.read held.0 in
      let c = of_conf log cs slot node.read held.1 in
      let queue_name : component_of queue.next ≡ component_of a.conf = let heads : component_of queue.next ≡ read_component queue.read = cc in heads ∙ ap read_component a.read in
      let name : component_of node.next ≡ component_of c.conf = let heads : component_of node.next ≡ read_component node.read = cc in heads ∙ ap read_component c.read in
      let own : participants_of e.action ≡ component_of a.conf ∷ component_of c.conf ∷ [] =
      sym parts
      ∙ ap (λ (r : PlainVersionedConf). read_component r ∷ read_component node.read ∷ []) a.read
      ∙ ap (λ (r : PlainVersionedConf). component_of a.conf ∷ read_component r ∷ []) c.read in
      let step = both_at queue.next a.conf node.next c.conf at slot a.there c.there queue_name name own in
      let apart : slice_get (advance queue.next at before) slot ≡ Some (with_version log c.conf) = node_left at slot queue.next a.conf c.conf a.there c.there own held.0 a.read in
      advance_there node.next (advance queue.next at before) slot (with_version log c.conf) apart
      ∙ ap (λ (hs : List PlainVersionedConf). set hs slot (versioned_conf node.next (next_version (version (component_of c.conf) log)))) (advance_there queue.next before at queue.read held.0)
      ∙ ap (λ (r : PlainVersionedConf). set (set before at (versioned_conf queue.next (next_version r.version))) slot (versioned_conf node.next (next_version (version (component_of c.conf) log)))) a.read
      ∙ step
    where
      node_left : (q m : ℕ) (b a c : Conf) → slice_get cs q ≡ Some a → slice_get cs m ≡ Some c → participants_of e.action ≡ component_of a ∷ component_of c ∷ [] → {r : PlainVersionedConf} → slice_get before q ≡ Some r → r ≡ with_version log a → slice_get (advance b q before) m ≡ Some (with_version log c)
      node_left q m b a c there h own held_there read = rw held_there (get_set_other before q m _ apart ∙ held_in (with_version log) m c h)
        where
          apart : m ≢ q
          apart same = two_parts e.action (component_of a) (own ∙ ap (λ (k : Component). component_of a ∷ k ∷ []) (ap component_of one))
            where
              one : c ≡ a
              one = let twice : Some c ≡ Some a = sym h ∙ rw same there in cc
