-- The start of a system in which each thing is declared once.
use Rattle.std.proofs.Common.{◌≡◌, ℤ, Bool, true, false, ◌||◌, List, [], ◌∷◌, ◌++◌, Option, Some, None, refl, sym, ap, subst, ◌∙◌, map}
use Rattle.std.specs.Prelude.{◌&&◌, if◌then◌else◌}
use Rattle.std.specs.List.{AllByRecursion, IsDistinct, list_all, list_any}
use Rattle.std.specs.Ordering.{int_eq}
use Rattle.std.proofs.lemmas.List.{map-append}
use Rattle.std.proofs.lemmas.List.Folds.{list_all-append}
use Rattle.std.proofs.lemmas.Bool.Decides.{Decides-int_eq}
use Rattle.ioa_actions.specs.declared.component.Component.{Component}
use Rattle.ioa_actions.specs.declared.component.Component.TheVariants as component
use Rattle.ioa_actions.specs.declared.component.ChannelKind.TheVariants.{Ordered}
use Rattle.ioa_source.specs.declared.declaration.Channel.{Channel}
use Rattle.ioa_system.specs.Declarations.{IsWellDeclared, has_node, same_channel}
use Rattle.ioa_system.specs.Parts.{Parts}
use Rattle.ioa_system.specs.Systems.{ScriptParts, SystemParts, script_of}
use Rattle.ioa_compose.specs.declared.configuration.Conf.{Conf}
use Rattle.ioa_compose.specs.declared.configuration.Conf.TheVariants.{Node, Queue}
use Rattle.ioa_channels.specs.declared.queue.Item.TheVariants.{Stimulus}
use Rattle.ioa_channels.specs.Queues.{queue_state}
use Rattle.ioa_compose.specs.JointStep.{IsJointState}
use Rattle.ioa_compose.proofs.Compositions.{IsStateOf}
use Rattle.ioa_actions.specs.ComponentOrder.{same_component}
use Rattle.ioa_compose.specs.Composition.{component_of, component_names, find_conf}
use Rattle.ioa_compose.specs.Start.{start, node_start, channel_start, script_start, stimuli_in}
use Rattle.ioa_compose.specs.IsStart.{IsStart, StartsScripted, StartsUnscripted, is_component_of}
use Rattle.ioa_actions.proofs.SameComponents.{Decides-same_component, same_component-itself}

-- what holds of each element of two lists holds of each of both
all_join : {A : Type 0} (P : A → Type 0) (xs ys : List A) → AllByRecursion P xs → AllByRecursion P ys → AllByRecursion P (xs ++ ys)
all_join P [] ys h k = k
all_join P (x ∷ xs) ys h k = (h.0, all_join P xs ys h.1 k)

all_first : {A : Type 0} (P : A → Type 0) (xs ys : List A) → AllByRecursion P (xs ++ ys) → AllByRecursion P xs
all_first P [] ys h = tt
all_first P (x ∷ xs) ys h = (h.0, all_first P xs ys h.1)

all_second : {A : Type 0} (P : A → Type 0) (xs ys : List A) → AllByRecursion P (xs ++ ys) → AllByRecursion P ys
all_second P [] ys h = h
all_second P (x ∷ xs) ys h = all_second P xs ys h.1

all_unmap : {A B : Type 0} (P : B → Type 0) (f : A → B) (xs : List A) → AllByRecursion P (map f xs) → AllByRecursion (λ x. P (f x)) xs
all_unmap P f [] h = tt
all_unmap P f (x ∷ xs) h = (h.0, all_unmap P f xs h.1)

all_weaken : {A : Type 0} {P Q : A → Type 0} → ((x : A) → P x → Q x) → (xs : List A) → AllByRecursion P xs → AllByRecursion Q xs
all_weaken f [] h = tt
all_weaken f (x ∷ xs) h = (f x h.0, all_weaken f xs h.1)

all_both : {A : Type 0} {P Q R : A → Type 0} → ((x : A) → P x → Q x → R x) → (xs : List A) → AllByRecursion P xs → AllByRecursion Q xs → AllByRecursion R xs
all_both f [] h k = tt
all_both f (x ∷ xs) h k = (f x h.0 k.0, all_both f xs h.1 k.1)

-- lists whose elements differ, and differ from each other's
distinct_join : (ks ls : List Component) → IsDistinct same_component ks → IsDistinct same_component ls → AllByRecursion (λ k. AllByRecursion (λ l. same_component k l ≡ false) ls) ks → IsDistinct same_component (ks ++ ls)
unfolding IsDistinct
distinct_join [] ls d e apart = e
distinct_join (k ∷ ks) ls d e apart = (all_join (λ l. same_component k l ≡ false) ks ls d.0 apart.0, distinct_join ks ls d.1 e apart.1)

-- names made of keys differ where the keys do
apart_by : {A X : Type 0} (e : X → X → Bool) (g : A → X) (h : A → Component) → ((x y : A) → same_component (h x) (h y) ≡ e (g x) (g y)) → (x : A) (xs : List A) →
    AllByRecursion (λ y. e (g x) y ≡ false) (map g xs) → AllByRecursion (λ k. same_component (h x) k ≡ false) (map h xs)
apart_by e g h same x [] apart = tt
apart_by e g h same x (y ∷ ys) apart = (same x y ∙ apart.0, apart_by e g h same x ys apart.1)

distinct_by : {A X : Type 0} (e : X → X → Bool) (g : A → X) (h : A → Component) → ((x y : A) → same_component (h x) (h y) ≡ e (g x) (g y)) → (xs : List A) →
    IsDistinct e (map g xs) → IsDistinct same_component (map h xs)
unfolding IsDistinct
distinct_by e g h same [] d = tt
distinct_by e g h same (x ∷ xs) d = (apart_by e g h same x xs d.0, distinct_by e g h same xs d.1)

map_itself : {A : Type 0} (xs : List A) → map (λ x. x) xs ≡ xs
map_itself [] = refl
map_itself (x ∷ xs) = ap (λ ys. x ∷ ys) (map_itself xs)

-- names of two kinds differ
apart_from : {B : Type 0} (l : B → Component) (k : Component) → ((y : B) → same_component k (l y) ≡ false) → (ys : List B) → AllByRecursion (λ m. same_component k m ≡ false) (map l ys)
apart_from l k never [] = tt
apart_from l k never (y ∷ ys) = (never y, apart_from l k never ys)

apart_kinds : {A B : Type 0} (h : A → Component) (l : B → Component) → ((x : A) (y : B) → same_component (h x) (l y) ≡ false) → (xs : List A) (ys : List B) →
    AllByRecursion (λ k. AllByRecursion (λ m. same_component k m ≡ false) (map l ys)) (map h xs)
apart_kinds h l never [] ys = tt
apart_kinds h l never (x ∷ xs) ys = (apart_from l (h x) (never x) ys, apart_kinds h l never xs ys)

-- the names of the nodes, of the channels and of the scripts
abbrev node_name : Parts → Component
node_name p = component.Node p.node

abbrev channel_name : Channel → Component
channel_name c = component.Channel c.from c.to

abbrev script_name : Parts → Component
script_name p = component.Script p.node

names_map : {A : Type 0} (f : A → Conf) (h : A → Component) → ((x : A) → component_of (f x) ≡ h x) → (xs : List A) → component_names (map f xs) ≡ map h xs
names_map f h same [] = refl
names_map f h same (x ∷ xs) = rw (same x, names_map f h same xs) refl

-- the components of the start
start_names : (s : SystemParts) → component_names (start s) ≡ (map node_name s.programs ++ map channel_name s.channels) ++ map script_name s.programs
start_names s =
    let nodes = map node_start s.programs in
    let channels = map channel_start s.channels in
    let scripts = map (script_start s.scripts) s.programs in
    map-append component_of (nodes ++ channels) scripts
    ∙ ap (λ ks. ks ++ component_names scripts) (map-append component_of nodes channels)
    ∙ ap (λ ks. (ks ++ component_names channels) ++ component_names scripts) (names_map node_start node_name (λ p. refl) s.programs)
    ∙ ap (λ ks. (map node_name s.programs ++ ks) ++ component_names scripts) (names_map channel_start channel_name (λ c. refl) s.channels)
    ∙ ap (λ ks. (map node_name s.programs ++ map channel_name s.channels) ++ ks) (names_map (script_start s.scripts) script_name (λ p. refl) s.programs)

-- no component is there twice
start_once : (s : SystemParts) → IsWellDeclared s → IsDistinct same_component (component_names (start s))
start_once s w =
    let nodes = distinct_by int_eq (λ (p : Parts). p.node) node_name (λ p q. refl) s.programs w.nodes in
    let scripts = distinct_by int_eq (λ (p : Parts). p.node) script_name (λ p q. refl) s.programs w.nodes in
    let channels = distinct_by same_channel (λ (c : Channel). c) channel_name (λ c d. refl) s.channels (subst (λ (cs : List Channel). IsDistinct same_channel cs) (sym (map_itself s.channels)) w.channels) in
    let first = distinct_join (map node_name s.programs) (map channel_name s.channels) nodes channels (apart_kinds node_name channel_name (λ p c. refl) s.programs s.channels) in
    let apart = all_join (λ k. AllByRecursion (λ l. same_component k l ≡ false) (map script_name s.programs)) (map node_name s.programs) (map channel_name s.channels)
    (apart_kinds node_name script_name (λ p q. refl) s.programs s.programs) (apart_kinds channel_name script_name (λ c p. refl) s.channels s.programs) in
    subst (λ (ks : List Component). IsDistinct same_component ks) (sym (start_names s))
    (distinct_join (map node_name s.programs ++ map channel_name s.channels) (map script_name s.programs) first scripts apart)

-- two names that differ do so in either order
differ_back : (k l : Component) → same_component k l ≡ false → same_component l k ≡ false
differ_back k l e = by_test (same_component l k) refl
  where
    by_test : (t : Bool) → same_component l k ≡ t → same_component l k ≡ false
    by_test true h =
        let one : l ≡ k = (Decides-same_component l k).0 h in
        let no : true ≡ false = sym (same_component-itself k) ∙ ap (λ x. same_component k x) (sym one) ∙ e in
        absurd (cc)
    by_test false h = h

-- if the names differ, each configuration is found by its name
found_each : (cs : List Conf) → IsDistinct same_component (component_names cs) → AllByRecursion (λ c. find_conf (component_of c) cs ≡ Some c) cs
unfolding IsDistinct
found_each [] d = tt
found_each (c ∷ cs) d = (rw (same_component-itself (component_of c)) refl, all_both later cs (all_unmap (λ k. same_component (component_of c) k ≡ false) component_of cs d.0) (found_each cs d.1))
  where
    later : (e : Conf) → same_component (component_of c) (component_of e) ≡ false → find_conf (component_of e) cs ≡ Some e → find_conf (component_of e) (c ∷ cs) ≡ Some e
    later e apart found = rw (differ_back (component_of c) (component_of e) apart) found

-- each element is among its list
among : {A : Type 0} (t : A → A → Bool) → ((x : A) → t x x ≡ true) → (xs : List A) → AllByRecursion (λ x. list_any (λ y. t y x) xs ≡ true) xs
among t itself [] = tt
among t itself (x ∷ xs) = (rw (itself x) refl, all_weaken later xs (among t itself xs))
  where
    or_true : (a b : Bool) → b ≡ true → (a || b) ≡ true
    or_true true b e = refl
    or_true false b e = e

    later : (y : _) → list_any (λ z. t z y) xs ≡ true → list_any (λ z. t z y) (x ∷ xs) ≡ true
    later y e = or_true (t x y) (list_any (λ z. t z y) xs) e

all_pass : {A B : Type 0} (test : B → Bool) (h : A → B) (xs : List A) → AllByRecursion (λ x. test (h x) ≡ true) xs → list_all test (map h xs) ≡ true
all_pass test h [] each = refl
all_pass test h (x ∷ xs) each = rw (each.0, all_pass test h xs each.1) refl

int_itself : (i : ℤ) → int_eq i i ≡ true
int_itself i = (Decides-int_eq i i).1 refl

-- there is no other component
start_no_other : (s : SystemParts) → list_all (is_component_of s) (component_names (start s)) ≡ true
start_no_other s =
    let nodes : list_all (is_component_of s) (map node_name s.programs) ≡ true = all_pass (is_component_of s) node_name s.programs (among (λ (p q : Parts). int_eq p.node q.node) (λ p. int_itself p.node) s.programs) in
    let scripts : list_all (is_component_of s) (map script_name s.programs) ≡ true = all_pass (is_component_of s) script_name s.programs (among (λ (p q : Parts). int_eq p.node q.node) (λ p. int_itself p.node) s.programs) in
    let channels : list_all (is_component_of s) (map channel_name s.channels) ≡ true = all_pass (is_component_of s) channel_name s.channels (among (λ (c d : Channel). int_eq c.from d.from && int_eq c.to d.to) (λ c. rw (int_itself c.from, int_itself c.to) refl) s.channels) in
    let all : list_all (is_component_of s) ((map node_name s.programs ++ map channel_name s.channels) ++ map script_name s.programs) ≡ true =
    list_all-append (is_component_of s) (map node_name s.programs ++ map channel_name s.channels) (map script_name s.programs)
    ∙ rw (scripts, list_all-append (is_component_of s) (map node_name s.programs) (map channel_name s.channels), nodes, channels) refl in
    rw (start_names s) all

-- if the nodes of scripts differ, each script is found by its node
own_script : (scripts : List ScriptParts) → IsDistinct int_eq (map (λ c. c.node) scripts) → AllByRecursion (λ c. script_of c.node scripts ≡ Some c) scripts
unfolding IsDistinct
own_script [] d = tt
own_script (c ∷ cs) d = (rw (int_itself c.node) refl, all_both later cs (all_unmap (λ k. int_eq c.node k ≡ false) (λ (e : ScriptParts). e.node) cs d.0) (own_script cs d.1))
  where
    later : (e : ScriptParts) → int_eq c.node e.node ≡ false → script_of e.node cs ≡ Some e → script_of e.node (c ∷ cs) ≡ Some e
    later e apart found = rw apart found

-- no script is found of a node that has none
no_script : (k : ℤ) (scripts : List ScriptParts) → list_any (λ c. int_eq c.node k) scripts ≡ false → script_of k scripts ≡ None
no_script k [] h = refl
no_script k (c ∷ cs) h = by_test (int_eq c.node k) h (no_script k cs)
  where
    by_test : (t : Bool) → (t || list_any (λ e. int_eq e.node k) cs) ≡ false → (list_any (λ e. int_eq e.node k) cs ≡ false → script_of k cs ≡ None) → (if t then Some c else script_of k cs) ≡ None
    by_test true h later = absurd (cc)
    by_test false h later = later h

-- an element that passes a test, and what holds of it as of each
at_any : {A : Type 0} (P : A → Type 0) (test : A → Bool) (xs : List A) → AllByRecursion P xs → list_any test xs ≡ true → (x : A) × P x × (test x ≡ true)
at_any P test [] each h = absurd (cc)
at_any P test (x ∷ xs) each h = by_test (test x) refl h (at_any P test xs each.1)
  where
    by_test : (t : Bool) → test x ≡ t → (t || list_any test xs) ≡ true → (list_any test xs ≡ true → (y : _) × P y × (test y ≡ true)) → (y : _) × P y × (test y ≡ true)
    by_test true e h later = (x, each.0, e)
    by_test false e h later = later h

-- the scripts of a start in which each node's script is found by its name
module _ (s : SystemParts) where
  abbrev script_at : ℤ → Conf
  script_at k = Queue (queue_state (component.Script k) Ordered (map Stimulus (stimuli_in (script_of k s.scripts))))

  abbrev IsScriptAt : ℤ → Type 0
  IsScriptAt k = find_conf (component.Script k) (start s) ≡ Some (script_at k)

  -- a declared script has its stimuli
  scripted : AllByRecursion (λ p. IsScriptAt p.node) s.programs → (c : ScriptParts) → script_of c.node s.scripts ≡ Some c → has_node s.programs c.node ≡ true → StartsScripted (start s) c
  scripted each c own declared =
      let found = at_any (λ (p : Parts). IsScriptAt p.node) (λ (p : Parts). int_eq p.node c.node) s.programs each declared in
      let same : found.0.node ≡ c.node = (Decides-int_eq found.0.node c.node).0 found.2 in
      subst IsScriptAt same found.1 ∙ ap (λ (o : Option ScriptParts). Some (Queue (queue_state (component.Script c.node) Ordered (map Stimulus (stimuli_in o))))) own

  -- and that of another node is empty
  unscripted : (p : Parts) → IsScriptAt p.node → StartsUnscripted s.scripts (start s) p
  unscripted p found none = found ∙ ap (λ (o : Option ScriptParts). Some (Queue (queue_state (component.Script p.node) Ordered (map Stimulus (stimuli_in o))))) (no_script p.node s.scripts none)

-- the start of a system that declares each thing once
pub is_start : (s : SystemParts) → IsWellDeclared s → IsStart s (start s)
is_start s w =
    let nodes = map node_start s.programs in
    let channels = map channel_start s.channels in
    let scripts = map (script_start s.scripts) s.programs in
    let once = start_once s w in
    let each = found_each (start s) once in
    let first = all_first Found (nodes ++ channels) scripts each in
    let last = all_unmap Found (script_start s.scripts) s.programs (all_second Found (nodes ++ channels) scripts each) in
    record {
      once = once;
      nodes = all_unmap Found node_start s.programs (all_first Found nodes channels first);
      channels = all_unmap Found channel_start s.channels (all_second Found nodes channels first);
      scripts = all_both (scripted s last) s.scripts (own_script s.scripts w.scripts) w.of_nodes;
      no_scripts = all_weaken (unscripted s) s.programs last;
      no_other = start_no_other s;
    }
  where
    Found : Conf → Type 0
    Found c = find_conf (component_of c) (start s) ≡ Some c

-- what holds of each configuration holds of the one that a name finds
of_found : (P : Conf → Type 0) (cs : List Conf) → AllByRecursion P cs → (k : Component) (c : Conf) → find_conf k cs ≡ Some c → P c
of_found P [] each k c h = absurd (cc)
of_found P (d ∷ cs) each k c h = by_test (same_component k (component_of d)) h (of_found P cs each.1 k c)
  where
    by_test : (t : Bool) → (if t then Some d else find_conf k cs) ≡ Some c → (find_conf k cs ≡ Some c → P c) → P c
    by_test true e further = let one : d ≡ c = cc in subst P one each.0
    by_test false e further = further e

all_map : {A B : Type 0} (P : B → Type 0) (f : A → B) (xs : List A) → AllByRecursion (λ x. P (f x)) xs → AllByRecursion P (map f xs)
all_map P f [] h = tt
all_map P f (x ∷ xs) h = (h.0, all_map P f xs h.1)

-- the start of a system that declares each thing once is a state of the composition
pub start_state : (s : SystemParts) → IsWellDeclared s → IsJointState (start s)
start_state s w =
    let nodes : AllByRecursion IsStateOf (map node_start s.programs) = all_map IsStateOf node_start s.programs (all_weaken (λ p once. record { program = once; valued = once.valued }) s.programs w.programs) in
    let channels : AllByRecursion IsStateOf (map channel_start s.channels) = all_map IsStateOf channel_start s.channels (every (λ c. tt) s.channels) in
    let scripts : AllByRecursion IsStateOf (map (script_start s.scripts) s.programs) = all_map IsStateOf (script_start s.scripts) s.programs (every (λ p. tt) s.programs) in
    let all = all_join IsStateOf (map node_start s.programs ++ map channel_start s.channels) (map (script_start s.scripts) s.programs) (all_join IsStateOf (map node_start s.programs) (map channel_start s.channels) nodes channels) scripts in
    record { once = start_once s w; nodes = λ k c found. of_found IsStateOf (start s) all k (Node c) found }
  where
    every : {A : Type 0} {P : A → Type 0} → ((x : A) → P x) → (xs : List A) → AllByRecursion P xs
    every f [] = tt
    every f (x ∷ xs) = (f x, every f xs)
