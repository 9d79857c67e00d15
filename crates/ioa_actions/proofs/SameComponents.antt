-- The test of components finds two the same exactly if they are equal.
use Rattle.std.proofs.Common.{◌≡◌, true, refl, ap}
use Rattle.std.specs.Bool.{Decides}
use Rattle.std.proofs.lemmas.Bool.Decides.{Decides-int_eq, Decides-and, Decides-like}
use Rattle.ioa_actions.specs.declared.component.Component.{Component}
use Rattle.ioa_actions.specs.declared.component.Component.TheVariants.{Node, Channel, Script}
use Rattle.ioa_actions.specs.ComponentOrder.{same_component}

-- the test says that two names are those of one component exactly if they are equal
pub Decides-same_component : (k l : Component) → Decides (same_component k l) (k ≡ l)
Decides-same_component (Node i) (Node j) = Decides-like _ (λ e. ap Node e) (λ e. cc) (Decides-int_eq i j)
Decides-same_component (Node i) (Channel j l) = (λ h. absurd (cc), λ e. absurd (cc))
Decides-same_component (Node i) (Script j) = (λ h. absurd (cc), λ e. absurd (cc))
Decides-same_component (Channel i j) (Node l) = (λ h. absurd (cc), λ e. absurd (cc))
Decides-same_component (Channel i j) (Channel k l) =
    Decides-like _ (λ p. λ t. Channel (p.0 t) (p.1 t)) (λ e. (cc, cc)) (Decides-and _ _ (Decides-int_eq i k) (Decides-int_eq j l))
Decides-same_component (Channel i j) (Script l) = (λ h. absurd (cc), λ e. absurd (cc))
Decides-same_component (Script i) (Node j) = (λ h. absurd (cc), λ e. absurd (cc))
Decides-same_component (Script i) (Channel j l) = (λ h. absurd (cc), λ e. absurd (cc))
Decides-same_component (Script i) (Script j) = Decides-like _ (λ e. ap Script e) (λ e. cc) (Decides-int_eq i j)

-- a name is that of its own component
pub same_component-itself : (k : Component) → same_component k k ≡ true
same_component-itself k = (Decides-same_component k k).1 refl
