-- What a commit does by slots (profile).
use Rattle.std.specs.Prelude.{◌≡◌, ◌<◌, ℕ, ◌+◌, ◌-◌, ◌^◌, min, if◌then◌else◌, List, [], ◌∷◌, Option, Some, None, length}
use Rattle.std.specs.Prelude.{set, slice_get}
use Rattle.ioa_actions.specs.declared.component.Component.{Component}
use Rattle.ioa_actions.specs.ComponentOrder.{same_component}
use Rattle.ioa_actions.specs.declared.action.Action.{Action}
use Rattle.ioa_compose.specs.Composition.{component_of}
use Rattle.ioa_compose.specs.Participants.{takes_part}
use Rattle.ioa_compose.specs.declared.configuration.Conf.{Conf}
use Rattle.ioa_index.specs.Indexes.{IsFirst}
use Rattle.ioa_commits.specs.Versions.{PlainVersionedConf, read_component, versioned_conf}

-- the version after this one, within the runtime's numbers
abbrev pub next_version : ℕ → ℕ
next_version v = min (v + 1) (2 ^ 64 - 1)

-- a configuration whose component takes part in an action has the next version after it
abbrev pub raise_one : Action → PlainVersionedConf → PlainVersionedConf
raise_one a h =
    if takes_part (read_component h) a then record { conf = h.conf; version = next_version h.version } else h

-- the same for the one in a slot, if there is one
abbrev pub raise_found : Action → ℕ → Option PlainVersionedConf → List PlainVersionedConf → List PlainVersionedConf
raise_found a slot None held = held
raise_found a slot (Some h) held = set held slot (raise_one a h)

-- and for those in several slots
abbrev pub raise_at : Action → List ℕ → List PlainVersionedConf → List PlainVersionedConf
raise_at a [] held = held
raise_at a (slot ∷ more) held = raise_at a more (raise_found a slot (slice_get held slot) held)

-- another configuration of a component, with the version that is there
abbrev pub put_held : Conf → List PlainVersionedConf → List PlainVersionedConf
put_held d [] = []
put_held d (h ∷ more) =
    if same_component (component_of d) (read_component h) then record { conf = d; version = h.version } ∷ more
    else h ∷ put_held d more

-- and of several components, one after another
abbrev pub put_all_held : List Conf → List PlainVersionedConf → List PlainVersionedConf
put_all_held [] held = held
put_all_held (d ∷ more) held = put_all_held more (put_held d held)

-- no component stands in two slots
abbrev pub AreDistinct : List Component → Type 0
AreDistinct ks = (slot : ℕ) → slot < length ks → IsFirst ks slot

-- a participant takes its step in the slot in which it is held: its new configuration, with the next version
abbrev pub advance_found : Conf → ℕ → Option PlainVersionedConf → List PlainVersionedConf → List PlainVersionedConf
advance_found d slot None held = held
advance_found d slot (Some h) held = set held slot (versioned_conf d (next_version h.version))

abbrev pub advance : Conf → ℕ → List PlainVersionedConf → List PlainVersionedConf
advance d slot held = advance_found d slot (slice_get held slot) held

-- a queue, if one takes part, and then a node
abbrev pub advance_both : Option Conf → ℕ → Conf → ℕ → List PlainVersionedConf → List PlainVersionedConf
advance_both None at d slot held = advance d slot held
advance_both (Some queue) at d slot held = advance d slot (advance queue at held)

-- what was read of a queue, if one takes part, and of a node is what is held in these slots
abbrev pub AreHeldIn : List PlainVersionedConf → ℕ → ℕ → Option PlainVersionedConf → PlainVersionedConf → Type 0
AreHeldIn held at slot None node = slice_get held slot ≡ Some node
AreHeldIn held at slot (Some queue) node = (slice_get held at ≡ Some queue) × (slice_get held slot ≡ Some node)
