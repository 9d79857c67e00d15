-- What a row of nodes owns and lends, at items of the row R and an allocator of the row A (form).
use Rattle.core.specs.Prelude.{ℕ, ◌+◌, List, [], ◌∷◌, map}
use base.Fraction.{full_share}
use base.Fml.{Lft, Fml, ftrue, fsep, fwand}
use mir.Syntax.{Ty, ty_ptr, ty_struct, tcons, tnil}
use mir.Raw.{raw}
use prog.Memory.{size, align, up}
use denote.RattleType.{RattleType}
use denote.Memory.{lone}
use denote.Sharing.{nothing, beside}
use denote.RawPtr.{Ptr, RawPtr, lies_at, room_for, ◌+ₚ◌}
use denote.Struct.Lending.{lent_at}
use Rattle.std_collections.specs.Btree.Lent.{spread}
use Rattle.std_collections.specs.LinkedList.Ownership.{spread_lent}
use Rattle.ioa_rawlog.specs.Links.{Link, links_of}

-- where the item lies in a node, behind the pointer
abbrev pub item_offset : RattleType → ℕ
item_offset R = up (align (lone R.mir)) 8

-- where the items lie
abbrev pub item_places : RattleType → List Link → List Ptr
item_places R = map (λ l. l.0 +ₚ item_offset R)

module _ (R A : RattleType) where
  -- the type of `Node`, as the machine sees it
  abbrev pub node_type : Ty
  node_type = ty_struct [] (tcons ty_ptr (tcons (raw (lone R.mir)) (tcons (raw (lone A.mir)) tnil)))

  -- where the handle lies in a node, behind the item
  abbrev pub handle_offset : ℕ
  handle_offset = up (align (lone A.mir)) (item_offset R + size (lone R.mir))

  -- the room of the three fields
  abbrev pub fields_room : Ptr → Fml
  fields_room p = fsep (room_for ty_ptr (p +ₚ 0)) (fsep (room_for (raw (lone R.mir)) (p +ₚ item_offset R)) (room_for (raw (lone A.mir)) (p +ₚ handle_offset)))

  -- it makes the whole block
  abbrev pub fields_rejoin : Ptr → Fml
  fields_rejoin p = fwand (fields_room p) (room_for node_type p)

  module _ (holds : A.Denot → Ty → Ptr → Fml) where
    -- what frees the block at p: the handle h in its field, its right to the block, and the way back to the block
    abbrev pub frees : Ptr → A.Denot → Fml
    frees p h = fsep (lies_at A full_share (p +ₚ handle_offset) h) (fsep (holds h node_type p) (fields_rejoin p))

    -- a node but for its item
    abbrev pub frame : Link × A.Denot → Fml
    frame n = fsep (lies_at RawPtr full_share (n.0.0 +ₚ 0) n.0.1) (frees n.0.0 n.1)

    -- all of them
    abbrev pub frames_own : List (Link × A.Denot) → Fml
    frames_own [] = ftrue
    frames_own (n ∷ ns) = fsep (frame n) (frames_own ns)

    -- the items, and the rest of the nodes: so a loan of an item leaves the rest alone
    abbrev pub nodes_own : List (Link × A.Denot) → List R.Denot → Fml
    nodes_own ns xs = fsep (spread R (item_places R (links_of ns)) xs) (frames_own ns)

-- what a `&` holds of the pointers
abbrev pub links_lent : List Link → Lft → Fml
links_lent [] = nothing
links_lent (l ∷ ls) = beside (lent_at RawPtr (l.0 +ₚ 0) l.1) (links_lent ls)

-- what it holds of the items at their places, and of the pointers
abbrev pub nodes_lent : (R : RattleType) → List Link → List R.Denot → Lft → Fml
nodes_lent R ls xs = beside (spread_lent R (item_places R ls) xs) (links_lent ls)
