-- How the logic stores a value (form): as a tree of numbers that gives it back.
use Rattle.std.specs.Prelude.{◌≡◌, ℕ, ℤ, pos, negsuc, Bool, true, false, refl}
use Rattle.std.proofs.Common.{zero, suc, sym, ap, ◌∙◌}
use base.Stored.{Gv, gnil, gnum, gcons, Coded}
use Rattle.ioa_values.specs.Data.{Data, number, truth, constant, tuple, sequence, finite_set, finite_map}
use Rattle.ioa_values.specs.Data.{Items, no_items, item, Entries, no_entries, entry}

encode_number : ℤ → Gv
encode_number (pos n) = gcons (gnum 0) (gnum n)
encode_number (negsuc n) = gcons (gnum 1) (gnum n)

encode_truth : Bool → Gv
encode_truth false = gnum 0
encode_truth true = gnum 1

-- a value as a tree: its kind, and then what it holds
mutual
  pub encode : Data → Gv
  encode (number z) = gcons (gnum 0) (encode_number z)
  encode (truth b) = gcons (gnum 1) (encode_truth b)
  encode (constant k) = gcons (gnum 2) (gnum k)
  encode (tuple ds) = gcons (gnum 3) (encode_items ds)
  encode (sequence ds) = gcons (gnum 4) (encode_items ds)
  encode (finite_set ds) = gcons (gnum 5) (encode_items ds)
  encode (finite_map es) = gcons (gnum 6) (encode_entries es)

  encode_items : Items → Gv
  encode_items no_items = gnil
  encode_items (item d more) = gcons (encode d) (encode_items more)

  encode_entries : Entries → Gv
  encode_entries no_entries = gnil
  encode_entries (entry k v more) = gcons (gcons (encode k) (encode v)) (encode_entries more)

decode_number : Gv → ℤ
decode_number (gcons (gnum zero) (gnum n)) = pos n
decode_number (gcons (gnum (suc k)) (gnum n)) = negsuc n
decode_number t = pos 0

decode_truth : Gv → Bool
decode_truth (gnum (suc k)) = true
decode_truth t = false

decode_constant : Gv → ℕ
decode_constant (gnum k) = k
decode_constant t = 0

-- the value of a kind
decode_kind : ℕ → Gv → Items → Entries → Data
decode_kind zero t ds es = number (decode_number t)
decode_kind (suc zero) t ds es = truth (decode_truth t)
decode_kind (suc (suc zero)) t ds es = constant (decode_constant t)
decode_kind (suc (suc (suc zero))) t ds es = tuple ds
decode_kind (suc (suc (suc (suc zero)))) t ds es = sequence ds
decode_kind (suc (suc (suc (suc (suc zero))))) t ds es = finite_set ds
decode_kind (suc (suc (suc (suc (suc (suc k)))))) t ds es = finite_map es

-- the value that a tree was made of
mutual
  decode : Gv → Data
  decode gnil = truth false
  decode (gnum n) = truth false
  decode (gcons gnil t) = truth false
  decode (gcons (gnum k) t) = decode_kind k t (decode_items t) (decode_entries t)
  decode (gcons (gcons a b) t) = truth false

  decode_items : Gv → Items
  decode_items gnil = no_items
  decode_items (gnum n) = no_items
  decode_items (gcons a t) = item (decode a) (decode_items t)

  decode_entries : Gv → Entries
  decode_entries gnil = no_entries
  decode_entries (gnum n) = no_entries
  decode_entries (gcons gnil t) = no_entries
  decode_entries (gcons (gnum n) t) = no_entries
  decode_entries (gcons (gcons a b) t) = entry (decode a) (decode b) (decode_entries t)

number_same : (z : ℤ) → decode_number (encode_number z) ≡ z
unfolding decode_number encode_number
number_same (pos n) = refl
number_same (negsuc n) = refl

truth_same : (b : Bool) → decode_truth (encode_truth b) ≡ b
unfolding decode_truth encode_truth
truth_same false = refl
truth_same true = refl

mutual
  unfolding decode decode_items decode_entries decode_kind encode encode_items encode_entries decode_constant

  decode-encode : (d : Data) → decode (encode d) ≡ d
  decode-encode (number z) = ap number (number_same z)
  decode-encode (truth b) = ap truth (truth_same b)
  decode-encode (constant k) = refl
  decode-encode (tuple ds) = ap tuple (items_same ds)
  decode-encode (sequence ds) = ap sequence (items_same ds)
  decode-encode (finite_set ds) = ap finite_set (items_same ds)
  decode-encode (finite_map es) = ap finite_map (entries_same es)

  items_same : (ds : Items) → decode_items (encode_items ds) ≡ ds
  items_same no_items = refl
  items_same (item d more) = λ i. item (decode-encode d i) (items_same more i)

  entries_same : (es : Entries) → decode_entries (encode_entries es) ≡ es
  entries_same no_entries = refl
  entries_same (entry k v more) = λ i. entry (decode-encode k i) (decode-encode v i) (entries_same more i)

-- two values that are stored alike are the same
pub encode_injective : (a b : Data) → encode a ≡ encode b → a ≡ b
encode_injective a b e = sym (decode-encode a) ∙ ap decode e ∙ decode-encode b

-- the code by which a proof tells values apart
abbrev pub data_code : Coded Data
data_code = record { code = encode; inj = encode_injective }
