-- A value is read as it is spelled, if it has the shape.
use Rattle.std.proofs.Common.{◌≡◌, ℕ, ◌+◌, ◌<◌, ℤ, pos, true, false, ◌&&◌, nat_le, nat_lt, nat_eq, List, [], ◌∷◌, ◌++◌, Option, Some, length, refl, ap, ◌∙◌, arith}
use Rattle.std.specs.Prelude.{int_lt}
use Rattle.std.proofs.lemmas.Bool.{and_parts}
use Rattle.std.proofs.lemmas.Bool.Decides.{nat_tests}
use Rattle.std.proofs.lemmas.List.{append_assoc}
use Rattle.ioa_tokens.specs.declared.token.Token.{Token}
use Rattle.ioa_tokens.specs.declared.token.Token.TheVariants as token
use Rattle.ioa_tokens.specs.declared.mark.Mark.TheVariants as mark
use Rattle.ioa_cursor.specs.Lists as lists
use Rattle.ioa_cursor.specs.Lists.{SeparatedBy}
use Rattle.ioa_cursor.specs.Reading.{bind, choose, skip, expect, at, word, several_more}
use Rattle.ioa_cursor.specs.Reading as cursor
use Rattle.ioa_cursor.proofs.Steps.{read_next, stays}
use Rattle.ioa_cursor.proofs.Follow.{skip_same, skip_other}
use Rattle.ioa_cursor.proofs.CompleteLists.{separated_complete}
use Rattle.ioa_values.specs.Collections.{IsAscending, keys_of}
use Rattle.ioa_values.specs.Data.{Data, number, truth, constant, tuple, sequence, finite_set, finite_map}
use Rattle.ioa_values.specs.Data.{Items, no_items, item, Entries, no_entries, entry, items_of, list_of, entries_of, pairs_of}
use Rattle.ioa_operators.specs.Shapes.{PlainShape, PlainShapes, tuples, sequences, sets, maps, no_shapes, shape}
use Rattle.ioa_operators.specs.Shapes.{has_shape, have_shapes, all_have, entries_have, wide_shape, wide_shapes_if}
use Rattle.ioa_value_reader.specs.Grammar.{SpellsValue, SpellsItems, SpellsEntries, constant_named, minus_amount, plus, minus, is_true, is_false, named, parts, empty_sequence, empty_set, empty_map, items, members, entries, single, followed, single_entry, followed_entry}
use Rattle.ioa_value_reader.specs.Reading.{read_number, read_truth, constant_among, read_constant, in_braces, read_entry, between, read_value, read_parts}
use Rattle.ioa_value_reader.proofs.Ascents.{ascending_passes}
use Rattle.ioa_value_reader.proofs.ShapesOf.{number_shapes, truth_shapes, constant_shapes, tuple_shapes, sequence_shapes, set_shapes, map_shapes}
use Rattle.ioa_value_reader.proofs.Shorter.{value_shorter}

-- lists, there and back

items_of_list : (ds : Items) → items_of (list_of ds) ≡ ds
items_of_list no_items = refl
items_of_list (item d ds) = ap (λ (xs : Items). item d xs) (items_of_list ds)

entries_of_pairs : (es : Entries) → entries_of (pairs_of es) ≡ es
entries_of_pairs no_entries = refl
entries_of_pairs (entry k v es) = ap (λ (fs : Entries). entry k v fs) (entries_of_pairs es)

-- an item that is read
record IsRead {A : Type 0} (read : List Token → Option (A × List Token)) (a : A) (xs ys : List Token) : Type 0 where
  reads : read xs ≡ read_next a ys
  shorter : length ys < length xs

-- what follows an item never matters
abbrev Anything : List Token → Type 0
Anything ys = Unit {0}

-- numbers, truth values and constants

not_negative : (n : ℕ) → int_lt (pos n) (pos 0) ≡ false
not_negative n = grind (arith, nat_tests)

number_read : (n : ℕ) (ys : List Token) → read_number (token.Number (pos n) ∷ ys) ≡ read_next (number (pos n)) ys
unfolding read_number skip choose bind cursor.number
number_read n ys = rw (not_negative n) refl

minus_read : (n : ℤ) (ys : List Token) → read_number (token.Mark mark.Minus ∷ token.Number n ∷ ys) ≡ read_next (number (minus_amount n)) ys
unfolding read_number skip choose bind cursor.number
minus_read n ys = refl

true_read : (ys : List Token) → read_truth (token.Mark mark.True ∷ ys) ≡ read_next (truth true) ys
unfolding read_truth skip choose
true_read ys = refl

false_read : (ys : List Token) → read_truth (token.Mark mark.False ∷ ys) ≡ read_next (truth false) ys
unfolding read_truth skip expect choose bind
false_read ys = refl

constant_read : (names : List (List ℕ)) (from many k : ℕ) (w : List ℕ) (ys : List Token) → constant_named names w ≡ Some k → (nat_le from k && nat_lt k (from + many)) ≡ true →
    read_constant names from many (token.Word w ∷ ys) ≡ read_next (constant k) ys
unfolding read_constant constant_among word choose bind
constant_read names from many k w ys e h = rw e (rw h refl)

-- lists in braces

empty_read : {A : Type 0} (read : List Token → Option (A × List Token)) (ys : List Token) → in_braces read (token.Mark mark.OpenBrace ∷ token.Mark mark.CloseBrace ∷ ys) ≡ read_next [] ys
unfolding in_braces expect skip choose bind
empty_read read ys = refl

filled_read : {A : Type 0} (read : List Token → Option (A × List Token)) (all : List A) (xs ys : List Token) → skip mark.CloseBrace xs ≡ stays false xs →
    several_more (skip mark.Comma) read [] xs ≡ read_next all (token.Mark mark.CloseBrace ∷ ys) → in_braces read (token.Mark mark.OpenBrace ∷ xs) ≡ read_next all ys
unfolding in_braces expect choose bind
filled_read read all xs ys s e = rw (skip_same mark.OpenBrace xs) (rw s (rw e (rw (skip_same mark.CloseBrace ys) refl)))

not_closed : (ys : List Token) → at mark.Comma (token.Mark mark.CloseBrace ∷ ys) ≡ false
unfolding at
not_closed ys = refl

separated_read : {A : Type 0} (read : List Token → Option (A × List Token)) (all : List A) (xs ys : List Token) → SeparatedBy mark.Comma (IsRead read) all xs (token.Mark mark.CloseBrace ∷ ys) →
    several_more (skip mark.Comma) read [] xs ≡ read_next all (token.Mark mark.CloseBrace ∷ ys)
separated_read read all xs ys d =
    separated_complete Anything (IsRead read) read (λ a us vs r _. r.reads) (λ a us vs r. r.shorter) mark.Comma (λ zs. tt) all xs (token.Mark mark.CloseBrace ∷ ys) d tt (not_closed ys)

-- what begins a value closes no list
value_opens : {names : List (List ℕ)} {d : Data} {xs ys : List Token} → SpellsValue names d xs ys → at mark.CloseBrace xs ≡ false
unfolding at
value_opens plus = refl
value_opens minus = refl
value_opens is_true = refl
value_opens is_false = refl
value_opens (named k) = refl
value_opens (parts d) = refl
value_opens empty_sequence = refl
value_opens empty_set = refl
value_opens empty_map = refl
value_opens (items d) = refl
value_opens (members a d) = refl
value_opens (entries a d) = refl

items_open : {names : List (List ℕ)} {ds : Items} {xs ys : List Token} → SpellsItems names ds xs ys → at mark.CloseBrace xs ≡ false
items_open (single d) = value_opens d
items_open (followed d rest) = value_opens d

entries_open : {names : List (List ℕ)} {es : Entries} {xs ys : List Token} → SpellsEntries names es xs ys → at mark.CloseBrace xs ≡ false
entries_open (single_entry k v) = value_opens k
entries_open (followed_entry k v rest) = value_opens k

braced_read : {A : Type 0} (read : List Token → Option (A × List Token)) (all : List A) (xs ys : List Token) → at mark.CloseBrace xs ≡ false →
    SeparatedBy mark.Comma (IsRead read) all xs (token.Mark mark.CloseBrace ∷ ys) → in_braces read (token.Mark mark.OpenBrace ∷ xs) ≡ read_next all ys
braced_read read all xs ys o d = filled_read read all xs ys (skip_other mark.CloseBrace xs o) (separated_read read all xs ys d)

-- an entry

entry_read : (read_key read_item : List Token → Option (Data × List Token)) (k v : Data) (xs ys zs : List Token) →
    read_key xs ≡ read_next k (token.Mark mark.Arrow ∷ ys) → read_item ys ≡ read_next v zs → read_entry read_key read_item xs ≡ read_next (k, v) zs
unfolding read_entry expect skip bind
entry_read read_key read_item k v xs ys zs e f = rw e (rw f refl)

-- what becomes of a list

sequence_read : (names : List (List ℕ)) (s : PlainShape) (ds : Items) (xs ys : List Token) → in_braces (read_value names s) xs ≡ read_next (list_of ds) ys → read_value names (sequences s) xs ≡ read_next (sequence ds) ys
unfolding read_value bind
sequence_read names s ds xs ys e = rw e (ap (λ (es : Items). read_next (sequence es) ys) (items_of_list ds))

set_read : (names : List (List ℕ)) (s : PlainShape) (ds : Items) (xs ys : List Token) → IsAscending (list_of ds) → in_braces (read_value names s) xs ≡ read_next (list_of ds) ys →
    read_value names (sets s) xs ≡ read_next (finite_set ds) ys
unfolding read_value bind choose
set_read names s ds xs ys a e = rw e (rw (ascending_passes (list_of ds) a) (ap (λ (es : Items). read_next (finite_set es) ys) (items_of_list ds)))

map_read : (names : List (List ℕ)) (s t : PlainShape) (es : Entries) (xs ys : List Token) → IsAscending (keys_of (pairs_of es)) →
    in_braces (read_entry (read_value names s) (read_value names t)) xs ≡ read_next (pairs_of es) ys → read_value names (maps s t) xs ≡ read_next (finite_map es) ys
unfolding read_value bind choose
map_read names s t es xs ys a e = rw e (rw (ascending_passes (keys_of (pairs_of es)) a) (ap (λ (fs : Entries). read_next (finite_map fs) ys) (entries_of_pairs es)))

some_parts : {names : List (List ℕ)} {ds : Items} {xs ys : List Token} → SpellsItems names ds xs ys → nat_eq (length (list_of ds)) 0 ≡ false
some_parts (single d) = grind (arith, nat_tests)
some_parts (followed d rest) = grind (arith, nat_tests)

tuple_read : (names : List (List ℕ)) (type : List ℕ) (fields : List (List ℕ)) (ss : PlainShapes) (ds : Items) (xs ys : List Token) → nat_eq (length (list_of ds)) 0 ≡ false →
    read_parts names ss [] xs ≡ read_next (list_of ds) (token.Mark mark.CloseSquare ∷ ys) → read_value names (tuples type fields ss) (token.Mark mark.OpenSquare ∷ xs) ≡ read_next (tuple ds) ys
unfolding read_value expect skip bind choose
tuple_read names type fields ss ds xs ys some e = rw e (rw some (ap (λ (es : Items). read_next (tuple es) ys) (items_of_list ds)))

-- the parts of a tuple

last_part : (names : List (List ℕ)) (s : PlainShape) (done : List Data) (d : Data) (xs ys zs : List Token) → between done xs ≡ read_next tt ys → read_value names s ys ≡ read_next d zs →
    read_parts names (shape s no_shapes) done xs ≡ read_next (done ++ d ∷ []) zs
unfolding read_parts bind
last_part names s done d xs ys zs b e = rw b (rw e refl)

comma_behind : (done : List Data) (d : Data) (ys : List Token) → between (done ++ d ∷ []) (token.Mark mark.Comma ∷ ys) ≡ read_next tt ys
unfolding between expect skip
comma_behind [] d ys = refl
comma_behind (e ∷ done) d ys = refl

further_part : (names : List (List ℕ)) (s : PlainShape) (ss : PlainShapes) (done more : List Data) (d : Data) (xs ys zs us : List Token) → between done xs ≡ read_next tt ys → read_value names s ys ≡ read_next d zs →
    read_parts names ss (done ++ d ∷ []) zs ≡ read_next ((done ++ d ∷ []) ++ more) us → read_parts names (shape s ss) done xs ≡ read_next (done ++ (d ∷ more)) us
unfolding read_parts bind
further_part names s ss done more d xs ys zs us b e f = rw b (rw e (f ∙ ap (λ all. read_next all us) (append_assoc done (d ∷ []) more)))

at_first : (xs : List Token) → between [] xs ≡ read_next tt xs
unfolding between
at_first xs = refl

module _ (names : List (List ℕ)) where
  -- an item or an entry with its shapes
  abbrev ReadItem : PlainShape → Data → List Token → List Token → Type 0
  ReadItem s = IsRead (read_value names s)

  abbrev ReadEntry : PlainShape → PlainShape → Data × Data → List Token → List Token → Type 0
  ReadEntry s t = IsRead (read_entry (read_value names s) (read_value names t))

  number_value : (n : ℕ) (ys : List Token) (s : PlainShape) → has_shape (wide_shape s) (number (pos n)) ≡ true → read_value names s (token.Number (pos n) ∷ ys) ≡ read_next (number (pos n)) ys
  unfolding read_value
  number_value n ys s h = number_shapes (λ s. read_value names s (token.Number (pos n) ∷ ys) ≡ read_next (number (pos n)) ys) (pos n) (number_read n ys) (number_read n ys) s h

  minus_value : (n : ℤ) (ys : List Token) (s : PlainShape) → has_shape (wide_shape s) (number (minus_amount n)) ≡ true →
      read_value names s (token.Mark mark.Minus ∷ token.Number n ∷ ys) ≡ read_next (number (minus_amount n)) ys
  unfolding read_value
  minus_value n ys s h =
      number_shapes (λ s. read_value names s (token.Mark mark.Minus ∷ token.Number n ∷ ys) ≡ read_next (number (minus_amount n)) ys) (minus_amount n) (minus_read n ys) (minus_read n ys) s h

  true_value : (ys : List Token) (s : PlainShape) → has_shape (wide_shape s) (truth true) ≡ true → read_value names s (token.Mark mark.True ∷ ys) ≡ read_next (truth true) ys
  unfolding read_value
  true_value ys s h = truth_shapes (λ s. read_value names s (token.Mark mark.True ∷ ys) ≡ read_next (truth true) ys) true (true_read ys) s h

  false_value : (ys : List Token) (s : PlainShape) → has_shape (wide_shape s) (truth false) ≡ true → read_value names s (token.Mark mark.False ∷ ys) ≡ read_next (truth false) ys
  unfolding read_value
  false_value ys s h = truth_shapes (λ s. read_value names s (token.Mark mark.False ∷ ys) ≡ read_next (truth false) ys) false (false_read ys) s h

  constant_value : (k : ℕ) (w : List ℕ) (ys : List Token) → constant_named names w ≡ Some k → (s : PlainShape) → has_shape (wide_shape s) (constant k) ≡ true →
      read_value names s (token.Word w ∷ ys) ≡ read_next (constant k) ys
  unfolding read_value
  constant_value k w ys e s h =
      constant_shapes (λ s. read_value names s (token.Word w ∷ ys) ≡ read_next (constant k) ys) k (λ type from many lies. constant_read names from many k w ys e lies) s h

  mutual
    pub value_complete : {d : Data} {xs ys : List Token} → SpellsValue names d xs ys → (s : PlainShape) → has_shape (wide_shape s) d ≡ true → read_value names s xs ≡ read_next d ys
    value_complete (plus {n = n} {ys = ys}) s h = number_value n ys s h
    value_complete (minus {n = n} {ys = ys}) s h = minus_value n ys s h
    value_complete (is_true {ys = ys}) s h = true_value ys s h
    value_complete (is_false {ys = ys}) s h = false_value ys s h
    value_complete (named {k = k} {w = w} {ys = ys} e) s h = constant_value k w ys e s h
    value_complete (parts {ds = ds} {xs = xs} {ys = ys} d) s h =
        tuple_shapes (λ s. read_value names s (token.Mark mark.OpenSquare ∷ xs) ≡ read_next (tuple ds) ys) ds
        (λ type fields ss have. tuple_read names type fields ss ds xs ys (some_parts d) (parts_complete d ss have [] xs (at_first xs)))
        s h
    value_complete (empty_sequence {ys = ys}) s h =
        sequence_shapes (λ s. read_value names s (token.Mark mark.OpenBrace ∷ token.Mark mark.CloseBrace ∷ ys) ≡ read_next (sequence no_items) ys) no_items
        (λ t have. sequence_read names t no_items _ ys (empty_read (read_value names t) ys)) s h
    value_complete (empty_set {ys = ys}) s h =
        set_shapes (λ s. read_value names s (token.Mark mark.OpenBrace ∷ token.Mark mark.CloseBrace ∷ ys) ≡ read_next (finite_set no_items) ys) no_items
        (λ t have. set_read names t no_items _ ys tt (empty_read (read_value names t) ys)) s h
    value_complete (empty_map {ys = ys}) s h =
        map_shapes (λ s. read_value names s (token.Mark mark.OpenBrace ∷ token.Mark mark.CloseBrace ∷ ys) ≡ read_next (finite_map no_entries) ys) no_entries
        (λ t u have. map_read names t u no_entries _ ys tt (empty_read (read_entry (read_value names t) (read_value names u)) ys)) s h
    value_complete (items {ds = ds} {xs = xs} {ys = ys} d) s h =
        sequence_shapes (λ s. read_value names s (token.Mark mark.OpenBrace ∷ xs) ≡ read_next (sequence ds) ys) ds
        (λ t have. sequence_read names t ds _ ys (braced_read (read_value names t) (list_of ds) xs ys (items_open d) (items_complete d t have))) s h
    value_complete (members {ds = ds} {xs = xs} {ys = ys} a d) s h =
        set_shapes (λ s. read_value names s (token.Mark mark.OpenBrace ∷ xs) ≡ read_next (finite_set ds) ys) ds
        (λ t have. set_read names t ds _ ys a (braced_read (read_value names t) (list_of ds) xs ys (items_open d) (items_complete d t have))) s h
    value_complete (entries {es = es} {xs = xs} {ys = ys} a d) s h =
        map_shapes (λ s. read_value names s (token.Mark mark.OpenBrace ∷ xs) ≡ read_next (finite_map es) ys) es
        (λ t u have. map_read names t u es _ ys a (braced_read (read_entry (read_value names t) (read_value names u)) (pairs_of es) xs ys (entries_open d) (entries_complete d t u have))) s h

    items_complete : {ds : Items} {xs ys : List Token} → SpellsItems names ds xs ys → (s : PlainShape) → all_have (wide_shape s) ds ≡ true → SeparatedBy mark.Comma (ReadItem s) (list_of ds) xs ys
    items_complete (single {d = e} d) s h =
        let p = and_parts (has_shape (wide_shape s) e) true h in
        lists.single (record { reads = value_complete d s p.0; shorter = value_shorter d })
    items_complete (followed {d = e} {ds = ds} d rest) s h =
        let p = and_parts (has_shape (wide_shape s) e) (all_have (wide_shape s) ds) h in
        lists.followed (record { reads = value_complete d s p.0; shorter = value_shorter d }) (items_complete rest s p.1)

    parts_complete : {ds : Items} {xs ys : List Token} → SpellsItems names ds xs ys → (ss : PlainShapes) → have_shapes (wide_shapes_if true ss) ds ≡ true →
        (done : List Data) (zs : List Token) → between done zs ≡ read_next tt xs → read_parts names ss done zs ≡ read_next (done ++ list_of ds) ys
    parts_complete (single d) no_shapes h done zs b = absurd cc
    parts_complete (single {d = e} {xs = xs} {ys = ys} d) (shape s no_shapes) h done zs b =
        let p = and_parts (has_shape (wide_shape s) e) true h in
        last_part names s done e zs xs ys b (value_complete d s p.0)
    parts_complete (single {d = e} d) (shape s (shape t ss)) h done zs b =
        let p = and_parts (has_shape (wide_shape s) e) false h in
        absurd cc
    parts_complete (followed d rest) no_shapes h done zs b = absurd cc
    parts_complete (followed {d = e} {ds = ds} {xs = xs} {ys = ys} {zs = us} d rest) (shape s ss) h done zs b =
        let p = and_parts (has_shape (wide_shape s) e) (have_shapes (wide_shapes_if true ss) ds) h in
        further_part names s ss done (list_of ds) e zs xs (token.Mark mark.Comma ∷ ys) us b (value_complete d s p.0)
        (parts_complete rest ss p.1 (done ++ e ∷ []) (token.Mark mark.Comma ∷ ys) (comma_behind done e ys))

    entries_complete : {es : Entries} {xs ys : List Token} → SpellsEntries names es xs ys → (s t : PlainShape) → entries_have (wide_shape s) (wide_shape t) es ≡ true →
        SeparatedBy mark.Comma (ReadEntry s t) (pairs_of es) xs ys
    entries_complete (single_entry {k = a} {v = b} {xs = xs} {ys = ys} {zs = zs} k v) s t h =
        let p = and_parts (has_shape (wide_shape s) a) (has_shape (wide_shape t) b && true) h in
        let q = and_parts (has_shape (wide_shape t) b) true p.1 in
        let f = value_shorter k in
        let g = value_shorter v in
        lists.single (record { reads = entry_read (read_value names s) (read_value names t) a b xs ys zs (value_complete k s p.0) (value_complete v t q.0); shorter = omega arith })
    entries_complete (followed_entry {k = a} {v = b} {es = es} {xs = xs} {ys = ys} {zs = zs} k v rest) s t h =
        let p = and_parts (has_shape (wide_shape s) a) (has_shape (wide_shape t) b && entries_have (wide_shape s) (wide_shape t) es) h in
        let q = and_parts (has_shape (wide_shape t) b) (entries_have (wide_shape s) (wide_shape t) es) p.1 in
        let f = value_shorter k in
        let g = value_shorter v in
        lists.followed (record { reads = entry_read (read_value names s) (read_value names t) a b xs ys (token.Mark mark.Comma ∷ zs) (value_complete k s p.0) (value_complete v t q.0); shorter = omega arith })
        (entries_complete rest s t q.1)
