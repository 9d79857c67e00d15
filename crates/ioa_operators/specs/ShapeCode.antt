-- How the logic stores a shape (form): as a tree of numbers, no two alike.
use Rattle.std.specs.Prelude.{◌≡◌, ℕ, List, refl}
use base.Stored.{Gv, gnil, gnum, gcons, Coded, coded_ℕ, coded_list}
use Rattle.ioa_operators.specs.Shapes.{PlainShape, truths, integers, naturals, constants, tuples, sequences}
use Rattle.ioa_operators.specs.Shapes.{sets, maps, PlainShapes, no_shapes, shape}

abbrev word : Coded (List ℕ)
word = coded_list coded_ℕ

abbrev words : Coded (List (List ℕ))
words = coded_list word

-- a shape as a tree: which it is, and then what it holds
mutual
  pub shape_stored : PlainShape → Gv
  shape_stored truths = gcons (gnum 0) gnil
  shape_stored integers = gcons (gnum 1) gnil
  shape_stored naturals = gcons (gnum 2) gnil
  shape_stored (constants w from many) = gcons (gnum 3) (gcons (word.code w) (gcons (gnum from) (gnum many)))
  shape_stored (tuples w names ss) =
      gcons (gnum 4) (gcons (word.code w) (gcons (words.code names) (shapes_stored ss)))
  shape_stored (sequences s) = gcons (gnum 5) (shape_stored s)
  shape_stored (sets s) = gcons (gnum 6) (shape_stored s)
  shape_stored (maps k v) = gcons (gnum 7) (gcons (shape_stored k) (shape_stored v))

  pub shapes_stored : PlainShapes → Gv
  shapes_stored no_shapes = gnil
  shapes_stored (shape s more) = gcons (shape_stored s) (shapes_stored more)

-- shapes that are stored alike are the same
mutual
  unfolding shape_stored shapes_stored

  pub shape_apart : (a b : PlainShape) → shape_stored a ≡ shape_stored b → a ≡ b
  shape_apart truths truths e = refl
  shape_apart integers integers e = refl
  shape_apart naturals naturals e = refl
  shape_apart (constants w k m) (constants v l n) e =
      let p : word.code w ≡ word.code v = cc in
      let q : k ≡ l = cc in
      let r : m ≡ n = cc in
      λ i. constants (word.inj w v p i) (q i) (r i)
  shape_apart (tuples w ns ss) (tuples v ms ts) e =
      let p : word.code w ≡ word.code v = cc in
      let q : words.code ns ≡ words.code ms = cc in
      let r : shapes_stored ss ≡ shapes_stored ts = cc in
      λ i. tuples (word.inj w v p i) (words.inj ns ms q i) (shapes_apart ss ts r i)
  shape_apart (sequences s) (sequences t) e =
      let p : shape_stored s ≡ shape_stored t = cc in
      λ i. sequences (shape_apart s t p i)
  shape_apart (sets s) (sets t) e =
      let p : shape_stored s ≡ shape_stored t = cc in
      λ i. sets (shape_apart s t p i)
  shape_apart (maps k v) (maps l w) e =
      let p : shape_stored k ≡ shape_stored l = cc in
      let q : shape_stored v ≡ shape_stored w = cc in
      λ i. maps (shape_apart k l p i) (shape_apart v w q i)
  shape_apart a b e = absurd (cc)

  shapes_apart : (ss ts : PlainShapes) → shapes_stored ss ≡ shapes_stored ts → ss ≡ ts
  shapes_apart no_shapes no_shapes e = refl
  shapes_apart (shape s ss) (shape t ts) e =
      let p : shape_stored s ≡ shape_stored t = cc in
      let q : shapes_stored ss ≡ shapes_stored ts = cc in
      λ i. shape (shape_apart s t p i) (shapes_apart ss ts q i)
  shapes_apart ss ts e = absurd (cc)

-- the code by which a proof tells shapes apart
abbrev pub shape_code : Coded PlainShape
shape_code = record { code = shape_stored; inj = shape_apart }
