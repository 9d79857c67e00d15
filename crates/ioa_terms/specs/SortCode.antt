-- How the logic stores sorts (form): as trees of numbers, no two alike.
use Rattle.std.specs.Prelude.{◌≡◌, ℕ, List, refl}
use base.Stored.{Gv, gnil, gnum, gcons, Coded, coded_ℕ, coded_list}
use Rattle.ioa_terms.specs.PlainSort.{PlainSort, booleans, integers, naturals, sequences, sets, maps, named_type}

abbrev word : Coded (List ℕ)
word = coded_list coded_ℕ

-- a sort as a tree: which it is, and then what it holds
pub sort_stored : PlainSort → Gv
sort_stored booleans = gcons (gnum 0) gnil
sort_stored integers = gcons (gnum 1) gnil
sort_stored naturals = gcons (gnum 2) gnil
sort_stored (sequences s) = gcons (gnum 3) (sort_stored s)
sort_stored (sets s) = gcons (gnum 4) (sort_stored s)
sort_stored (maps k v) = gcons (gnum 5) (gcons (sort_stored k) (sort_stored v))
sort_stored (named_type w) = gcons (gnum 6) (word.code w)

-- sorts that are stored alike are the same
pub sort_apart : (a b : PlainSort) → sort_stored a ≡ sort_stored b → a ≡ b
unfolding sort_stored
sort_apart booleans booleans e = refl
sort_apart integers integers e = refl
sort_apart naturals naturals e = refl
sort_apart (sequences s) (sequences t) e =
    let p : sort_stored s ≡ sort_stored t = cc in
    λ i. sequences (sort_apart s t p i)
sort_apart (sets s) (sets t) e =
    let p : sort_stored s ≡ sort_stored t = cc in
    λ i. sets (sort_apart s t p i)
sort_apart (maps k v) (maps l w) e =
    let p : sort_stored k ≡ sort_stored l = cc in
    let q : sort_stored v ≡ sort_stored w = cc in
    λ i. maps (sort_apart k l p i) (sort_apart v w q i)
sort_apart (named_type w) (named_type v) e =
    let p : word.code w ≡ word.code v = cc in
    λ i. named_type (word.inj w v p i)
sort_apart a b e = absurd (cc)

-- the code by which a proof tells sorts apart
abbrev pub sort_code : Coded PlainSort
sort_code = record { code = sort_stored; inj = sort_apart }
