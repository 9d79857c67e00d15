-- Papers on which the items of a list are put with their sorts, with commas between.
use Rattle.std.proofs.Common.{◌≡◌, ℕ, ◌+◌, ◌<◌, List, [], ◌∷◌, length, take, map, get_or, refl, ap}
use Rattle.std.specs.Prelude.{codes}
use Rattle.ioa_values.specs.Data.{Data, items_of, entries_of}
use Rattle.ioa_values.specs.Text.{with_commas, separator}
use Rattle.ioa_paper.specs.Papers.{PlainPaper, and_text}
use Rattle.ioa_paper.proofs.Listed.{listed_more}
use Rattle.ioa_show.specs.Tagged.{tagged, tagged_entries, tagged_entry, tagged_items}
use Rattle.ioa_show.proofs.Puts.{five}

-- the items of a list
pub tagged_items_map : (names : List (List ℕ)) (ds : List Data) → tagged_items names (items_of ds) ≡ map (tagged names) ds
tagged_items_map names [] = refl
tagged_items_map names (d ∷ ds) = ap (λ (ts : List (List ℕ)). tagged names d ∷ ts) (tagged_items_map names ds)

-- the entries of a list
pub tagged_entries_map : (names : List (List ℕ)) (es : List (Data × Data)) → tagged_entries names (entries_of es) ≡ map (tagged_entry names) es
tagged_entries_map names [] = refl
tagged_entries_map names (e ∷ es) = ap (λ (ts : List (List ℕ)). tagged_entry names e ∷ ts) (tagged_entries_map names es)

-- one more value
pub values_more : (names : List (List ℕ)) (p mid next new : PlainPaper) (ds : List Data) (i : ℕ) (d : Data)
    → mid ≡ and_text p (with_commas (tagged_items names (items_of (take i ds)))) → next ≡ and_text mid (separator i)
    → new ≡ and_text next (tagged names d) → i < length ds → d ≡ get_or ds i d
    → new ≡ and_text p (with_commas (tagged_items names (items_of (take (i + 1) ds))))
values_more names p mid next new ds i d a b c within here =
    rw (tagged_items_map names (take (i + 1) ds))
    (listed_more (tagged names) p mid next new ds i d (rw (← tagged_items_map names (take i ds)) a) b c within here)

-- a bracket, a key, a comma, a value and a bracket
entry_put : (names : List (List ℕ)) (next opened keyed apart valued new : PlainPaper) (e : Data × Data)
    → opened ≡ and_text next (codes "[") → keyed ≡ and_text opened (tagged names e.0)
    → apart ≡ and_text keyed (codes ", ") → valued ≡ and_text apart (tagged names e.1)
    → new ≡ and_text valued (codes "]") → new ≡ and_text next (tagged_entry names e)
entry_put names next opened keyed apart valued new e a b c d f =
    five next opened keyed apart valued new (codes "[") (tagged names e.0) (codes ", ") (tagged names e.1) (codes "]") a b c d f

-- one more entry
pub entries_more : (names : List (List ℕ)) (p mid next opened keyed apart valued new : PlainPaper) (es : List (Data × Data))
    (i : ℕ) (e : Data × Data) → mid ≡ and_text p (with_commas (tagged_entries names (entries_of (take i es))))
    → next ≡ and_text mid (separator i) → opened ≡ and_text next (codes "[")
    → keyed ≡ and_text opened (tagged names e.0) → apart ≡ and_text keyed (codes ", ")
    → valued ≡ and_text apart (tagged names e.1) → new ≡ and_text valued (codes "]") → i < length es
    → e ≡ get_or es i e → new ≡ and_text p (with_commas (tagged_entries names (entries_of (take (i + 1) es))))
entries_more names p mid next opened keyed apart valued new es i e a b o k c v z within here =
    rw (tagged_entries_map names (take (i + 1) es))
    (listed_more (tagged_entry names) p mid next new es i e (rw (← tagged_entries_map names (take i es)) a) b
    (entry_put names next opened keyed apart valued new e o k c v z) within here)
