-- Papers on which the items of a list are put by their shapes, with commas between.
use Rattle.std.proofs.Common.{◌≡◌, ℕ, ◌+◌, ◌<◌, List, [], ◌∷◌, length, take, map, get_or, refl, ap}
use Rattle.std.specs.Prelude.{codes}
use Rattle.ioa_values.specs.Data.{Data, items_of, entries_of}
use Rattle.ioa_values.specs.Text.{with_commas, separator}
use Rattle.ioa_operators.specs.Shapes.{PlainShape}
use Rattle.ioa_paper.specs.Papers.{PlainPaper, and_text}
use Rattle.ioa_paper.proofs.Listed.{listed_more}
use Rattle.ioa_show.specs.Json.{shaped_entries, shaped_entry, shaped_json, shaped_jsons}
use Rattle.ioa_show.proofs.Puts.{five}

-- the items of a list
shaped_map : (names : List (List ℕ)) (s : PlainShape) (ds : List Data) → shaped_jsons names s (items_of ds) ≡ map (shaped_json names s) ds
shaped_map names s [] = refl
shaped_map names s (d ∷ ds) = ap (λ (ts : List (List ℕ)). shaped_json names s d ∷ ts) (shaped_map names s ds)

-- the entries of a list
entries_map : (names : List (List ℕ)) (k v : PlainShape) (es : List (Data × Data)) → shaped_entries names k v (entries_of es) ≡ map (shaped_entry names k v) es
entries_map names k v [] = refl
entries_map names k v (e ∷ es) = ap (λ (ts : List (List ℕ)). shaped_entry names k v e ∷ ts) (entries_map names k v es)

-- one more value
pub values_more : (names : List (List ℕ)) (s : PlainShape) (p mid next new : PlainPaper) (ds : List Data) (i : ℕ) (d : Data)
    → mid ≡ and_text p (with_commas (shaped_jsons names s (items_of (take i ds)))) → next ≡ and_text mid (separator i)
    → new ≡ and_text next (shaped_json names s d) → i < length ds → d ≡ get_or ds i d
    → new ≡ and_text p (with_commas (shaped_jsons names s (items_of (take (i + 1) ds))))
values_more names s p mid next new ds i d a b c within here =
    rw (shaped_map names s (take (i + 1) ds))
    (listed_more (shaped_json names s) p mid next new ds i d (rw (← shaped_map names s (take i ds)) a) b c within here)

-- a bracket, a key, a comma, a value and a bracket
entry_put : (names : List (List ℕ)) (k v : PlainShape) (next opened keyed apart valued new : PlainPaper) (e : Data × Data)
    → opened ≡ and_text next (codes "[") → keyed ≡ and_text opened (shaped_json names k e.0)
    → apart ≡ and_text keyed (codes ", ") → valued ≡ and_text apart (shaped_json names v e.1)
    → new ≡ and_text valued (codes "]") → new ≡ and_text next (shaped_entry names k v e)
entry_put names k v next opened keyed apart valued new e a b c d f =
    five next opened keyed apart valued new (codes "[") (shaped_json names k e.0) (codes ", ") (shaped_json names v e.1) (codes "]") a b c d f

-- one more entry
pub entries_more : (names : List (List ℕ)) (k v : PlainShape) (p mid next opened keyed apart valued new : PlainPaper)
    (es : List (Data × Data)) (i : ℕ) (e : Data × Data)
    → mid ≡ and_text p (with_commas (shaped_entries names k v (entries_of (take i es))))
    → next ≡ and_text mid (separator i) → opened ≡ and_text next (codes "[")
    → keyed ≡ and_text opened (shaped_json names k e.0) → apart ≡ and_text keyed (codes ", ")
    → valued ≡ and_text apart (shaped_json names v e.1) → new ≡ and_text valued (codes "]") → i < length es
    → e ≡ get_or es i e → new ≡ and_text p (with_commas (shaped_entries names k v (entries_of (take (i + 1) es))))
entries_more names k v p mid next opened keyed apart valued new es i e a b o kp c vp z within here =
    rw (entries_map names k v (take (i + 1) es))
    (listed_more (shaped_entry names k v) p mid next new es i e (rw (← entries_map names k v (take i es)) a) b
    (entry_put names k v next opened keyed apart valued new e o kp c vp z) within here)
