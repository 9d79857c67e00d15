-- Papers on which the items of a list are put, with commas between.
use Rattle.std.proofs.Common.{◌≡◌, ◌∙◌, ℕ, ◌+◌, ◌<◌, ◌++◌, List, length, take, map, get_or, refl, sym, ap}
use Rattle.std.specs.Prelude.{codes}
use Rattle.ioa_values.specs.Data.{Data, items_of, entries_of}
use Rattle.ioa_values.specs.Text.{with_commas, separator, text, texts, entry_text, entry_texts}
use Rattle.ioa_values.proofs.Commas.{with_commas-more, texts_map, entry_texts_map}
use Rattle.ioa_paper.specs.Papers.{PlainPaper, and_text}
use Rattle.ioa_paper.proofs.Papers.{joined}

-- a list, what separates it from the next item, and that item
pub written_more : (p mid next new : PlainPaper) (before more item all : List ℕ) → mid ≡ and_text p before
    → next ≡ and_text mid more → new ≡ and_text next item → all ≡ before ++ (more ++ item) → new ≡ and_text p all
written_more p mid next new before more item all a b c whole =
    c ∙ ap (λ (q : PlainPaper). and_text q item) b ∙ joined mid more item
    ∙ ap (λ (q : PlainPaper). and_text q (more ++ item)) a ∙ joined p before (more ++ item) ∙ ap (and_text p) (sym whole)

-- one more item of a list
pub listed_more : {X : Type 0} (f : X → List ℕ) (p mid next new : PlainPaper) (xs : List X) (i : ℕ) (x : X)
    → mid ≡ and_text p (with_commas (map f (take i xs))) → next ≡ and_text mid (separator i)
    → new ≡ and_text next (f x) → i < length xs → x ≡ get_or xs i x
    → new ≡ and_text p (with_commas (map f (take (i + 1) xs)))
listed_more f p mid next new xs i x a b c within here =
    written_more p mid next new (with_commas (map f (take i xs))) (separator i) (f x) (with_commas (map f (take (i + 1) xs))) a b c
    (with_commas-more f xs i x within ∙ rw (← here) refl)

-- one more value
pub values_more : (names : List (List ℕ)) (p mid next new : PlainPaper) (ds : List Data) (i : ℕ) (d : Data)
    → mid ≡ and_text p (with_commas (texts names (items_of (take i ds)))) → next ≡ and_text mid (separator i)
    → new ≡ and_text next (text names d) → i < length ds → d ≡ get_or ds i d
    → new ≡ and_text p (with_commas (texts names (items_of (take (i + 1) ds))))
values_more names p mid next new ds i d a b c within here =
    rw (texts_map names (take (i + 1) ds))
    (listed_more (text names) p mid next new ds i d (rw (← texts_map names (take i ds)) a) b c within here)

-- a key, an arrow and a value
entry_put : (names : List (List ℕ)) (next keyed arrow new : PlainPaper) (e : Data × Data)
    → keyed ≡ and_text next (text names e.0) → arrow ≡ and_text keyed (codes " -> ")
    → new ≡ and_text arrow (text names e.1) → new ≡ and_text next (entry_text names e)
entry_put names next keyed arrow new e a b c =
    c ∙ ap (λ (q : PlainPaper). and_text q (text names e.1)) (b ∙ ap (λ (q : PlainPaper). and_text q (codes " -> ")) a ∙ joined next (text names e.0) (codes " -> "))
    ∙ joined next (text names e.0 ++ codes " -> ") (text names e.1)

-- one more entry
pub entries_more : (names : List (List ℕ)) (p mid next keyed arrow new : PlainPaper) (es : List (Data × Data)) (i : ℕ)
    (e : Data × Data) → mid ≡ and_text p (with_commas (entry_texts names (entries_of (take i es))))
    → next ≡ and_text mid (separator i) → keyed ≡ and_text next (text names e.0)
    → arrow ≡ and_text keyed (codes " -> ") → new ≡ and_text arrow (text names e.1) → i < length es
    → e ≡ get_or es i e → new ≡ and_text p (with_commas (entry_texts names (entries_of (take (i + 1) es))))
entries_more names p mid next keyed arrow new es i e a b k w v within here =
    rw (entry_texts_map names (take (i + 1) es))
    (listed_more (entry_text names) p mid next new es i e (rw (← entry_texts_map names (take i es)) a) b
    (entry_put names next keyed arrow new e k w v) within here)
