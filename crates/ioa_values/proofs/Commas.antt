-- Texts with commas between, one piece after another.
use Rattle.std.proofs.Common.{◌≡◌, ◌∙◌, ℕ, ◌+◌, ◌<◌, List, [], ◌∷◌, ◌++◌, length, map, take, get_or, refl, sym, ap, arith, append_assoc}
use Rattle.std.specs.Prelude.{codes}
use Rattle.std.proofs.lemmas.List.{take_more, map-append, length-map, length-take-le}
use Rattle.ioa_values.specs.Data.{Data, items_of, entries_of}
use Rattle.ioa_values.specs.Text.{with_commas, separator, text, texts, entry_text, entry_texts}

-- one more piece behind the others
pub with_commas-push : (ts : List (List ℕ)) (t : List ℕ) → with_commas (ts ++ t ∷ []) ≡ with_commas ts ++ (separator (length ts) ++ t)
with_commas-push [] t = refl
with_commas-push (a ∷ []) t = append_assoc a (codes ", ") t
with_commas-push (a ∷ (b ∷ more)) t =
    ap (λ (x : List ℕ). a ++ codes ", " ++ x) (with_commas-push (b ∷ more) t)
    ∙ sym (append_assoc (a ++ codes ", ") (with_commas (b ∷ more)) (codes ", " ++ t))

-- the same of the pieces that come from a list
pub with_commas-more : {X : Type 0} (f : X → List ℕ) (xs : List X) (i : ℕ) (d : X) → i < length xs → with_commas (map f (take (i + 1) xs)) ≡ with_commas (map f (take i xs)) ++ (separator i ++ f (get_or xs i d))
with_commas-more f xs i d h =
    let many : length (map f (take i xs)) ≡ i = length-map (take i xs) f ∙ length-take-le i xs (omega arith) in
    rw (take_more xs i d h, map-append f (take i xs) (get_or xs i d ∷ []), with_commas-push (map f (take i xs)) (f (get_or xs i d)), many) refl

-- the texts of the items of a list
pub texts_map : (names : List (List ℕ)) (ds : List Data) → texts names (items_of ds) ≡ map (text names) ds
texts_map names [] = refl
texts_map names (d ∷ ds) = ap (λ (ts : List (List ℕ)). text names d ∷ ts) (texts_map names ds)

-- the texts of the entries of a list
pub entry_texts_map : (names : List (List ℕ)) (es : List (Data × Data)) → entry_texts names (entries_of es) ≡ map (entry_text names) es
entry_texts_map names [] = refl
entry_texts_map names (e ∷ es) = ap (λ (ts : List (List ℕ)). entry_text names e ∷ ts) (entry_texts_map names es)

-- what is written behind a list is the list and one more piece
written_more : (first before more item all : List ℕ) {written : List ℕ} {separated : List ℕ} {out : List ℕ} → written ≡ first ++ before → separated ≡ written ++ more → out ≡ separated ++ item → all ≡ before ++ (more ++ item) → out ≡ first ++ all
written_more first before more item all a b c d =
    c ∙ ap (λ (x : List ℕ). x ++ item) (b ∙ ap (λ (x : List ℕ). x ++ more) a) ∙ rw (append_assoc, append_assoc first before, d) refl

-- one more value is written
pub values_more : (names : List (List ℕ)) (first : List ℕ) (ds : List Data) (i : ℕ) (d : Data) {written : List ℕ} {separated : List ℕ} {out : List ℕ} → written ≡ first ++ with_commas (texts names (items_of (take i ds))) → separated ≡ written ++ separator i → out ≡ separated ++ text names d → i < length ds → d ≡ get_or ds i d → out ≡ first ++ with_commas (texts names (items_of (take (i + 1) ds)))
values_more names first ds i d a b c within at =
    written_more first (with_commas (texts names (items_of (take i ds)))) (separator i) (text names d) (with_commas (texts names (items_of (take (i + 1) ds)))) a b c
    (rw (texts_map names (take (i + 1) ds), texts_map names (take i ds)) (with_commas-more (text names) ds i d within ∙ rw (← at) refl))

-- a key, an arrow and a value behind a text
joined : (before key arrow value : List ℕ) → ((before ++ key) ++ arrow) ++ value ≡ before ++ ((key ++ arrow) ++ value)
joined before key arrow value = ap (λ (x : List ℕ). x ++ value) (append_assoc before key arrow) ∙ append_assoc before (key ++ arrow) value

-- one more entry is written
pub entries_more : (names : List (List ℕ)) (first : List ℕ) (es : List (Data × Data)) (i : ℕ) (e : Data × Data) {written : List ℕ} {separated : List ℕ} {keyed : List ℕ} {out : List ℕ} → written ≡ first ++ with_commas (entry_texts names (entries_of (take i es))) → separated ≡ written ++ separator i → keyed ≡ separated ++ text names e.0 → out ≡ (keyed ++ codes " -> ") ++ text names e.1 → i < length es → e ≡ get_or es i e → out ≡ first ++ with_commas (entry_texts names (entries_of (take (i + 1) es)))
entries_more names first es i e {separated} a b c d within at =
    written_more first (with_commas (entry_texts names (entries_of (take i es)))) (separator i) (entry_text names e) (with_commas (entry_texts names (entries_of (take (i + 1) es)))) a b
    (d ∙ ap (λ (x : List ℕ). (x ++ codes " -> ") ++ text names e.1) c ∙ joined separated (text names e.0) (codes " -> ") (text names e.1))
    (rw (entry_texts_map names (take (i + 1) es), entry_texts_map names (take i es)) (with_commas-more (entry_text names) es i e within ∙ rw (← at) refl))
