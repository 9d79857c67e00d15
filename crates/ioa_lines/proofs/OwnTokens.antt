-- The tokens that an action is spelled by: `choose` is not among them, and they spell it whatever comes behind.
use Rattle.std.proofs.Common.{◌≡◌, false, List, [], ◌∷◌, ◌++◌, ℕ, refl, ap, sym, ◌∙◌, append_assoc, append-nil, subst}
use Rattle.std.specs.List.{list_any}
use Rattle.ioa_tokens.specs.declared.token.Token.{Token}
use Rattle.ioa_tokens.specs.declared.token.Token.TheVariants as token
use Rattle.ioa_tokens.specs.declared.mark.Mark.TheVariants as mark
use Rattle.ioa_values.specs.Data.{Data, Items, Entries}
use Rattle.ioa_actions.specs.declared.action.Action.{Action}
use Rattle.ioa_value_reader.specs.Grammar.{SpellsValue, plus, minus, is_true, is_false, named, parts, empty_sequence, empty_set, empty_map, items, members, entries}
use Rattle.ioa_value_reader.specs.Grammar.{SpellsItems, single, followed, SpellsEntries, single_entry, followed_entry}
use Rattle.ioa_lines.specs.Grammar.{SpellsAction, SpellsArguments, none, listed, local, received, sent, stimulus}
use Rattle.ioa_lines.specs.Reading.{is_choose}
use Rattle.ioa_lines.proofs.Ends.{either_false}

-- the tokens of a spelling stand in front of those that come after it
pub record Own (P : List Token → List Token → Type 0) (xs ys : List Token) : Type 0 where
  pub front : List Token
  pub same : xs ≡ front ++ ys
  pub free : list_any is_choose front ≡ false
  pub alone : (zs : List Token) → P (front ++ zs) zs

free_joined : (f g : List Token) → list_any is_choose f ≡ false → list_any is_choose g ≡ false → list_any is_choose (f ++ g) ≡ false
free_joined [] g e h = h
free_joined (t ∷ f) g e h = let p = either_false (is_choose t) (list_any is_choose f) e in rw p.0 (free_joined f g p.1 h)

-- a token
one_token : {P : List Token → List Token → Type 0} (t : Token) {ys : List Token} → is_choose t ≡ false → ((zs : List Token) → P (t ∷ zs) zs) → Own P (t ∷ ys) ys
one_token t apart spelled = record { front = t ∷ []; same = refl; free = rw apart refl; alone = spelled }

two_tokens : {P : List Token → List Token → Type 0} (t u : Token) {ys : List Token} → is_choose t ≡ false → is_choose u ≡ false → ((zs : List Token) → P (t ∷ u ∷ zs) zs) → Own P (t ∷ u ∷ ys) ys
two_tokens t u apart further spelled = record { front = t ∷ u ∷ []; same = refl; free = rw (apart, further) refl; alone = spelled }

-- a token behind a spelling
with_token : {P : List Token → List Token → Type 0} (t : Token) {xs ys : List Token} → is_choose t ≡ false → Own P xs (t ∷ ys) → Own (λ us vs. P us (t ∷ vs)) xs ys
with_token {P} t {ys = ys} apart f = record {
  front = f.front ++ t ∷ [];
  same = f.same ∙ sym (append_assoc f.front (t ∷ []) ys);
  free = free_joined f.front (t ∷ []) f.free (rw apart refl);
  alone = λ zs. subst (λ (us : List Token). P us (t ∷ zs)) (sym (append_assoc f.front (t ∷ []) zs)) (f.alone (t ∷ zs));
}

-- a token in front of a spelling
in_front : {P Q : List Token → List Token → Type 0} (t : Token) {xs ys : List Token} → is_choose t ≡ false → ((us vs : List Token) → P us vs → Q (t ∷ us) vs) → Own P xs ys → Own Q (t ∷ xs) ys
in_front t apart spelled f = record {
  front = t ∷ f.front;
  same = ap (λ us. t ∷ us) f.same;
  free = rw apart f.free;
  alone = λ zs. spelled (f.front ++ zs) zs (f.alone zs);
}

-- one spelling behind another
joined : {P Q R : List Token → List Token → Type 0} {xs ys zs : List Token} → ((us vs ws : List Token) → P us vs → Q vs ws → R us ws) → Own P xs ys → Own Q ys zs → Own R xs zs
joined {P} {Q} {R} {zs = zs} spelled f g = record {
  front = f.front ++ g.front;
  same = f.same ∙ ap (λ us. f.front ++ us) g.same ∙ sym (append_assoc f.front g.front zs);
  free = free_joined f.front g.front f.free g.free;
  alone = λ us. subst (λ (ts : List Token). R ts us) (sym (append_assoc f.front g.front us)) (spelled (f.front ++ (g.front ++ us)) (g.front ++ us) us (f.alone (g.front ++ us)) (g.alone us));
}

module _ {names : List (List ℕ)} where
  mutual
    -- the tokens of a value
    value_own : {d : Data} {xs ys : List Token} → SpellsValue names d xs ys → Own (SpellsValue names d) xs ys
    value_own plus = one_token _ refl (λ zs. plus)
    value_own minus = two_tokens _ _ refl refl (λ zs. minus)
    value_own is_true = one_token _ refl (λ zs. is_true)
    value_own is_false = one_token _ refl (λ zs. is_false)
    value_own (named k) = one_token _ refl (λ zs. named k)
    value_own (parts d) = in_front _ refl (λ us vs e. parts e) (with_token _ refl (items_own d))
    value_own empty_sequence = two_tokens _ _ refl refl (λ zs. empty_sequence)
    value_own empty_set = two_tokens _ _ refl refl (λ zs. empty_set)
    value_own empty_map = two_tokens _ _ refl refl (λ zs. empty_map)
    value_own (items d) = in_front _ refl (λ us vs e. items e) (with_token _ refl (items_own d))
    value_own (members a d) = in_front _ refl (λ us vs e. members a e) (with_token _ refl (items_own d))
    value_own (entries a d) = in_front _ refl (λ us vs e. entries a e) (with_token _ refl (entries_own d))

    items_own : {ds : Items} {xs ys : List Token} → SpellsItems names ds xs ys → Own (SpellsItems names ds) xs ys
    items_own (single d) = let f = value_own d in record { front = f.front; same = f.same; free = f.free; alone = λ zs. single (f.alone zs) }
    items_own (followed d rest) = joined (λ us vs ws e f. followed e f) (with_token _ refl (value_own d)) (items_own rest)

    entries_own : {es : Entries} {xs ys : List Token} → SpellsEntries names es xs ys → Own (SpellsEntries names es) xs ys
    entries_own (single_entry k v) = joined (λ us vs ws e f. single_entry e f) (with_token _ refl (value_own k)) (value_own v)
    entries_own (followed_entry {v = v} {es = es} key value rest) =
        joined {Q = λ us ws. (mid : List Token) × SpellsValue names v us (token.Mark mark.Comma ∷ mid) × SpellsEntries names es mid ws} (λ us vs ws e f. followed_entry e f.1 f.2)
        (with_token _ refl (value_own key)) (joined (λ us vs ws e f. (vs, e, f)) (with_token _ refl (value_own value)) (entries_own rest))

  -- the tokens of arguments
  arguments_own : {vs : List Data} {xs ys : List Token} → SpellsArguments names vs xs ys → Own (SpellsArguments names vs) xs ys
  arguments_own none = record { front = []; same = refl; free = refl; alone = λ zs. none }
  arguments_own (listed d) = in_front _ refl (λ us vs e. listed e) (with_token _ refl (items_own d))

  -- the tokens of an action
  pub action_own : {a : Action} {xs ys : List Token} → SpellsAction names a xs ys → Own (SpellsAction names a) xs ys
  action_own (sent d) = in_front _ refl (λ us vs e. sent e) (arguments_own d)
  action_own (received d) = in_front _ refl (λ us vs e. received e) (arguments_own d)
  action_own (local a other d) = in_front _ refl (λ us vs e. local a other e) (with_token _ refl (with_token _ refl (arguments_own d)))
  action_own (stimulus a other d) = in_front _ refl (λ us vs e. stimulus a other e) (with_token _ refl (with_token _ refl (arguments_own d)))

  -- an action with nothing behind it is spelled by its tokens whatever comes behind
  pub action_before : {a : Action} {xs : List Token} (ys : List Token) → SpellsAction names a xs [] → SpellsAction names a (xs ++ ys) ys
  action_before {a} {xs} ys d =
      let f = action_own d in
      let same : f.front ≡ xs = sym (f.same ∙ append-nil f.front) in
      subst (λ (us : List Token). SpellsAction names a (us ++ ys) ys) same (f.alone ys)

  -- and by its own tokens alone
  pub action_alone : {a : Action} {xs ys : List Token} (f : Own (SpellsAction names a) xs ys) → SpellsAction names a f.front []
  action_alone {a} f = subst (λ (us : List Token). SpellsAction names a us []) (append-nil f.front) (f.alone [])
