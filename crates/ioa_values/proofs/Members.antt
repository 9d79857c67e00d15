-- Sets by their members, and maps by the values at their keys.
use Rattle.std.proofs.Common.{◌≡◌, ◌∙◌, Bool, true, false, not, ◌||◌, ◌&&◌, true≢false, List, [], ◌∷◌, Option, Some, None, refl, sym, ap, if◌then◌else◌}
use Rattle.std.proofs.Math.Bool.{and-false}
use Rattle.std.proofs.lemmas.Cmp.{tied_itself}
use Rattle.std.specs.List.{AllByRecursion}
use Rattle.std.specs.Option.{is_some}
use Rattle.std.specs.Ordering.{is_eq}
use Rattle.std.specs.declared.cmp.Ordering.{Ordering}
use Rattle.std.specs.declared.cmp.Ordering.TheVariants.{Less, Equal, Greater}
use Rattle.ioa_values.specs.Data.{Data}
use Rattle.ioa_values.specs.DataOrder.{data_cmp, data_cmp_total, same}
use Rattle.ioa_values.specs.Collections.{by_order, IsAscending, is_member, with_member, without_member, set_of, union, keys_of, value_at, with_entry, without_key}
use Rattle.ioa_values.proofs.Ascending.{by_each, cmp_reverse, all_later, none_same}
use Rattle.ioa_values.proofs.Equality.{tied_equal, same_equal, same_itself}

-- tests in another order, and twice
or_again : (b c : Bool) → (b || c) ≡ (b || (b || c))
or_again true c = refl
or_again false c = refl

or_swapped : (a b c : Bool) → (a || (b || c)) ≡ (b || (a || c))
or_swapped true true c = refl
or_swapped true false c = refl
or_swapped false b c = refl

or_grouped : (a b c : Bool) → (a || (b || c)) ≡ ((a || b) || c)
or_grouped true b c = refl
or_grouped false b c = refl

-- a set with one more member has it, and what it had
pub member_with : (x d : Data) (xs : List Data) → is_member x (with_member d xs) ≡ (same x d || is_member x xs)
member_with x d [] = refl
member_with x d (y ∷ ys) =
    by_each (λ (zs : List Data). is_member x zs ≡ (same x d || is_member x (y ∷ ys))) (data_cmp d y) (d ∷ y ∷ ys) (y ∷ ys) (y ∷ with_member d ys)
    (λ e. refl)
    (λ e. rw (tied_equal d y e) (or_again (same x y) (is_member x ys)))
    (λ e. ap (λ b. same x y || b) (member_with x d ys) ∙ or_swapped (same x y) (same x d) (is_member x ys))

-- what is false if a test is true is true only if the test is false
but_not : (b c : Bool) → (b ≡ true → c ≡ false) → c ≡ (not b && c)
but_not true c h = h refl
but_not false c h = refl

but_not_first : (b c : Bool) → (b ≡ true → c ≡ false) → c ≡ (not b && (b || c))
but_not_first true c h = h refl
but_not_first false c h = refl

but_not_later : (b c m : Bool) → (b ≡ true → c ≡ false) → (b || (not c && m)) ≡ (not c && (b || m))
but_not_later true c m h = rw (h refl) refl
but_not_later false c m h = refl

-- a set without a member has the others
pub member_without : (x d : Data) (xs : List Data) → IsAscending xs → is_member x (without_member d xs) ≡ (not (same x d) && is_member x xs)
member_without x d [] a = sym (and-false (not (same x d)))
member_without x d (y ∷ ys) a =
    by_each (λ (zs : List Data). is_member x zs ≡ (not (same x d) && is_member x (y ∷ ys))) (data_cmp d y) (y ∷ ys) ys (y ∷ without_member d ys)
    (λ e. but_not (same x d) (is_member x (y ∷ ys)) (λ s. ap (λ (z : Data). is_member z (y ∷ ys)) (same_equal x d s) ∙ none_same d (y ∷ ys) (e, all_later d y ys e a.0)))
    (λ e. rw (tied_equal d y e) (but_not_first (same x y) (is_member x ys) (λ s. rw (same_equal x y s) (none_same y ys a.0))))
    (λ e.
    ap (λ b. same x y || b) (member_without x d ys a.1)
    ∙ but_not_later (same x y) (same x d) (is_member x ys) (λ s. rw (same_equal x y s) (ap is_eq (cmp_reverse d y Greater e))))

-- the set of a list has the values of the list
pub member_set_of : (x : Data) (ds : List Data) → is_member x (set_of ds) ≡ is_member x ds
member_set_of x [] = refl
member_set_of x (d ∷ ds) = member_with x d (set_of ds) ∙ ap (λ b. same x d || b) (member_set_of x ds)

-- the union of two sets has the members of either
pub member_union : (x : Data) (xs ys : List Data) → is_member x (union xs ys) ≡ (is_member x xs || is_member x ys)
member_union x [] ys = refl
member_union x (d ∷ xs) ys =
    member_with x d (union xs ys) ∙ ap (λ b. same x d || b) (member_union x xs ys)
    ∙ or_grouped (same x d) (is_member x xs) (is_member x ys)

-- the first item of a list is one of its members
is_first : (x : Data) (xs : List Data) → is_member x (x ∷ xs) ≡ true
is_first x xs = rw (same_itself x) refl

-- two tests that are false if a third is true are the same if each gives the same in disjunction with the third
beside : (b m n : Bool) → (b ≡ true → m ≡ false) → (b ≡ true → n ≡ false) → (b || m) ≡ (b || n) → m ≡ n
beside true m n p q h = p refl ∙ sym (q refl)
beside false m n p q h = h

-- a set is known by its members
pub same_members : (xs ys : List Data) → IsAscending xs → IsAscending ys → ((x : Data) → is_member x xs ≡ is_member x ys) → xs ≡ ys
same_members [] [] a b h = refl
same_members [] (y ∷ ys) a b h = absurd (true≢false (sym (h y ∙ is_first y ys)))
same_members (x ∷ xs) [] a b h = absurd (true≢false (sym (is_first x xs) ∙ h x))
same_members (x ∷ xs) (y ∷ ys) a b h = at (data_cmp x y) refl (same_members xs ys a.1 b.1)
  where
    at : (o : Ordering) → data_cmp x y ≡ o → (((z : Data) → is_member z xs ≡ is_member z ys) → xs ≡ ys) → x ∷ xs ≡ y ∷ ys
    at Less e later = absurd (true≢false (sym (is_first x xs) ∙ h x ∙ none_same x (y ∷ ys) (e, all_later x y ys e b.0)))
    at Greater e later =
        let before = cmp_reverse x y Greater e in
        absurd (true≢false (sym (is_first y ys) ∙ sym (h y) ∙ none_same y (x ∷ xs) (before, all_later y x xs before a.0)))
    at Equal e later =
        let p = tied_equal x y e in
        let rest = later (λ z.
        beside (same z x) (is_member z xs) (is_member z ys)
        (λ s. rw (same_equal z x s) (none_same x xs a.0))
        (λ s. rw (same_equal z x s ∙ p) (none_same y ys b.0))
        (h z ∙ ap (λ d. same z d || is_member z ys) (sym p))) in
        λ i. p i ∷ rest i

-- a key before all keys has no value
none_at : (l : Data) (es : List (Data × Data)) → AllByRecursion (λ y. data_cmp l y ≡ Less) (keys_of es) → value_at l es ≡ None
none_at l [] h = refl
none_at l (p ∷ more) h = rw h.0 refl

-- the value at the key of the first entry
first_at : (p : Data × Data) (more : List (Data × Data)) → value_at p.0 (p ∷ more) ≡ Some p.1
first_at p more = rw (tied_itself data_cmp_total p.0) refl

-- an order as a test for equality
in_front : (o : Ordering) (v : Data) (w : Option Data) → (o ≡ Less → w ≡ None) → by_order o None (Some v) w ≡ (if is_eq o then Some v else w)
in_front Less v w h = sym (h refl)
in_front Equal v w h = refl
in_front Greater v w h = refl

in_place : (o : Ordering) (u v : Data) (w : Option Data) → by_order o None (Some v) w ≡ (if is_eq o then Some v else by_order o None (Some u) w)
in_place Less u v w = refl
in_place Equal u v w = refl
in_place Greater u v w = refl

behind : (o : Ordering) (b : Bool) (u : Data) (v w : Option Data) → (b ≡ true → o ≡ Greater) → by_order o None (Some u) (if b then v else w) ≡ (if b then v else by_order o None (Some u) w)
behind o true u v w h = rw (h refl) refl
behind o false u v w h = refl

-- a map with an entry has its value at its key, and at all others what it had
pub value_with : (l k v : Data) (es : List (Data × Data)) → value_at l (with_entry k v es) ≡ (if same l k then Some v else value_at l es)
value_with l k v [] = in_front (data_cmp l k) v None (λ e. refl)
value_with l k v (p ∷ more) =
    by_each (λ (fs : List (Data × Data)). value_at l fs ≡ (if same l k then Some v else value_at l (p ∷ more))) (data_cmp k p.0)
    ((k, v) ∷ p ∷ more) ((k, v) ∷ more) (p ∷ with_entry k v more)
    (λ e. in_front (data_cmp l k) v (value_at l (p ∷ more)) (λ f. rw (data_cmp_total.trans l k p.0 f e) refl))
    (λ e. rw (tied_equal k p.0 e) (in_place (data_cmp l p.0) p.1 v (value_at l more)))
    (λ e.
    ap (λ (o : Option Data). by_order (data_cmp l p.0) None (Some p.1) o) (value_with l k v more)
    ∙ behind (data_cmp l p.0) (same l k) p.1 (Some v) (value_at l more) (λ s. rw (same_equal l k s) e))

nothing_but : (b : Bool) (w : Option Data) → (b ≡ true → w ≡ None) → w ≡ (if b then None else w)
nothing_but true w h = h refl
nothing_but false w h = refl

removed : (o : Ordering) (u : Data) (w : Option Data) → (o ≡ Less → w ≡ None) → (o ≡ Equal → w ≡ None) → w ≡ (if is_eq o then None else by_order o None (Some u) w)
removed Less u w h k = h refl
removed Equal u w h k = k refl
removed Greater u w h k = refl

-- a map without a key has no value there, and at all others what it had
pub value_without : (l k : Data) (es : List (Data × Data)) → IsAscending (keys_of es) → value_at l (without_key k es) ≡ (if same l k then None else value_at l es)
value_without l k [] a = nothing_but (same l k) None (λ s. refl)
value_without l k (p ∷ more) a =
    by_each (λ (fs : List (Data × Data)). value_at l fs ≡ (if same l k then None else value_at l (p ∷ more))) (data_cmp k p.0)
    (p ∷ more) more (p ∷ without_key k more)
    (λ e. nothing_but (same l k) (value_at l (p ∷ more)) (λ s. rw (same_equal l k s) (rw e refl)))
    (λ e. rw (tied_equal k p.0 e) (removed (data_cmp l p.0) p.1 (value_at l more)
    (λ f. none_at l more (all_later l p.0 (keys_of more) f a.0))
    (λ f. rw (tied_equal l p.0 f) (none_at p.0 more a.0))))
    (λ e.
    ap (λ (o : Option Data). by_order (data_cmp l p.0) None (Some p.1) o) (value_without l k more a.1)
    ∙ behind (data_cmp l p.0) (same l k) p.1 None (value_at l more) (λ s. rw (same_equal l k s) e))

none_some : {v : Data} → None ≡ Some v → ⊥
none_some e = true≢false (sym (ap is_some e))

-- the value of an option, or another value
abbrev value_or : Data → Option Data → Data
value_or u None = u
value_or u (Some v) = v

-- two tails that have no value up to the first key are the same if the maps are
tails : (o : Ordering) (u v : Data) (w z : Option Data) → (o ≡ Less → w ≡ None) → (o ≡ Less → z ≡ None) → (o ≡ Equal → w ≡ None) → (o ≡ Equal → z ≡ None) → by_order o None (Some u) w ≡ by_order o None (Some v) z → w ≡ z
tails Less u v w z p q r s h = p refl ∙ sym (q refl)
tails Equal u v w z p q r s h = r refl ∙ sym (s refl)
tails Greater u v w z p q r s h = h

-- a map is known by the values at its keys
pub same_values : (es fs : List (Data × Data)) → IsAscending (keys_of es) → IsAscending (keys_of fs) → ((k : Data) → value_at k es ≡ value_at k fs) → es ≡ fs
same_values [] [] a b h = refl
same_values [] (f ∷ fs) a b h = absurd (none_some (h f.0 ∙ first_at f fs))
same_values (e ∷ es) [] a b h = absurd (none_some (sym (h e.0) ∙ first_at e es))
same_values (e ∷ es) (f ∷ fs) a b h = at (data_cmp e.0 f.0) refl (same_values es fs a.1 b.1)
  where
    at : (o : Ordering) → data_cmp e.0 f.0 ≡ o → (((k : Data) → value_at k es ≡ value_at k fs) → es ≡ fs) → e ∷ es ≡ f ∷ fs
    at Less c later =
        let none : value_at e.0 (f ∷ fs) ≡ None = rw c refl in
        absurd (none_some (sym none ∙ sym (h e.0) ∙ first_at e es))
    at Greater c later =
        let none : value_at f.0 (e ∷ es) ≡ None = rw (cmp_reverse e.0 f.0 Greater c) refl in
        absurd (none_some (sym none ∙ h f.0 ∙ first_at f fs))
    at Equal c later =
        let p : e.0 ≡ f.0 = tied_equal e.0 f.0 c in
        let values : Some e.1 ≡ Some f.1 = sym (first_at e es) ∙ h e.0 ∙ ap (λ (d : Data). value_at d (f ∷ fs)) p ∙ first_at f fs in
        let q : e.1 ≡ f.1 = ap (value_or e.1) values in
        let rest = later (λ k.
        tails (data_cmp k e.0) e.1 f.1 (value_at k es) (value_at k fs)
        (λ t. none_at k es (all_later k e.0 (keys_of es) t a.0))
        (λ t. none_at k fs (all_later k f.0 (keys_of fs) (ap (data_cmp k) (sym p) ∙ t) b.0))
        (λ t. rw (tied_equal k e.0 t) (none_at e.0 es a.0))
        (λ t. rw (tied_equal k e.0 t ∙ p) (none_at f.0 fs b.0))
        (h k ∙ ap (λ (d : Data). by_order (data_cmp k d) None (Some f.1) (value_at k fs)) (sym p))) in
        λ i. (p i, q i) ∷ rest i

-- a set does not change by a member that it has, nor without a value that it has not
pub with_a_member : (d : Data) (xs : List Data) → IsAscending xs → is_member d xs ≡ true → with_member d xs ≡ xs
with_a_member d [] a h = absurd (cc)
with_a_member d (x ∷ xs) a h =
    by_each (λ (l : List Data). l ≡ x ∷ xs) (data_cmp d x) (d ∷ x ∷ xs) (x ∷ xs) (x ∷ with_member d xs)
    (λ e. absurd (true≢false (sym h ∙ none_same d (x ∷ xs) (e, all_later d x xs e a.0))))
    (λ e. refl)
    (λ e. ap (λ (l : List Data). x ∷ l) (with_a_member d xs a.1 (rw e at h)))

pub without_no_member : (d : Data) (xs : List Data) → is_member d xs ≡ false → without_member d xs ≡ xs
without_no_member d [] h = refl
without_no_member d (x ∷ xs) h =
    by_each (λ (l : List Data). l ≡ x ∷ xs) (data_cmp d x) (x ∷ xs) xs (x ∷ without_member d xs)
    (λ e. refl)
    (λ e. absurd (true≢false (rw e at h)))
    (λ e. ap (λ (l : List Data). x ∷ l) (without_no_member d xs (rw e at h)))

-- a map does not change without a key that it has not
pub without_no_key : (k : Data) (es : List (Data × Data)) → value_at k es ≡ None → without_key k es ≡ es
without_no_key k [] h = refl
without_no_key k (e ∷ es) h =
    by_each (λ (l : List (Data × Data)). l ≡ e ∷ es) (data_cmp k e.0) (e ∷ es) es (e ∷ without_key k es)
    (λ o. refl)
    (λ o. absurd (let told : Some e.1 ≡ None = rw o at h in cc))
    (λ o. ap (λ (l : List (Data × Data)). e ∷ l) (without_no_key k es (rw o at h)))
