-- Terms, targets and statements that the tests find the same are equal, if the tests of annotations decide equality.
use Rattle.std.proofs.Common.{◌≡◌, Bool, true, List, [], ◌∷◌, Option, Some, None, refl, ap, rules}
use Rattle.std.specs.Option.{option_eq}
use Rattle.std.specs.Bool.{Decides}
use Rattle.std.specs.Cmp.{booleans_Decides}
use Rattle.std.proofs.lemmas.Bool.{and_parts}
use Rattle.std.proofs.lemmas.Bool.Decides.{Decides-and, Decides-int_eq, Decides-like}
use Rattle.std.proofs.lemmas.Slice.Eq.{bytes_eq-Decides}
use denote.Enum.Bare.{same_true, true_same}
use Rattle.ioa_operators.specs.contracts.operator.UnaryOperator as unary
use Rattle.ioa_operators.specs.contracts.operator.BinaryOperator as binary
use Rattle.ioa_operators.specs.contracts.shape.DisplayForm as form
use Rattle.ioa_operators.specs.declared.operator.UnaryOperator.{UnaryOperator}
use Rattle.ioa_operators.specs.declared.operator.BinaryOperator.{BinaryOperator}
use Rattle.ioa_operators.specs.declared.shape.DisplayForm.{DisplayForm}
use Rattle.ioa_terms.specs.contracts.tree.Kind as kind
use Rattle.ioa_terms.specs.declared.tree.Kind.{Kind}
use Rattle.ioa_terms.specs.PlainTerm.{PlainTerm, PlainTerms, PlainTarget, PlainStatement, PlainStatements, PlainArms, number, truth, name, one, two, call, display, field, no_terms, term, terms_of, variable, at_key, at_field, assign, branch, loop, fire, choosing, PlainFiring, firing, PlainChoice, choice_with, no_statements, statement, statements_of, no_arms, arm}
use Rattle.ioa_terms.specs.SameNames.{same_name_is}
use Rattle.ioa_terms.specs.SameSorts.{same_sort_is}
use Rattle.ioa_terms.specs.SameTerms.{same_unary, same_binary, same_form, same_kind, same_term, same_terms, same_target, same_statement, same_statements, same_arms, same_firing, same_choice}

unary_is : (a b : UnaryOperator) → Decides (same_unary a b) (a ≡ b)
unary_is a b = (same_true unary.the_type (search rules) a b, true_same unary.the_type a b)

binary_is : (a b : BinaryOperator) → Decides (same_binary a b) (a ≡ b)
binary_is a b = (same_true binary.the_type (search rules) a b, true_same binary.the_type a b)

form_is : (a b : DisplayForm) → Decides (same_form a b) (a ≡ b)
form_is a b = (same_true form.the_type (search rules) a b, true_same form.the_type a b)

pub kind_is : (a b : Kind) → Decides (same_kind a b) (a ≡ b)
kind_is a b = (same_true kind.the_type (search rules) a b, true_same kind.the_type a b)

-- options whose values a test decides
pub option_is : {A : Type 0} {E : A → A → Bool} → ((a b : A) → Decides (E a b) (a ≡ b)) → (o p : Option A) → Decides (option_eq E o p) (o ≡ p)
option_is is None None = (λ h. refl, λ e. refl)
option_is is None (Some y) = (λ h. absurd (cc), λ e. absurd (cc))
option_is is (Some x) None = (λ h. absurd (cc), λ e. absurd (cc))
option_is is (Some x) (Some y) = (λ h i. Some ((is x y).0 h i), λ e. let p : x ≡ y = cc in (is x y).1 p)

module _ {N C D : Type 0} {n : N → N → Bool} {c : C → C → Bool} {d : D → D → Bool} (n_is : (x y : N) → Decides (n x y) (x ≡ y)) (c_is : (x y : C) → Decides (c x y) (x ≡ y)) (d_is : (s t : D) → Decides (d s t) (s ≡ t)) where
  mutual
    term_equal : (a b : PlainTerm N C D) → same_term n c d a b ≡ true → a ≡ b
    term_equal (number y) (number z) h = λ i. number ((Decides-int_eq y z).0 h i)
    term_equal (truth a) (truth b) h = λ i. truth ((booleans_Decides a b).0 h i)
    term_equal (name w x) (name v y) h =
        let p = and_parts _ _ h in
        λ i. name ((same_name_is w v).0 p.0 i) ((n_is x y).0 p.1 i)
    term_equal (one op a) (one oq b) h =
        let p = and_parts _ _ h in
        λ i. one ((unary_is op oq).0 p.0 i) (term_equal a b p.1 i)
    term_equal (two op a b) (two oq f g) h =
        let p = and_parts _ _ h in
        let q = and_parts _ _ p.1 in
        λ i. two ((binary_is op oq).0 p.0 i) (term_equal a f q.0 i) (term_equal b g q.1 i)
    term_equal (call w x ts) (call v y us) h =
        let p = and_parts _ _ h in
        let q = and_parts _ _ p.1 in
        λ i. call ((bytes_eq-Decides w v).0 p.0 i) ((c_is x y).0 q.0 i) (terms_equal ts us q.1 i)
    term_equal (display f s ts) (display g t us) h =
        let p = and_parts _ _ h in
        let q = and_parts _ _ p.1 in
        λ i. display ((form_is f g).0 p.0 i) ((d_is s t).0 q.0 i) (terms_equal ts us q.1 i)
    term_equal (field a w s) (field b v t) h =
        let p = and_parts _ _ h in
        let q = and_parts _ _ p.1 in
        λ i. field (term_equal a b p.0 i) ((bytes_eq-Decides w v).0 q.0 i) ((d_is s t).0 q.1 i)
    term_equal a b h = absurd (cc)

    terms_equal : (ts us : PlainTerms N C D) → same_terms n c d ts us ≡ true → ts ≡ us
    terms_equal no_terms no_terms h = refl
    terms_equal (term t ts) (term u us) h =
        let p = and_parts _ _ h in
        λ i. term (term_equal t u p.0 i) (terms_equal ts us p.1 i)
    terms_equal ts us h = absurd (cc)

  mutual
    term_itself : (a : PlainTerm N C D) → same_term n c d a a ≡ true
    term_itself (number z) = (Decides-int_eq z z).1 refl
    term_itself (truth b) = (booleans_Decides b b).1 refl
    term_itself (name w x) = rw ((same_name_is w w).1 refl, (n_is x x).1 refl) refl
    term_itself (one op a) = rw ((unary_is op op).1 refl, term_itself a) refl
    term_itself (two op a b) = rw ((binary_is op op).1 refl, term_itself a, term_itself b) refl
    term_itself (call w x ts) = rw ((bytes_eq-Decides w w).1 refl, (c_is x x).1 refl, terms_itself ts) refl
    term_itself (display f s ts) = rw ((form_is f f).1 refl, (d_is s s).1 refl, terms_itself ts) refl
    term_itself (field a w s) = rw (term_itself a, (bytes_eq-Decides w w).1 refl, (d_is s s).1 refl) refl

    terms_itself : (ts : PlainTerms N C D) → same_terms n c d ts ts ≡ true
    terms_itself no_terms = refl
    terms_itself (term t ts) = rw (term_itself t, terms_itself ts) refl

  -- the test finds two terms the same if and only if they are equal
  pub same_term_is : (a b : PlainTerm N C D) → Decides (same_term n c d a b) (a ≡ b)
  same_term_is a b = (term_equal a b, λ e. rw (← e) (term_itself a))

  -- lists of terms
  listed_terms : (ts us : List (PlainTerm N C D)) → terms_of ts ≡ terms_of us → ts ≡ us
  listed_terms [] [] e = refl
  listed_terms [] (u ∷ us) e = absurd (cc)
  listed_terms (t ∷ ts) [] e = absurd (cc)
  listed_terms (t ∷ ts) (u ∷ us) e =
      let p : t ≡ u = cc in
      let q : terms_of ts ≡ terms_of us = cc in
      λ i. p i ∷ listed_terms ts us q i

  pub same_terms_is : (ts us : List (PlainTerm N C D)) → Decides (same_terms n c d (terms_of ts) (terms_of us)) (ts ≡ us)
  same_terms_is ts us = (λ h. listed_terms ts us (terms_equal (terms_of ts) (terms_of us) h), λ e. rw (← e) (terms_itself (terms_of ts)))

  target_equal : (a b : PlainTarget N C D) → same_target n c d a b ≡ true → a ≡ b
  target_equal (variable w x s) (variable v y t) h =
      let p = and_parts _ _ h in
      let q = and_parts _ _ p.1 in
      λ i. variable ((bytes_eq-Decides w v).0 p.0 i) ((n_is x y).0 q.0 i) ((d_is s t).0 q.1 i)
  target_equal (at_key w x s a) (at_key v y t b) h =
      let p = and_parts _ _ h in
      let q = and_parts _ _ p.1 in
      let r = and_parts _ _ q.1 in
      λ i. at_key ((bytes_eq-Decides w v).0 p.0 i) ((n_is x y).0 q.0 i) ((d_is s t).0 r.0 i) (term_equal a b r.1 i)
  target_equal (at_field w x s f) (at_field v y t g) h =
      let p = and_parts _ _ h in
      let q = and_parts _ _ p.1 in
      let r = and_parts _ _ q.1 in
      λ i. at_field ((bytes_eq-Decides w v).0 p.0 i) ((n_is x y).0 q.0 i) ((d_is s t).0 r.0 i) ((bytes_eq-Decides f g).0 r.1 i)
  target_equal a b h = absurd (cc)

  target_itself : (a : PlainTarget N C D) → same_target n c d a a ≡ true
  target_itself (variable w x s) = rw ((bytes_eq-Decides w w).1 refl, (n_is x x).1 refl, (d_is s s).1 refl) refl
  target_itself (at_key w x s a) = rw ((bytes_eq-Decides w w).1 refl, (n_is x x).1 refl, (d_is s s).1 refl, term_itself a) refl
  target_itself (at_field w x s f) = rw ((bytes_eq-Decides w w).1 refl, (n_is x x).1 refl, (d_is s s).1 refl, (bytes_eq-Decides f f).1 refl) refl

  -- the test finds two firings the same if and only if they are equal
  pub same_firing_is : (a b : PlainFiring N C D) → Decides (same_firing n c d a b) (a ≡ b)
  same_firing_is a b =
      Decides-like _ (λ p i. firing (p.0 i) (p.1.0 i) (p.1.1.0 i) (p.1.1.1 i))
      (λ e. (ap (λ (f : PlainFiring N C D). f.kind) e, (ap (λ (f : PlainFiring N C D). f.action) e, (ap (λ (f : PlainFiring N C D). f.rule) e, ap (λ (f : PlainFiring N C D). f.arguments) e))))
      (Decides-and _ _ (option_is kind_is a.kind b.kind)
      (Decides-and _ _ (bytes_eq-Decides a.action b.action)
      (Decides-and _ _ (n_is a.rule b.rule) (same_terms_is a.arguments b.arguments))))

  -- the test finds two choices the same if and only if they are equal
  pub same_choice_is : (a b : PlainChoice N C D) → Decides (same_choice n c d a b) (a ≡ b)
  same_choice_is a b =
      Decides-like _ (λ p i. choice_with (p.0 i) (p.1.0 i) (p.1.1.0 i) (p.1.1.1.0 i) (p.1.1.1.1.0 i) (p.1.1.1.1.1 i))
      (λ e. (ap (λ (f : PlainChoice N C D). f.target) e, (ap (λ (f : PlainChoice N C D). f.name) e, (ap (λ (f : PlainChoice N C D). f.sort) e, (ap (λ (f : PlainChoice N C D). f.shape) e, (ap (λ (f : PlainChoice N C D). f.condition) e, ap (λ (f : PlainChoice N C D). f.yields) e))))))
      (Decides-and _ _ (target_equal a.target b.target, λ e. rw (← e) (target_itself a.target))
      (Decides-and _ _ (bytes_eq-Decides a.name b.name)
      (Decides-and _ _ (same_sort_is a.sort b.sort)
      (Decides-and _ _ (d_is a.shape b.shape)
      (Decides-and _ _ (same_term_is a.condition b.condition) (same_term_is a.yields b.yields))))))

  mutual
    statement_equal : (a b : PlainStatement N C D) → same_statement n c d a b ≡ true → a ≡ b
    statement_equal (assign x t) (assign y u) h =
        let p = and_parts _ _ h in
        λ i. assign (target_equal x y p.0 i) (term_equal t u p.1 i)
    statement_equal (branch xs ss) (branch ys ts) h =
        let p = and_parts _ _ h in
        λ i. branch (arms_equal xs ys p.0 i) (statements_equal ss ts p.1 i)
    statement_equal (loop t ss) (loop u ts) h =
        let p = and_parts _ _ h in
        λ i. loop (term_equal t u p.0 i) (statements_equal ss ts p.1 i)
    statement_equal (fire f) (fire g) h = λ i. fire ((same_firing_is f g).0 h i)
    statement_equal (choosing a) (choosing b) h = λ i. choosing ((same_choice_is a b).0 h i)
    statement_equal a b h = absurd (cc)

    statements_equal : (ss ts : PlainStatements N C D) → same_statements n c d ss ts ≡ true → ss ≡ ts
    statements_equal no_statements no_statements h = refl
    statements_equal (statement s ss) (statement t ts) h =
        let p = and_parts _ _ h in
        λ i. statement (statement_equal s t p.0 i) (statements_equal ss ts p.1 i)
    statements_equal ss ts h = absurd (cc)

    arms_equal : (xs ys : PlainArms N C D) → same_arms n c d xs ys ≡ true → xs ≡ ys
    arms_equal no_arms no_arms h = refl
    arms_equal (arm t ss xs) (arm u ts ys) h =
        let p = and_parts _ _ h in
        let q = and_parts _ _ p.0 in
        λ i. arm (term_equal t u q.0 i) (statements_equal ss ts q.1 i) (arms_equal xs ys p.1 i)
    arms_equal xs ys h = absurd (cc)

  mutual
    statement_itself : (a : PlainStatement N C D) → same_statement n c d a a ≡ true
    statement_itself (assign x t) = rw (target_itself x, term_itself t) refl
    statement_itself (branch xs ss) = rw (arms_itself xs, statements_itself ss) refl
    statement_itself (loop t ss) = rw (term_itself t, statements_itself ss) refl
    statement_itself (fire f) = (same_firing_is f f).1 refl
    statement_itself (choosing a) = (same_choice_is a a).1 refl

    statements_itself : (ss : PlainStatements N C D) → same_statements n c d ss ss ≡ true
    statements_itself no_statements = refl
    statements_itself (statement s ss) = rw (statement_itself s, statements_itself ss) refl

    arms_itself : (xs : PlainArms N C D) → same_arms n c d xs xs ≡ true
    arms_itself no_arms = refl
    arms_itself (arm t ss xs) = rw (term_itself t, statements_itself ss, arms_itself xs) refl

  -- the test finds two statements the same if and only if they are equal
  pub same_statement_is : (a b : PlainStatement N C D) → Decides (same_statement n c d a b) (a ≡ b)
  same_statement_is a b = (statement_equal a b, λ e. rw (← e) (statement_itself a))

  -- lists of statements
  listed_statements : (ss ts : List (PlainStatement N C D)) → statements_of ss ≡ statements_of ts → ss ≡ ts
  listed_statements [] [] e = refl
  listed_statements [] (t ∷ ts) e = absurd (cc)
  listed_statements (s ∷ ss) [] e = absurd (cc)
  listed_statements (s ∷ ss) (t ∷ ts) e =
      let p : s ≡ t = cc in
      let q : statements_of ss ≡ statements_of ts = cc in
      λ i. p i ∷ listed_statements ss ts q i

  pub same_statements_is : (ss ts : List (PlainStatement N C D)) → Decides (same_statements n c d (statements_of ss) (statements_of ts)) (ss ≡ ts)
  same_statements_is ss ts = (λ h. listed_statements ss ts (statements_equal (statements_of ss) (statements_of ts) h), λ e. rw (← e) (statements_itself (statements_of ss)))
