-- How the logic stores terms and statements (form): as trees of numbers, no two alike. Names and displays are
-- annotated with data that is stored in a way of its own.
use Rattle.std.specs.Prelude.{◌≡◌, ℕ, true, false, nat_eq, List, Option, refl}
use Rattle.std.proofs.lemmas.Bool.Decides.{Decides-eqb}
use Rattle.std.specs.Coded.{code_by, coded×, coded_option}
use base.Stored.{Gv, gnil, gnum, gcons, Coded, coded_ℕ, coded_ℤ, coded_bool, coded_list}
use Rattle.ioa_operators.specs.contracts.operator.UnaryOperator as unary
use Rattle.ioa_operators.specs.contracts.operator.BinaryOperator as binary
use Rattle.ioa_operators.specs.contracts.shape.DisplayForm as form
use Rattle.ioa_terms.specs.contracts.name.Name as called
use Rattle.ioa_terms.specs.contracts.tree.Kind as kind
use Rattle.ioa_terms.specs.declared.tree.Kind.{Kind}
use Rattle.ioa_terms.specs.PlainSort.{PlainSort}
use Rattle.ioa_terms.specs.SortCode.{sort_code}
use Rattle.ioa_terms.specs.PlainTerm.{PlainTerm, PlainTerms, PlainTarget, PlainStatement, PlainStatements, PlainArms}
use Rattle.ioa_terms.specs.PlainTerm.{number, truth, name, one, two, call, display, field, no_terms, term}
use Rattle.ioa_terms.specs.PlainTerm.{variable, at_key, at_field, assign, branch, loop, fire, choosing, PlainFiring, firing, PlainChoice, choice_with}
use Rattle.ioa_terms.specs.PlainTerm.{no_statements, statement, no_arms, arm}

abbrev word : Coded (List ℕ)
word = coded_list coded_ℕ

abbrev maybe_kind : Coded (Option Kind)
maybe_kind = coded_option kind.the_row.coded

-- two trees that are told apart by their first numbers
other : {A : Type 0} (m n : ℕ) (x y : Gv) → nat_eq m n ≡ false → gcons (gnum m) x ≡ gcons (gnum n) y → A
other m n x y d e =
    let same : m ≡ n = cc in
    absurd (apart m n same d)
  where
    apart : (m n : ℕ) → m ≡ n → nat_eq m n ≡ false → ⊥
    apart m n e d = let itself : nat_eq m n ≡ true = (Decides-eqb m n).1 e in cc

module _ {N C D : Type 0} (n : Coded N) (c : Coded C) (d : Coded D) where
  -- a term as a tree: which it is, and then what it holds
  mutual
    pub term_stored : PlainTerm N C D → Gv
    term_stored (number z) = gcons (gnum 0) (coded_ℤ.code z)
    term_stored (truth b) = gcons (gnum 1) (coded_bool.code b)
    term_stored (name w x) = gcons (gnum 2) (gcons (called.the_row.coded.code w) (n.code x))
    term_stored (one op a) = gcons (gnum 3) (gcons (unary.the_row.coded.code op) (term_stored a))
    term_stored (two op a b) =
        gcons (gnum 4) (gcons (binary.the_row.coded.code op) (gcons (term_stored a) (term_stored b)))
    term_stored (call w x ts) = gcons (gnum 5) (gcons (word.code w) (gcons (c.code x) (terms_stored ts)))
    term_stored (display f s ts) =
        gcons (gnum 6) (gcons (form.the_row.coded.code f) (gcons (d.code s) (terms_stored ts)))
    term_stored (field a w s) = gcons (gnum 7) (gcons (term_stored a) (gcons (word.code w) (d.code s)))

    pub terms_stored : PlainTerms N C D → Gv
    terms_stored no_terms = gnil
    terms_stored (term t more) = gcons (term_stored t) (terms_stored more)

  -- terms that are stored alike are the same
  mutual
    unfolding term_stored terms_stored

    pub term_apart : (a b : PlainTerm N C D) → term_stored a ≡ term_stored b → a ≡ b
    term_apart (number y) (number z) e =
        let p : coded_ℤ.code y ≡ coded_ℤ.code z = cc in
        λ i. number (coded_ℤ.inj y z p i)
    term_apart (truth a) (truth b) e =
        let p : coded_bool.code a ≡ coded_bool.code b = cc in
        λ i. truth (coded_bool.inj a b p i)
    term_apart (name w x) (name v y) e =
        let p : called.the_row.coded.code w ≡ called.the_row.coded.code v = cc in
        let q : n.code x ≡ n.code y = cc in
        λ i. name (called.the_row.coded.inj w v p i) (n.inj x y q i)
    term_apart (one op a) (one oq b) e =
        let p : unary.the_row.coded.code op ≡ unary.the_row.coded.code oq = cc in
        let q : term_stored a ≡ term_stored b = cc in
        λ i. one (unary.the_row.coded.inj op oq p i) (term_apart a b q i)
    term_apart (two op a b) (two oq f g) e =
        let p : binary.the_row.coded.code op ≡ binary.the_row.coded.code oq = cc in
        let q : term_stored a ≡ term_stored f = cc in
        let r : term_stored b ≡ term_stored g = cc in
        λ i. two (binary.the_row.coded.inj op oq p i) (term_apart a f q i) (term_apart b g r i)
    term_apart (call w x ts) (call v y us) e =
        let p : word.code w ≡ word.code v = cc in
        let q : c.code x ≡ c.code y = cc in
        let r : terms_stored ts ≡ terms_stored us = cc in
        λ i. call (word.inj w v p i) (c.inj x y q i) (terms_apart ts us r i)
    term_apart (display f s ts) (display g t us) e =
        let p : form.the_row.coded.code f ≡ form.the_row.coded.code g = cc in
        let q : d.code s ≡ d.code t = cc in
        let r : terms_stored ts ≡ terms_stored us = cc in
        λ i. display (form.the_row.coded.inj f g p i) (d.inj s t q i) (terms_apart ts us r i)
    term_apart (field a w s) (field b v t) e =
        let p : term_stored a ≡ term_stored b = cc in
        let q : word.code w ≡ word.code v = cc in
        let r : d.code s ≡ d.code t = cc in
        λ i. field (term_apart a b p i) (word.inj w v q i) (d.inj s t r i)
    term_apart a b e = absurd (cc)

    terms_apart : (ts us : PlainTerms N C D) → terms_stored ts ≡ terms_stored us → ts ≡ us
    terms_apart no_terms no_terms e = refl
    terms_apart (term t ts) (term u us) e =
        let p : term_stored t ≡ term_stored u = cc in
        let q : terms_stored ts ≡ terms_stored us = cc in
        λ i. term (term_apart t u p i) (terms_apart ts us q i)
    terms_apart ts us e = absurd (cc)

  -- the code by which a proof tells terms apart
  abbrev pub term_code : Coded (PlainTerm N C D)
  term_code = record { code = term_stored; inj = term_apart }

  pub target_stored : PlainTarget N C D → Gv
  target_stored (variable w x s) = gcons (gnum 0) (gcons (word.code w) (gcons (n.code x) (d.code s)))
  target_stored (at_key w x s t) =
      gcons (gnum 1) (gcons (word.code w) (gcons (n.code x) (gcons (d.code s) (term_code.code t))))
  target_stored (at_field w x s f) =
      gcons (gnum 2) (gcons (word.code w) (gcons (n.code x) (gcons (d.code s) (word.code f))))

  pub target_apart : (a b : PlainTarget N C D) → target_stored a ≡ target_stored b → a ≡ b
  unfolding target_stored
  target_apart (variable w x s) (variable v y t) e =
      let p : word.code w ≡ word.code v = cc in
      let q : n.code x ≡ n.code y = cc in
      let r : d.code s ≡ d.code t = cc in
      λ i. variable (word.inj w v p i) (n.inj x y q i) (d.inj s t r i)
  target_apart (at_key w x s a) (at_key v y t b) e =
      let p : word.code w ≡ word.code v = cc in
      let q : n.code x ≡ n.code y = cc in
      let r : d.code s ≡ d.code t = cc in
      let u : term_code.code a ≡ term_code.code b = cc in
      λ i. at_key (word.inj w v p i) (n.inj x y q i) (d.inj s t r i) (term_code.inj a b u i)
  target_apart (at_field w x s f) (at_field v y t g) e =
      let p : word.code w ≡ word.code v = cc in
      let q : n.code x ≡ n.code y = cc in
      let r : d.code s ≡ d.code t = cc in
      let u : word.code f ≡ word.code g = cc in
      λ i. at_field (word.inj w v p i) (n.inj x y q i) (d.inj s t r i) (word.inj f g u i)
  target_apart a b e = absurd (cc)

  abbrev target_code : Coded (PlainTarget N C D)
  target_code = record { code = target_stored; inj = target_apart }

  -- the code of a firing: a nest of pairs
  abbrev pub firing_code : Coded (PlainFiring N C D)
  firing_code =
      code_by (Option Kind × (List ℕ × (N × List (PlainTerm N C D))))
      (coded× maybe_kind (coded× word (coded× n (coded_list term_code))))
      (λ f. (f.kind, (f.action, (f.rule, f.arguments))))
      (λ t. firing t.0 t.1.0 t.1.1.0 t.1.1.1)
      (λ _. refl)

  -- the code of a choice: a nest of pairs
  abbrev pub choice_code : Coded (PlainChoice N C D)
  choice_code =
      code_by (PlainTarget N C D × (List ℕ × (PlainSort × (D × (PlainTerm N C D × PlainTerm N C D)))))
      (coded× target_code (coded× word (coded× sort_code (coded× d (coded× term_code term_code)))))
      (λ f. (f.target, (f.name, (f.sort, (f.shape, (f.condition, f.yields))))))
      (λ t. choice_with t.0 t.1.0 t.1.1.0 t.1.1.1.0 t.1.1.1.1.0 t.1.1.1.1.1)
      (λ _. refl)

  -- a statement as a tree
  mutual
    pub statement_stored : PlainStatement N C D → Gv
    statement_stored (assign p t) = gcons (gnum 0) (gcons (target_code.code p) (term_code.code t))
    statement_stored (branch xs ss) = gcons (gnum 1) (gcons (arms_stored xs) (statements_stored ss))
    statement_stored (loop t ss) = gcons (gnum 2) (gcons (term_code.code t) (statements_stored ss))
    statement_stored (fire f) = gcons (gnum 3) (firing_code.code f)
    statement_stored (choosing f) = gcons (gnum 4) (choice_code.code f)

    pub statements_stored : PlainStatements N C D → Gv
    statements_stored no_statements = gnil
    statements_stored (statement s more) = gcons (statement_stored s) (statements_stored more)

    pub arms_stored : PlainArms N C D → Gv
    arms_stored no_arms = gnil
    arms_stored (arm t ss more) = gcons (gcons (term_code.code t) (statements_stored ss)) (arms_stored more)

  -- statements that are stored alike are the same
  mutual
    unfolding statement_stored statements_stored arms_stored

    pub statement_apart : (a b : PlainStatement N C D) → statement_stored a ≡ statement_stored b → a ≡ b
    statement_apart (assign x t) (assign y u) e =
        let p : target_code.code x ≡ target_code.code y = cc in
        let q : term_code.code t ≡ term_code.code u = cc in
        λ i. assign (target_code.inj x y p i) (term_code.inj t u q i)
    statement_apart (branch xs ss) (branch ys ts) e =
        let p : arms_stored xs ≡ arms_stored ys = cc in
        let q : statements_stored ss ≡ statements_stored ts = cc in
        λ i. branch (arms_apart xs ys p i) (statements_apart ss ts q i)
    statement_apart (loop t ss) (loop u ts) e =
        let p : term_code.code t ≡ term_code.code u = cc in
        let q : statements_stored ss ≡ statements_stored ts = cc in
        λ i. loop (term_code.inj t u p i) (statements_apart ss ts q i)
    statement_apart (fire f) (fire g) e =
        let p : firing_code.code f ≡ firing_code.code g = cc in
        λ i. fire (firing_code.inj f g p i)
    statement_apart (fire f) (assign p t) e = other 3 0 _ _ refl e
    statement_apart (fire f) (branch xs ss) e = other 3 1 _ _ refl e
    statement_apart (fire f) (loop t ss) e = other 3 2 _ _ refl e
    statement_apart (fire f) (choosing g) e = other 3 4 _ _ refl e
    statement_apart (choosing f) (choosing g) e =
        let p : choice_code.code f ≡ choice_code.code g = cc in
        λ i. choosing (choice_code.inj f g p i)
    statement_apart (choosing f) (assign p t) e = other 4 0 _ _ refl e
    statement_apart (choosing f) (branch xs ss) e = other 4 1 _ _ refl e
    statement_apart (choosing f) (loop t ss) e = other 4 2 _ _ refl e
    statement_apart (choosing f) (fire g) e = other 4 3 _ _ refl e
    statement_apart a b e = absurd (cc)

    statements_apart : (ss ts : PlainStatements N C D) → statements_stored ss ≡ statements_stored ts → ss ≡ ts
    statements_apart no_statements no_statements e = refl
    statements_apart (statement s ss) (statement t ts) e =
        let p : statement_stored s ≡ statement_stored t = cc in
        let q : statements_stored ss ≡ statements_stored ts = cc in
        λ i. statement (statement_apart s t p i) (statements_apart ss ts q i)
    statements_apart ss ts e = absurd (cc)

    arms_apart : (xs ys : PlainArms N C D) → arms_stored xs ≡ arms_stored ys → xs ≡ ys
    arms_apart no_arms no_arms e = refl
    arms_apart (arm t ss xs) (arm u ts ys) e =
        let p : term_code.code t ≡ term_code.code u = cc in
        let q : statements_stored ss ≡ statements_stored ts = cc in
        let r : arms_stored xs ≡ arms_stored ys = cc in
        λ i. arm (term_code.inj t u p i) (statements_apart ss ts q i) (arms_apart xs ys r i)
    arms_apart xs ys e = absurd (cc)

  -- the code by which a proof tells statements apart
  abbrev pub statement_code : Coded (PlainStatement N C D)
  statement_code = record { code = statement_stored; inj = statement_apart }
