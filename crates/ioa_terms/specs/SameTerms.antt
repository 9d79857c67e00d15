-- Whether two terms, targets, statements or firings are the same (profile), by a test of what is beside names and
-- one of what is beside displays.
use Rattle.std.specs.Prelude.{Bool, true, false, ◌&&◌}
use Rattle.std.specs.Ordering.{int_eq}
use Rattle.std.specs.Option.{option_eq}
use mathlib.Core.Bool.{beq}
use denote.Enum.Bare.{sameb}
use Rattle.ioa_operators.specs.contracts.operator.UnaryOperator as unary
use Rattle.ioa_operators.specs.contracts.operator.BinaryOperator as binary
use Rattle.ioa_operators.specs.contracts.shape.DisplayForm as form
use Rattle.ioa_operators.specs.declared.operator.UnaryOperator.{UnaryOperator}
use Rattle.ioa_operators.specs.declared.operator.BinaryOperator.{BinaryOperator}
use Rattle.ioa_operators.specs.declared.shape.DisplayForm.{DisplayForm}
use Rattle.ioa_terms.specs.contracts.tree.Kind as kind
use Rattle.ioa_terms.specs.declared.tree.Kind.{Kind}
use Rattle.ioa_terms.specs.PlainTerm.{PlainTerm, PlainTerms, PlainTarget, PlainStatement, PlainStatements, PlainArms}
use Rattle.ioa_terms.specs.PlainTerm.{number, truth, name, one, two, call, display, field, no_terms, term, terms_of}
use Rattle.ioa_terms.specs.PlainTerm.{variable, at_key, at_field, assign, branch, loop, fire, choosing, PlainFiring, PlainChoice}
use Rattle.ioa_terms.specs.PlainTerm.{no_statements, statement, no_arms, arm}
use Rattle.ioa_terms.specs.Bindings.{same_word, same_name}
use Rattle.ioa_terms.specs.SameSorts.{same_sort}

abbrev pub same_unary : UnaryOperator → UnaryOperator → Bool
same_unary = sameb unary.the_type

abbrev pub same_binary : BinaryOperator → BinaryOperator → Bool
same_binary = sameb binary.the_type

abbrev pub same_form : DisplayForm → DisplayForm → Bool
same_form = sameb form.the_type

abbrev pub same_kind : Kind → Kind → Bool
same_kind = sameb kind.the_type

module _ {N C D : Type 0} (n : N → N → Bool) (c : C → C → Bool) (d : D → D → Bool) where
  -- two terms are the same if they are of one kind and have the same parts
  abbrev mutual
    pub same_term : PlainTerm N C D → PlainTerm N C D → Bool
    same_term (number y) (number z) = int_eq y z
    same_term (truth a) (truth b) = beq a b
    same_term (name w x) (name v y) = same_name w v && n x y
    same_term (one op a) (one oq b) = same_unary op oq && same_term a b
    same_term (two op a b) (two oq f g) = same_binary op oq && (same_term a f && same_term b g)
    same_term (call w x ts) (call v y us) = same_word w v && (c x y && same_terms ts us)
    same_term (display f s ts) (display g t us) = same_form f g && (d s t && same_terms ts us)
    same_term (field a w s) (field b v t) = same_term a b && (same_word w v && d s t)
    same_term a b = false

    pub same_terms : PlainTerms N C D → PlainTerms N C D → Bool
    same_terms no_terms no_terms = true
    same_terms (term t ts) (term u us) = same_term t u && same_terms ts us
    same_terms ts us = false

  -- so are two targets
  abbrev pub same_target : PlainTarget N C D → PlainTarget N C D → Bool
  same_target (variable w x s) (variable v y t) = same_word w v && (n x y && d s t)
  same_target (at_key w x s a) (at_key v y t b) = same_word w v && (n x y && (d s t && same_term a b))
  same_target (at_field w x s f) (at_field v y t g) = same_word w v && (n x y && (d s t && same_word f g))
  same_target a b = false

  -- and two firings
  abbrev pub same_firing : PlainFiring N C D → PlainFiring N C D → Bool
  same_firing a b =
      option_eq same_kind a.kind b.kind
      && (same_word a.action b.action
      && (n a.rule b.rule && same_terms (terms_of a.arguments) (terms_of b.arguments)))

  -- and two choices
  abbrev pub same_choice : PlainChoice N C D → PlainChoice N C D → Bool
  same_choice a b =
      same_target a.target b.target
      && (same_word a.name b.name
      && (same_sort a.sort b.sort
      && (d a.shape b.shape && (same_term a.condition b.condition && same_term a.yields b.yields))))

  -- and two statements
  abbrev mutual
    pub same_statement : PlainStatement N C D → PlainStatement N C D → Bool
    same_statement (assign p t) (assign q u) = same_target p q && same_term t u
    same_statement (branch xs ss) (branch ys ts) = same_arms xs ys && same_statements ss ts
    same_statement (loop t ss) (loop u ts) = same_term t u && same_statements ss ts
    same_statement (fire f) (fire g) = same_firing f g
    same_statement (choosing a) (choosing b) = same_choice a b
    same_statement a b = false

    pub same_statements : PlainStatements N C D → PlainStatements N C D → Bool
    same_statements no_statements no_statements = true
    same_statements (statement s ss) (statement t ts) = same_statement s t && same_statements ss ts
    same_statements ss ts = false

    pub same_arms : PlainArms N C D → PlainArms N C D → Bool
    same_arms no_arms no_arms = true
    same_arms (arm t ss xs) (arm u ts ys) = (same_term t u && same_statements ss ts) && same_arms xs ys
    same_arms xs ys = false
