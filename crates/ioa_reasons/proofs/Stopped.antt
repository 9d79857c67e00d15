-- What a statement that stops reads.
use Rattle.std.proofs.Common.{◌≡◌, ℕ, true, List, ◌∷◌, ◌++◌, Ok, refl, sym, ap, ◌∙◌, suc, length, map}
use Rattle.ioa_values.specs.Data.{Data}
use Rattle.ioa_operators.specs.Shapes.{has_shape}
use Rattle.ioa_operators.specs.declared.shape.Shape.{Shape}
use Rattle.ioa_terms.specs.Bindings.{Bindings, environment}
use Rattle.ioa_terms.specs.Inboxes.{lent_values}
use Rattle.ioa_terms.specs.Meaning.{answer}
use Rattle.ioa_terms.specs.Performance.{with_chosen}
use Rattle.ioa_terms.specs.PlainTerm.{PlainChoice}
use Rattle.ioa_terms.specs.Views.{IsNamed, all_names, environment_of, names_in_view}
use Rattle.ioa_terms.specs.declared.callee.Callee.{Callee}
use Rattle.ioa_terms.specs.declared.environment.View.{View}
use Rattle.ioa_terms.specs.declared.name.Name.TheVariants.{Word}
use Rattle.ioa_reasons.specs.PlainReasons.{PlainFault, PlainStatementPlace, allowed}
use Rattle.ioa_reasons.specs.Stopping.{IsReadAt, StopsAt, StopsBehind}

-- a statement whose terms read what is there
pub stops_there : (place : PlainStatementPlace) (e : Bindings) (f : PlainFault) → IsReadAt place e e → StopsBehind place e f → StopsAt place e f
stops_there place e f there h = record { read = e; there = there; stops = h }

-- a choice whose condition reads what it yields
pub stops_behind : (c : PlainChoice ℕ Callee Shape) (e : Bindings) (v : Data) (f : PlainFault) → answer c.yields e ≡ Ok v → has_shape c.shape v ≡ true →
    StopsBehind (allowed c) (with_chosen c.name v e) f → StopsAt (allowed c) e f
stops_behind c e v f yielded fits h = record { read = with_chosen c.name v e; there = record { value = v; yielded = yielded; fits = fits; behind = refl }; stops = h }

-- what is seen where one more value stands in front
module _ (v w : View) (x : List ℕ) (d : Data) (ds : List Data) (names : all_names w ≡ Word x ∷ all_names v) (lent : w.lent ≡ v.lent) (constants : w.constants.now ≡ v.constants.now) where
  pub seen_behind : environment_of w (d ∷ ds) ≡ with_chosen x d (environment_of v ds)
  seen_behind = λ i. environment (names i) (d ∷ (ds ++ lent_values (lent i))) (constants i)

  pub named_behind : IsNamed v ds → IsNamed w (d ∷ ds)
  named_behind named = ap length names ∙ (ap suc named ∙ sym (λ i. length (d ∷ (ds ++ lent_values (lent i)))))

  pub names_behind : names_in_view w ≡ Word x ∷ names_in_view v
  names_behind = λ i. names i ++ map Word (constants i)
