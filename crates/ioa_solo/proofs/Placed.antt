-- What comes of a look that is put into its place.
use Rattle.std.proofs.Common.{◌≡◌, ◌⊎◌, ℤ, true, false, Option, Some, Result, Ok, Err, refl, sym, ap, subst, ◌∙◌}
use Rattle.std.specs.Prelude.{IfErr, IfSome, OnOk, is_some}
use Rattle.ioa_actions.specs.declared.component.Component.TheVariants as component
use Rattle.ioa_boards.specs.Places.{Puts, PutsSome}
use Rattle.ioa_book.specs.Looks.{PlainSnapshot, snapshot_after}
use Rattle.ioa_commits.specs.Books.{PlainBook, held_of}
use Rattle.ioa_passes.specs.Passes.{PlainPass, risen_by_look}
use Rattle.ioa_passes.specs.declared.outcome.ViewFault.{ViewFault}
use Rattle.ioa_passes.specs.declared.outcome.ViewFault.TheVariants as view
use Rattle.ioa_system.specs.Systems.{SystemParts}
use Rattle.ioa_solo.specs.Told.{IsUpTo}
use Rattle.ioa_solo.proofs.UpTo.{not_seen, seen_first, shown}

pub put_there : {U : Type 0} (s : SystemParts) (p : PlainPass) (n : ℤ) (place : Option PlainSnapshot) (q : PlainPass) (r : Result U ViewFault) → PutsSome s p n place q r → OnOk r (is_some place ≡ true)
put_there s p n place q (Ok u) h = rw h.put refl
put_there s p n place q (Err f) h = tt

pub put_own : {U : Type 0} (s : SystemParts) (p : PlainPass) (n : ℤ) (place : Option PlainSnapshot) (q : PlainPass) (r : Result U ViewFault) → PutsSome s p n place q r → OnOk r (IfSome place (λ l. l.node ≡ n))
put_own s p n place q (Ok u) h =
    subst (λ (o : Option PlainSnapshot). IfSome o (λ l. l.node ≡ n)) (sym h.put)
    (ap (λ (l : PlainSnapshot). l.node) (shown h.some.found n p h.seen h.some.look))
put_own s p n place q (Err f) h = tt

pub put_seen : {U : Type 0} (b : PlainBook) (p : PlainPass) (n : ℤ) (place : Option PlainSnapshot) (r : Result U ViewFault) → Puts b p n place r → OnOk r (place ≡ Some (snapshot_after n b.start b.log))
put_seen b p n place (Ok u) h = h.put ∙ ap (λ (s : PlainSnapshot). Some s) (shown b n p h.seen h.answer)
put_seen b p n place (Err f) h = tt

pub put_fault : {U : Type 0} (b : PlainBook) (p : PlainPass) (n : ℤ) (place : Option PlainSnapshot) (r : Result U ViewFault) → IsUpTo b p → Puts b p n place r →
    IfErr r (λ f. (f ≡ view.Memory) ⊎ ((f ≡ view.Unknown) × (is_some (held_of b (component.Node n)) ≡ false)))
put_fault b p n place (Ok u) up h = tt
put_fault b p n place (Err f) up h = not_seen b n p f up h

pub put_upto : {U : Type 0} (s : SystemParts) (b : PlainBook) (p q : PlainPass) (n : ℤ) (place : Option PlainSnapshot) (r : Result U ViewFault) → IsUpTo b p → Puts b p n place r → PutsSome s p n place q r → IsUpTo b q
put_upto s b p q n place (Ok u) up h some =
    let same : Some some.seen ≡ Some h.seen = sym some.put ∙ h.put in
    let one : some.seen ≡ h.seen = cc in
    seen_first b n p q h.seen up h.answer (some.risen ∙ ap (λ (s : PlainSnapshot). risen_by_look s p) one)
put_upto s b p q n place (Err f) up h some = subst (λ (x : PlainPass). IsUpTo b x) (sym some.1) up
