-- A trace has the external actions, and each exactly where the schedule has it.
use Rattle.std.proofs.Common.{◌≡◌, ◌<◌, ℕ, zero, suc, Bool, true, false, not, true≢false, cond, filter, List, [], ◌∷◌, ◌++◌, Some, length, inl, inr, refl, sym, ap, subst, ◌∙◌, arith}
use Rattle.std.specs.List.{Contains, slice_index_or}
use Rattle.std.specs.Prelude.{◌⊎◌, ◌↔◌}
use Rattle.std.proofs.lemmas.List.Elements.{filter-append}
use Rattle.ioa_actions.specs.declared.action.Action.{Action}
use Rattle.ioa_actions.specs.declared.action.Action.TheVariants.{Local, Receive, Send, Stimulus}
use Rattle.ioa_actions.specs.declared.action.NodeAction.{NodeAction}
use Rattle.ioa_terms.specs.declared.tree.Kind.{Kind}
use Rattle.ioa_terms.specs.declared.tree.Kind.TheVariants.{Input, Internal, Output}
use Rattle.ioa_system.specs.Systems.{SystemParts, program_numbered}
use Rattle.ioa_transitions.specs.Entries.{PlainEntry}
use Rattle.ioa_monitor.specs.Traces.{has_internal, is_internal, is_internal_kind, trace_of}
use Rattle.ioa_report_laws.specs.Signatures.{IsExternal, IsInSignature}

-- one schedule behind another
pub joined_traces : (s : SystemParts) (es fs : List PlainEntry) → trace_of s (es ++ fs) ≡ trace_of s es ++ trace_of s fs
joined_traces s es fs = filter-append (λ e. not (is_internal s e.action)) es fs

-- the kind of an action of a node alone
local_kind : (s : SystemParts) (a : NodeAction) (k : Kind) → IsInSignature s (Local a) k → is_internal s (Local a) ≡ is_internal_kind k
local_kind s a k h = rw (h.placed, h.found, h.kind) refl

external_kind : (k : Kind) → IsExternal k → is_internal_kind k ≡ false
external_kind Input h = refl
external_kind Output h = refl
external_kind Internal (inl h) = absurd (cc)
external_kind Internal (inr h) = absurd (cc)

kind_external : (k : Kind) → is_internal_kind k ≡ false → IsExternal k
kind_external Input h = inl refl
kind_external Output h = inr refl
kind_external Internal h = absurd (true≢false h)

-- an action is internal exactly if its kind is
pub is_external : (s : SystemParts) (a : Action) (k : Kind) → IsInSignature s a k → IsExternal k → is_internal s a ≡ false
is_external s (Send m i j) k h external = refl
is_external s (Receive m i j) k h external = refl
is_external s (Stimulus a) k h external = refl
is_external s (Local a) k h external = local_kind s a k h ∙ external_kind k external

pub external_is : (s : SystemParts) (a : Action) (k : Kind) → IsInSignature s a k → is_internal s a ≡ false → IsExternal k
external_is s (Send m i j) k h is = inr h.of_kind
external_is s (Receive m i j) k h is = inl h.of_kind
external_is s (Stimulus a) k h is = inl h.of_kind.0
external_is s (Local a) k h is = kind_external k (sym (local_kind s a k h) ∙ is)

-- the trace of one entry
pub external_trace : (s : SystemParts) (e : PlainEntry) (k : Kind) → IsInSignature s e.action k → IsExternal k → trace_of s (e ∷ []) ≡ e ∷ []
external_trace s e k h external = rw (is_external s e.action k h external) refl

not_external : IsExternal Internal → ⊥
not_external (inl h) = cc
not_external (inr h) = cc

pub internal_trace : (s : SystemParts) (e : PlainEntry) → IsInSignature s e.action Internal → trace_of s (e ∷ []) ≡ []
internal_trace s e h = by_test (is_internal s e.action) refl
  where
    by_test : (b : Bool) → is_internal s e.action ≡ b → trace_of s (e ∷ []) ≡ []
    by_test true is = rw is refl
    by_test false is = absurd (not_external (external_is s e.action Internal h is))

-- what a test keeps of a list
module _ {A : Type 0} (p : A → Bool) where
  behind : (y : A) (ys : List A) (x : A) → Contains ys x → Contains (y ∷ ys) x
  behind y ys x c = (suc c.0, omega (arith, c.1), c.2)

  in_front : (y : A) (ys : List A) (x : A) → y ≡ x → Contains (y ∷ ys) x
  in_front y ys x same = (zero, omega arith, same)

  first_or_behind : (P : Type 0) (y : A) (ys : List A) (x : A) (k : ℕ) → k < length (y ∷ ys) → slice_index_or (y ∷ ys) k x ≡ x → (y ≡ x → P) → (Contains ys x → P) → P
  first_or_behind P y ys x zero less same first other = first same
  first_or_behind P y ys x (suc k) less same first other = other (k, omega (arith, less), same)

  pub kept_contains : (xs : List A) (x : A) → Contains (filter p xs) x → Contains xs x × (p x ≡ true)
  kept_contains [] x c = absurd (omega (arith, c.1))
  kept_contains (y ∷ ys) x c = by_test (p y) refl c (kept_contains ys x)
    where
      one_more : Contains ys x × (p x ≡ true) → Contains (y ∷ ys) x × (p x ≡ true)
      one_more more = (behind y ys x more.0, more.1)

      by_test : (b : Bool) → p y ≡ b → Contains (cond b (y ∷ filter p ys) (filter p ys)) x → (Contains (filter p ys) x → Contains ys x × (p x ≡ true)) → Contains (y ∷ ys) x × (p x ≡ true)
      by_test true e d further =
          first_or_behind (Contains (y ∷ ys) x × (p x ≡ true)) y (filter p ys) x d.0 d.1 d.2
          (λ same. (in_front y ys x same, subst (λ (z : A). p z ≡ true) same e)) (λ inside. one_more (further inside))
      by_test false e d further = one_more (further d)

  pub contains_kept : (xs : List A) (x : A) → Contains xs x → p x ≡ true → Contains (filter p xs) x
  contains_kept [] x c e = absurd (omega (arith, c.1))
  contains_kept (y ∷ ys) x c e = first_or_behind (Contains (filter p (y ∷ ys)) x) y ys x c.0 c.1 c.2 first (λ inside. later (p y) (contains_kept ys x inside e))
    where
      first : y ≡ x → Contains (filter p (y ∷ ys)) x
      first same = let passes : p y ≡ true = subst (λ (z : A). p z ≡ true) (sym same) e in rw passes (in_front y (filter p ys) x same)

      later : (b : Bool) → Contains (filter p ys) x → Contains (cond b (y ∷ filter p ys) (filter p ys)) x
      later true inside = behind y (filter p ys) x inside
      later false inside = inside

-- the entries of a trace
not_true : (b : Bool) → b ≡ false → not b ≡ true
not_true true e = absurd (true≢false e)
not_true false e = refl

true_not : (b : Bool) → not b ≡ true → b ≡ false
true_not true e = absurd (true≢false (sym e))
true_not false e = refl

pub trace_members : (s : SystemParts) (es : List PlainEntry) (e : PlainEntry) (k : Kind) → IsInSignature s e.action k → Contains (trace_of s es) e ↔ (Contains es e × IsExternal k)
trace_members s es e k h = (
  λ inside.
      let both = kept_contains (λ (f : PlainEntry). not (is_internal s f.action)) es e inside in
      (both.0, external_is s e.action k h (true_not (is_internal s e.action) both.1)),
  λ both. contains_kept (λ (f : PlainEntry). not (is_internal s f.action)) es e both.0 (not_true (is_internal s e.action) (is_external s e.action k h both.1)),
)
