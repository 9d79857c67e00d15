-- What the steps of a queue hand out.
use Rattle.std.proofs.Common.{◌≡◌, ℕ, suc, ◌+◌, Bool, true, false, List, [], ◌∷◌, ◌++◌, map, refl, sym, ap, ◌∙◌}
use Rattle.std.proofs.Common.{append_assoc, append-nil, arith, if◌then◌else◌}
use Rattle.ioa_values.specs.Data.{Data}
use Rattle.ioa_channels.specs.declared.queue.Item.{Item}
use Rattle.ioa_channels.specs.declared.queue.Item.TheVariants.{Message}
use Rattle.ioa_actions.specs.declared.component.ChannelKind.{ChannelKind}
use Rattle.ioa_actions.specs.declared.component.ChannelKind.TheVariants.{Ordered, Unordered}
use Rattle.ioa_channels.specs.Queues.{same_item}
use Rattle.ioa_channels.specs.QueueSteps.{ComesOut, TakesOut}
use Rattle.ioa_channels.specs.HandedOut.{number_of, IsHandedOut}

number_append : (y : Item) (xs zs : List Item) → number_of y (xs ++ zs) ≡ number_of y xs + number_of y zs
number_append y [] zs = omega arith
number_append y (x ∷ xs) zs = by_test (same_item y x) (number_append y xs zs)
  where
    by_test : (t : Bool) → number_of y (xs ++ zs) ≡ number_of y xs + number_of y zs →
        (if t then suc (number_of y (xs ++ zs)) else number_of y (xs ++ zs))
        ≡ (if t then suc (number_of y xs) else number_of y xs) + number_of y zs
    by_test true e = omega (arith, e)
    by_test false e = e

swapped : (s t : Bool) (n m : ℕ) → m ≡ (if t then suc n else n) →
    (if s then suc m else m) ≡ (if t then suc (if s then suc n else n) else (if s then suc n else n))
swapped true true n m e = ap suc e
swapped true false n m e = ap suc e
swapped false true n m e = e
swapped false false n m e = e

number_middle : (y x : Item) (before behind : List Item) →
    number_of y (before ++ x ∷ behind) ≡ number_of y (x ∷ (before ++ behind))
number_middle y x [] behind = refl
number_middle y x (b ∷ before) behind =
    swapped (same_item y b) (same_item y x) (number_of y (before ++ behind)) (number_of y (before ++ x ∷ behind))
    (number_middle y x before behind)

taken_number : (x : Item) (q r : List Item) → TakesOut x q r → (y : Item) → number_of y q ≡ number_of y (x ∷ r)
taken_number x q r t y = rw (t.whole, t.rest) (number_middle y x t.before t.behind)

one_more : (y x : Item) (xs zs : List Item) → number_of y xs ≡ number_of y zs →
    number_of y (x ∷ xs) ≡ number_of y (x ∷ zs)
one_more y x xs zs e = ap (λ (n : ℕ). if same_item y x then suc n else n) e

-- nothing is handed out yet
pub nothing_yet : (o : ChannelKind) (items : List Item) → IsHandedOut o items [] [] items
nothing_yet Ordered items = append-nil items
nothing_yet Unordered items = λ y. ap (number_of y) (append-nil items)

-- a receive, before what comes later
pub receive_step : (o : ChannelKind) (m : Data) (q r : List Item) (sent received : List Data) (left : List Item) →
    ComesOut (Message m) o q r → IsHandedOut o r sent received left → IsHandedOut o q sent (m ∷ received) left
receive_step Ordered m q r sent received left e h = rw e (ap (λ (xs : List Item). Message m ∷ xs) h)
receive_step Unordered m q r sent received left t h = λ y.
    number_append y q (map Message sent)
    ∙ ap (λ (n : ℕ). n + number_of y (map Message sent)) (taken_number (Message m) q r t y)
    ∙ sym (number_append y (Message m ∷ r) (map Message sent))
    ∙ one_more y (Message m) (r ++ map Message sent) (map Message received ++ left) (h y)

-- a send, before what comes later
pub send_step : (o : ChannelKind) (m : Data) (q : List Item) (sent received : List Data) (left : List Item) →
    IsHandedOut o (q ++ Message m ∷ []) sent received left → IsHandedOut o q (m ∷ sent) received left
send_step Ordered m q sent received left h = sym (append_assoc q (Message m ∷ []) (map Message sent)) ∙ h
send_step Unordered m q sent received left h = λ y.
    ap (number_of y) (sym (append_assoc q (Message m ∷ []) (map Message sent))) ∙ h y

-- an unordered queue that was empty has handed out no message more often than it was put in
pub no_more_often : (m : Data) (sent received : List Data) (left : List Item) →
    IsHandedOut Unordered [] sent received left →
    number_of (Message m) (map Message received) + number_of (Message m) left ≡ number_of (Message m) (map Message sent)
no_more_often m sent received left h = sym (number_append (Message m) (map Message received) left) ∙ sym (h (Message m))
