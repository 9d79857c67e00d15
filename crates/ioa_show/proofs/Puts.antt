-- Papers on which some texts are put, one after another.
use Rattle.std.proofs.Common.{◌≡◌, ◌∙◌, ℕ, ◌++◌, List, ap}
use Rattle.ioa_paper.specs.Papers.{PlainPaper, and_text}
use Rattle.ioa_paper.proofs.Papers.{joined}

-- two texts
pub two : (p a new : PlainPaper) (x y : List ℕ) → a ≡ and_text p x → new ≡ and_text a y → new ≡ and_text p (x ++ y)
two p a new x y e f = f ∙ ap (λ (q : PlainPaper). and_text q y) e ∙ joined p x y

-- three texts
pub three : (p a b new : PlainPaper) (x y z : List ℕ) → a ≡ and_text p x → b ≡ and_text a y → new ≡ and_text b z
    → new ≡ and_text p (x ++ (y ++ z))
three p a b new x y z e f g = two p a new x (y ++ z) e (two a b new y z f g)

-- five texts
pub five : (p a b c d new : PlainPaper) (x y z u v : List ℕ) → a ≡ and_text p x → b ≡ and_text a y → c ≡ and_text b z
    → d ≡ and_text c u → new ≡ and_text d v → new ≡ and_text p (x ++ (y ++ (z ++ (u ++ v))))
five p a b c d new x y z u v e f g h i = three p a b new x y (z ++ (u ++ v)) e f (three b c d new z u v g h i)

-- seven texts
pub seven : (p a b c d e f new : PlainPaper) (x y z u v w t : List ℕ) → a ≡ and_text p x → b ≡ and_text a y
    → c ≡ and_text b z → d ≡ and_text c u → e ≡ and_text d v → f ≡ and_text e w → new ≡ and_text f t
    → new ≡ and_text p (x ++ (y ++ (z ++ (u ++ (v ++ (w ++ t))))))
seven p a b c d e f new x y z u v w t g h i j k l m =
    three p a b new x y (z ++ (u ++ (v ++ (w ++ t)))) g h (five b c d e f new z u v w t i j k l m)

-- four texts
pub four : (p a b c new : PlainPaper) (x y z u : List ℕ) → a ≡ and_text p x → b ≡ and_text a y → c ≡ and_text b z
    → new ≡ and_text c u → new ≡ and_text p (x ++ (y ++ (z ++ u)))
four p a b c new x y z u e f g h = two p a new x (y ++ (z ++ u)) e (three a b c new y z u f g h)

-- six texts
pub six : (p a b c d e new : PlainPaper) (x y z u v w : List ℕ) → a ≡ and_text p x → b ≡ and_text a y → c ≡ and_text b z
    → d ≡ and_text c u → e ≡ and_text d v → new ≡ and_text e w
    → new ≡ and_text p (x ++ (y ++ (z ++ (u ++ (v ++ w)))))
six p a b c d e new x y z u v w g h i j k l =
    two p a new x (y ++ (z ++ (u ++ (v ++ w)))) g (five a b c d e new y z u v w h i j k l)
