-- What a reader returns if a part of what it reads is not there.
use Rattle.std.proofs.Common.{◌≡◌, ◌⊎◌, inl, inr, Option, None}

-- if the part is not there, nor is the whole
pub none_of_part : {P A B : Type 0} {part : Option A} {whole : Option B} → (part ≡ None → whole ≡ None) → P ⊎ (part ≡ None) → P ⊎ (whole ≡ None)
none_of_part f (inl p) = inl p
none_of_part f (inr n) = inr (f n)
