-- The test of whether two configurations are the same.
use Rattle.std.proofs.Common.{◌≡◌, Bool, true, false, refl, sym}
use Rattle.std.specs.Prelude.{IsTrue, ◌↔◌}
use Rattle.ioa_compose.specs.SameConfs.{same_conf}
use Rattle.ioa_compose.specs.declared.configuration.Conf.{Conf}
use Rattle.ioa_compose.proofs.SameConfs.{same_conf_is}

-- a test of whether two configurations are the same is that test
pub same_by : (b : Bool) (c d : Conf) → IsTrue b ↔ (c ≡ d) → b ≡ same_conf c d
same_by true c d h = sym ((same_conf_is c d).1 (h.0 refl))
same_by false c d h = by_test (same_conf c d) refl
  where
    by_test : (b : Bool) → same_conf c d ≡ b → false ≡ b
    by_test true e = let bad : false ≡ true = h.1 ((same_conf_is c d).0 e) in absurd (cc)
    by_test false e = refl
