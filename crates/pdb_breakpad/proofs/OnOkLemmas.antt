-- What holds where a call succeeded.
use Rattle.std.proofs.Common.{Result, Ok, Err}
use Rattle.std.specs.Prelude.{OnOk}

-- what a fact gives, where it holds
pub on_ok : {E : Type 0} {P R : Type 0} (result : Result (Unit {0}) E) → OnOk result P → (P → R) → OnOk result R
on_ok (Ok done) p gives = gives p
on_ok (Err fault) p gives = tt

-- what two facts give, where they hold
pub both_on_ok : {E : Type 0} {P Q R : Type 0} (result : Result (Unit {0}) E) → OnOk result P → OnOk result Q
    → (P → Q → R) → OnOk result R
both_on_ok (Ok done) p q gives = gives p q
both_on_ok (Err fault) p q gives = tt
