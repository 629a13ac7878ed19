-- What holds of a stream that a source says.
use Rattle.std.proofs.Common.{◌≡◌, Option, Some, None, IfSome, Result, Ok, Err, refl, subst}
use Rattle.std.specs.Result.{OnOk}

-- what holds of whatever is said
pub where_said : {A : Type 0} (said : Option A) (holds : A → Type 0)
    → ((value : A) → said ≡ Some value → holds value) → IfSome said holds
where_said None holds each = tt
where_said (Some value) holds each = each value refl

-- what holds of what is said, where this is said
pub of_said : {A : Type 0} (said : Option A) (holds : A → Type 0) (value : A) → said ≡ Some value
    → IfSome said holds → holds value
of_said None holds value is held = cc
of_said (Some other) holds value is held = let same : other ≡ value = cc in subst holds same held

-- what follows after a call that succeeds
pub on_ok : {T E : Type 0} (result : Result T E) (one other : Type 0) → (one → other) → OnOk result one
    → OnOk result other
on_ok (Ok value) one other then is = then is
on_ok (Err error) one other then is = is
