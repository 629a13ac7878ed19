-- Maps of values that are made once for each key.
use Rattle.std.specs.Prelude.{◌≡◌, Some}
use Rattle.std.specs.BTreeMap.{BTreeMap, get}
use Rattle.std.specs.declared.cmp.Ordering.{Ordering}

-- each value in a map fits its key
abbrev pub HoldsOfEach : {K X : Type 0} → (K → K → Ordering) → (K → X → Type 0) → BTreeMap K X → Type 0
HoldsOfEach {K} {X} cmp P m = (k : K) (x : X) → get cmp m k ≡ Some x → P k x
