-- Module indices, read from the front.
use Rattle.std.proofs.Common.{◌≡◌, ℕ, ◌+◌, ◌<◌, Bool, true, false, cond, List, length, drop, get_or, refl}
use Rattle.std.specs.Prelude.{Option, Some, None}
use Rattle.std.specs.Option.{option_or}
use Rattle.std.proofs.lemmas.List.{at_drop_more}
use Rattle.pdb_types.specs.ModuleNames.{last_position_from}

-- what is found here comes after what is found behind it, and before what was known
pub option_or-here : (behind known : Option ℕ) (found : Bool) (here : ℕ)
    → option_or behind (cond found (Some here) known) ≡ option_or (option_or behind (cond found (Some here) None)) known
option_or-here (Some module_index) known found here = refl
option_or-here None known true here = refl
option_or-here None known false here = refl

-- a module index that passes is known from here on, unless one behind it passes too
pub last_position-more : {A : Type 0} (test : A → Bool) (known : Option ℕ) (xs : List A) (i : ℕ) (x : A)
    → i < length xs → x ≡ get_or xs i x
    → option_or (last_position_from (i + 1) test (drop (i + 1) xs)) (cond (test x) (Some i) known) ≡ option_or
    (last_position_from i test (drop i xs)) known
last_position-more test known xs i x within is =
    rw (at_drop_more (λ ys. option_or (last_position_from i test ys) known) xs i x within, ← is)
    (option_or-here (last_position_from (i + 1) test (drop (i + 1) xs)) known (test x) i)
