-- Sets of parts that failed, of any sort of parts.
use Rattle.std.specs.Prelude.{Bool, List, Option, Some, None, if◌then◌else◌}
use Rattle.std.specs.declared.cmp.Ordering.{Ordering}
use Rattle.std.specs.List.{list_any}
use Rattle.std.specs.Ordering.{is_eq}
use Rattle.std.specs.BTreeSet.{insert_key}

module _ {P : Type 0} (cmp : P → P → Ordering) where
  -- a part is among those that failed
  abbrev pub has_part : List P → P → Bool
  has_part failed part = list_any (λ other. is_eq (cmp part other)) failed

  -- these parts, and one more
  abbrev pub add_part : List P → P → List P
  add_part failed part = insert_key cmp failed part

  -- these parts, and the one that was found broken, if any
  abbrev pub add_met : List P → Option P → List P
  add_met failed None = failed
  add_met failed (Some part) = add_part failed part

  -- the error for a broken part: that it failed before, if it did, otherwise its own error
  abbrev pub error_of_part : {E : Type 0} → (P → E) → List P → P → E → E
  error_of_part unsuccessful failed part e = if has_part failed part then unsuccessful part else e
