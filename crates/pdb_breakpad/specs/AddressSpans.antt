-- The content of the span that covers an address.
use Rattle.std.specs.Prelude.{ℕ, ◌+◌, ◌<◌, ◌≤◌, ◌==◌, nat_lt, ◌&&◌, not, Bool, List, [], ◌∷◌}
use Rattle.std.specs.Prelude.{Option, Some, None}
use Rattle.std.specs.Prelude.{option_map, option_and_then, find, slice_get, length, ◌-◌, if◌then◌else◌}
use Rattle.std.specs.List.{All}
use Rattle.pdb_breakpad.specs.declared.address_spans.Span.{Span}

-- whether a span covers an address
abbrev pub is_over : {T : Type 0} → ℕ → Span T → Bool
is_over address span = not (nat_lt address span.start) && not (nat_lt span.last address)

-- the content at an address: that of the first span that covers it
abbrev pub content_at : {T : Type 0} → ℕ → List (Span T) → Option T
content_at address spans = option_map (λ span. span.content) (find (is_over address) spans)

-- all spans end before an address
abbrev pub EndBefore : {T : Type 0} → ℕ → List (Span T) → Type 0
EndBefore address spans = All (λ span. span.last < address) spans

-- the content of a span that ends just before this address
abbrev pub ending_before : {T : Type 0} → ℕ → Span T → Option T
ending_before address span = if span.last + 1 == address then Some span.content else None

-- the content of the last span, if it ends just before this address
abbrev pub content_before : {T : Type 0} → ℕ → List (Span T) → Option T
content_before address spans = option_and_then (ending_before address) (slice_get spans (length spans - 1))

-- spans are sorted by start, and none ends before it begins
abbrev pub Ascend : {T : Type 0} → List (Span T) → Type 0
Ascend [] = Unit {0}
Ascend (span ∷ spans) =
    (span.start ≤ span.last) × (All (λ later. span.start ≤ later.start) spans × Ascend spans)
