-- The inlined calls of a function, by their levels.
use Rattle.std.specs.Prelude.{ℕ, List, [], ◌∷◌, Option, Some, None, option_and_then, slice_get, IfSome}
use Rattle.pdb_breakpad.specs.declared.address_spans.Span.{Span}
use Rattle.pdb_breakpad.specs.declared.inline_records.InlinedCall.{InlinedCall}
use Rattle.pdb_breakpad.specs.AddressSpans.{EndBefore, content_at, content_before}

-- the inlined call of a level at an address; the level is the number of calls outside of it
abbrev pub call_at : ℕ → List (List (Span InlinedCall)) → ℕ → Option InlinedCall
call_at address levels level = option_and_then (content_at address) (slice_get levels level)

-- the inlined call of a level just before an address
abbrev pub call_before : ℕ → List (List (Span InlinedCall)) → ℕ → Option InlinedCall
call_before address levels level = option_and_then (content_before address) (slice_get levels level)

-- all calls of a level end before an address
abbrev pub LevelEndsBefore : ℕ → List (List (Span InlinedCall)) → ℕ → Type 0
LevelEndsBefore address levels level = IfSome (slice_get levels level) (EndBefore address)

-- a call with the calls inside it, or no calls if there is no outer one
abbrev pub with_inner : Option InlinedCall → List InlinedCall → List InlinedCall
with_inner None inner = []
with_inner (Some call) inner = call ∷ inner

-- the inlined calls at an address, from outside to inside, up to the first level without one
abbrev pub calls_at : ℕ → List (List (Span InlinedCall)) → List InlinedCall
calls_at address [] = []
calls_at address (level ∷ levels) = with_inner (content_at address level) (calls_at address levels)
