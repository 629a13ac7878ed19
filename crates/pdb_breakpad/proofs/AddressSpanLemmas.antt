-- What holds at an address, where one span more stands after all others.
use Rattle.std.proofs.Common.{◌≡◌, ◌∙◌, ℕ, ◌<◌, ◌≤◌, false, List, [], ◌∷◌, ◌++◌, refl, sym, ap, subst}
use Rattle.std.proofs.Common.{Some, None, option_and_then, slice_get, length, ◌+◌, ◌-◌, arith}
use Rattle.std.specs.List.{All}
use Rattle.std.specs.Option.{option_or, IsSome, IfSome}
use Rattle.std.proofs.lemmas.Grind.{common_steps}
use Rattle.std.proofs.lemmas.List.Elements.{All-head, All-tail, All-pop, All-nil, All-cons, All-push, All-weaker}
use Rattle.pdb_breakpad.specs.declared.address_spans.Span.{Span}
use Rattle.pdb_breakpad.specs.AddressSpans.{Ascend, EndBefore, is_over, content_at, content_before}
use Rattle.pdb_breakpad.specs.AddressSpans.{ending_before}

-- a span that ends before an address isn't over it
past : {T : Type 0} (address : ℕ) (span : Span T) → span.last < address → is_over address span ≡ false
past address span before = grind (arith, common_steps)

-- a span that begins after an address isn't over it
ahead : {T : Type 0} (address : ℕ) (span : Span T) → address < span.start → is_over address span ≡ false
ahead address span before = grind (arith, common_steps)

-- spans that end before a piece have nothing at its addresses
pub nothing_past : {T : Type 0} (a first : ℕ) (spans : List (Span T)) → first ≤ a
    → All (λ span. span.last < first) spans → content_at a spans ≡ None
nothing_past a first [] from before = refl
nothing_past a first (span ∷ spans) from before =
    let ends : span.last < first = All-head (λ s. s.last < first) span spans before in
    let outermost : is_over a span ≡ false = past a span (omega (arith, ends, from)) in
    let others : content_at a spans ≡ None
    = nothing_past a first spans from (All-tail (λ s. s.last < first) span spans before) in
    grind (arith, common_steps, outermost, others)

-- what holds at an address, where a span stands after all others
pub content_with_last : {T : Type 0} (address : ℕ) (spans : List (Span T)) (span : Span T)
    → content_at address (spans ++ span ∷ []) ≡ option_or (content_at address spans) (content_at address (span ∷ []))
content_with_last address [] span = refl
content_with_last address (first ∷ spans) span =
    let others : content_at address (spans ++ span ∷ [])
    ≡ option_or (content_at address spans) (content_at address (span ∷ [])) = content_with_last address spans span in
    grind (arith, common_steps, others)

-- after all others stands this one
at_end : {T : Type 0} (spans : List (Span T)) (span : Span T)
    → slice_get (spans ++ span ∷ []) (length spans) ≡ Some span
at_end [] span = refl
at_end (first ∷ spans) span = at_end spans span

-- the last of a list is the one that stands after all others
last_of_pushed : {T : Type 0} (spans : List (Span T)) (span : Span T)
    → slice_get (spans ++ span ∷ []) (length (spans ++ span ∷ []) - 1) ≡ Some span
last_of_pushed spans span =
    let count : length (spans ++ span ∷ []) - 1 ≡ length spans = grind (arith, common_steps) in
    ap (slice_get (spans ++ span ∷ [])) count ∙ at_end spans span

-- the last span alone says what holds at the address before
pub before_by_last : {T : Type 0} (address : ℕ) (spans : List (Span T)) (span : Span T)
    → content_before address (spans ++ span ∷ []) ≡ ending_before address span
before_by_last address spans span = ap (option_and_then (ending_before address)) (last_of_pushed spans span)

-- a span that ends at the address before a piece is over the piece once it reaches to its end
reaches : {T : Type 0} (a first last : ℕ) (content : T) (span : Span T) → first ≤ a → a ≤ last
    → span.start ≤ span.last → ending_before first span ≡ Some content
    → content_at a (record span { last = last } ∷ []) ≡ Some content
reaches a first last content span from to some is = grind (arith, common_steps)

-- at lower addresses it holds as before
holds_below : {T : Type 0} (a first last : ℕ) (content : T) (span : Span T) → a < first → first ≤ last
    → ending_before first span ≡ Some content
    → content_at a (record span { last = last } ∷ []) ≡ content_at a (span ∷ [])
holds_below a first last content span below some is = grind (arith, common_steps)

-- a span that is the last and goes on over a piece holds there what it holds
pub goes_on_to : {T : Type 0} (a first last : ℕ) (content : T) (spans : List (Span T)) (span : Span T)
    → first ≤ a → a ≤ last
    → All (λ s. s.last < first) spans → span.start ≤ span.last → ending_before first span ≡ Some content
    → content_at a (spans ++ record span { last = last } ∷ []) ≡ Some content
goes_on_to a first last content spans span from to before some is =
    content_with_last a spans (record span { last = last })
    ∙ ap (λ there. option_or there (content_at a (record span { last = last } ∷ [])))
    (nothing_past a first spans from before) ∙ reaches a first last content span from to some is

-- at lower addresses it stays as it was
pub stays_below : {T : Type 0} (a first last : ℕ) (content : T) (spans : List (Span T)) (span : Span T) → a < first
    → first ≤ last → ending_before first span ≡ Some content
    → content_at a (spans ++ record span { last = last } ∷ []) ≡ content_at a (spans ++ span ∷ [])
stays_below a first last content spans span below some is =
    content_with_last a spans (record span { last = last })
    ∙ ap (option_or (content_at a spans)) (holds_below a first last content span below some is)
    ∙ sym (content_with_last a spans span)

-- a span of a piece after all others holds there
pub begins_at : {T : Type 0} (a first last : ℕ) (spans : List (Span T)) (span : Span T) → first ≤ a → a ≤ last
    → All (λ s. s.last < first) spans → span.start ≡ first → span.last ≡ last
    → content_at a (spans ++ span ∷ []) ≡ Some span.content
begins_at a first last spans span from to before start end =
    let there : content_at a (span ∷ []) ≡ Some span.content = grind (arith, common_steps) in
    content_with_last a spans span
    ∙ ap (λ found. option_or found (content_at a (span ∷ []))) (nothing_past a first spans from before) ∙ there

-- at lower addresses nothing changes by it
pub none_below : {T : Type 0} (a first : ℕ) (spans : List (Span T)) (span : Span T) → a < first
    → span.start ≡ first → content_at a (spans ++ span ∷ []) ≡ content_at a spans
none_below a first spans span below start =
    let nothing : content_at a (span ∷ []) ≡ None = grind (arith, common_steps) in
    let same : option_or (content_at a spans) None ≡ content_at a spans = grind (arith, common_steps) in
    content_with_last a spans span ∙ ap (option_or (content_at a spans)) nothing ∙ same

-- where something holds that ends at the address before one, there is such a span
pub ends_there : {T : Type 0} (address : ℕ) (span : Span T) → IsSome (ending_before address span)
    → ending_before address span ≡ Some span.content
ends_there address span is = grind (arith, common_steps)

-- spans that ascend end no earlier than they begin
pub ascend_each : {T : Type 0} (spans : List (Span T)) → Ascend spans → All (λ s. s.start ≤ s.last) spans
ascend_each [] order = All-nil (λ s. s.start ≤ s.last)
ascend_each (span ∷ spans) order =
    All-cons (λ s. s.start ≤ s.last) span spans order.0 (ascend_each spans order.1.1)

-- those in front of the last one ascend too
ascend_front : {T : Type 0} (spans : List (Span T)) (span : Span T) → Ascend (spans ++ span ∷ []) → Ascend spans
ascend_front [] span order = tt
ascend_front (first ∷ spans) span order = (
  order.0,
  (
    (All-pop (λ s. first.start ≤ s.start) (spans ++ span ∷ []) spans (Some span) refl order.1.0).0,
    ascend_front spans span order.1.1,
  ),
)

-- the last one begins no earlier than the others
ascend_last : {T : Type 0} (spans : List (Span T)) (span : Span T) → Ascend (spans ++ span ∷ [])
    → All (λ s. s.start ≤ span.start) spans × (span.start ≤ span.last)
ascend_last [] span order = (All-nil (λ s. s.start ≤ span.start), order.0)
ascend_last (first ∷ spans) span order =
    let rest = ascend_last spans span order.1.1 in
    let begins = All-pop (λ s. first.start ≤ s.start) (spans ++ span ∷ []) spans (Some span) refl order.1.0 in
    (All-cons (λ s. s.start ≤ span.start) first spans begins.1 rest.0, rest.1)

-- spans after which one stands that begins no earlier ascend
ascend_pushed : {T : Type 0} (spans : List (Span T)) (span : Span T) → Ascend spans
    → All (λ s. s.start ≤ span.start) spans → span.start ≤ span.last → Ascend (spans ++ span ∷ [])
ascend_pushed [] span order begin some = (some, (All-nil (λ s. span.start ≤ s.start), tt))
ascend_pushed (first ∷ spans) span order begin some = (
  order.0,
  (
    All-push (λ s. first.start ≤ s.start) spans span order.1.0
        (All-head (λ s. s.start ≤ span.start) first spans begin),
    ascend_pushed spans span order.1.1 (All-tail (λ s. s.start ≤ span.start) first spans begin) some,
  ),
)

-- spans that end before an address begin before it
begin_before : {T : Type 0} (first : ℕ) (spans : List (Span T)) → Ascend spans → EndBefore first spans
    → All (λ s. s.start ≤ first) spans
begin_before first [] order ends = All-nil (λ s. s.start ≤ first)
begin_before first (span ∷ spans) order ends =
    All-cons (λ s. s.start ≤ first) span spans
    (omega (arith, order.0, All-head (λ s. s.last < first) span spans ends))
    (begin_before first spans order.1.1 (All-tail (λ s. s.last < first) span spans ends))

-- spans end before an address after the one before which they ended, and so does one after them
ends_pushed : {T : Type 0} (first last : ℕ) (spans : List (Span T)) (span : Span T) → first ≤ last
    → EndBefore first spans → span.last ≡ last → EndBefore (last + 1) (spans ++ span ∷ [])
ends_pushed first last spans span some ends is =
    All-push (λ s. s.last < last + 1) spans span
    (All-weaker (λ s. s.last < first) (λ s. s.last < last + 1) (λ s before. omega (arith, before, some)) spans ends)
    (omega (arith, is))

-- where the last of spans goes on over a piece, they end before the address after it
pub ends_lengthened : {T : Type 0} (first last : ℕ) (old spans : List (Span T)) (span : Span T) → first ≤ last
    → old ≡ spans ++ span ∷ [] → EndBefore first old
    → EndBefore (last + 1) (spans ++ record span { last = last } ∷ [])
ends_lengthened first last old spans span some is ends =
    ends_pushed first last spans (record span { last = last }) some
    (All-pop (λ s. s.last < first) old spans (Some span) is ends).0 refl

-- where the last of spans goes on over a piece, they still ascend
pub ascend_lengthened : {T : Type 0} (first last : ℕ) (old spans : List (Span T)) (span : Span T) → first ≤ last
    → old ≡ spans ++ span ∷ [] → EndBefore first old → Ascend old → Ascend (spans ++ record span { last = last } ∷ [])
ascend_lengthened first last old spans span some is ends order =
    let whole : Ascend (spans ++ span ∷ []) = subst Ascend is order in
    let behind = ascend_last spans span whole in
    let before : All (λ s. s.last < first) spans × IfSome (Some span) (λ s. s.last < first)
    = All-pop (λ s. s.last < first) old spans (Some span) is ends in
    ascend_pushed spans (record span { last = last }) (ascend_front spans span whole) behind.0
    (omega (arith, behind.1, before.1, some))

-- so they do where one begins with a piece
pub ascend_begun : {T : Type 0} (old : List (Span T)) (span : Span T) → span.start ≤ span.last
    → EndBefore span.start old → Ascend old → Ascend (old ++ span ∷ [])
ascend_begun old span some ends order = ascend_pushed old span order (begin_before span.start old order ends) some

-- where the last span ends at the address before a piece and goes on over it, what held before it holds there
pub went_on : {T : Type 0} (a first last : ℕ) (old spans : List (Span T)) (span : Span T)
    → first ≤ a → a ≤ last
    → old ≡ spans ++ span ∷ [] → EndBefore first old → Ascend old
    → IsSome (content_before first old)
    → content_at a (spans ++ record span { last = last } ∷ []) ≡ content_before first old
went_on a first last old spans span from to is before order there =
    let outermost : content_before first old ≡ ending_before first span
    = ap (content_before first) is ∙ before_by_last first spans span in
    let found : ending_before first span ≡ Some span.content
    = ends_there first span (subst IsSome outermost there) in
    let front : All (λ s. s.last < first) spans × IfSome (Some span) (λ s. s.last < first)
    = All-pop (λ s. s.last < first) old spans (Some span) is before in
    let whole : All (λ s. s.start ≤ s.last) spans × IfSome (Some span) (λ s. s.start ≤ s.last)
    = All-pop (λ s. s.start ≤ s.last) old spans (Some span) is (ascend_each old order) in
    goes_on_to a first last span.content spans span from to front.0 whole.1 found ∙ sym found ∙ sym outermost

-- what is known of spans of which the last goes on
pub ruleset lengthened = (before_by_last, went_on, stays_below, ends_there)

-- what is known of spans after which one begins
pub ruleset begun = (begins_at, none_below)
