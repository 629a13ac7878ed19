-- Tables of which range is picked at each depth.
use Rattle.std.proofs.Common.{◌≡◌, ◌∙◌, ℕ, zero, suc, ◌+◌, ◌<◌, ◌≤◌, cond, List, [], ◌∷◌, ◌++◌, drop}
use Rattle.std.proofs.Common.{add-zero, map, length, get_or, Option, Some, None, refl, ap, arith}
use Rattle.std.specs.Prelude.{◌==◌, option_map, slice_set}
use Rattle.std.proofs.lemmas.List.{drop_more}
use Rattle.std.specs.Global.{Vec}
use Rattle.std.proofs.lemmas.Bool.Decides.{nat_tests}
use Rattle.pdb_tables.specs.declared.segment.Segment.{Segment}
use Rattle.pdb_tables.specs.Last.{last_over}
use Rattle.pdb_tables.specs.Segments.{painted_in_turn}
use Rattle.pdb_tables.proofs.TurnLemmas.{painted_in_turn-push}
use Rattle.pdb_inline.specs.declared.inline_ranges.InlineRange.{InlineRange}
use Rattle.pdb_inline.specs.declared.listed_ranges.ListedRange.{ListedRange}
use Rattle.pdb_inline.specs.InlineStacks.{lies_over}
use Rattle.pdb_inline.specs.ListedRanges.{listed, ranges_by_start, last_position, picked_position}
use Rattle.pdb_inline.specs.DepthTables.{segments_at, picked_positions}
use Rattle.pdb_inline.proofs.LastPickedLemmas.{last_is_picked}

-- one more depth without segments
pub none_at_more : (lists : List (Vec (Segment ℕ))) (list : Vec (Segment ℕ)) → list.items ≡ []
    → ((depth : ℕ) → segments_at lists depth ≡ []) → (depth : ℕ) → segments_at (lists ++ list ∷ []) depth ≡ []
none_at_more [] list empty none zero = empty
none_at_more [] list empty none (suc depth) = refl
none_at_more (first ∷ lists) list empty none zero = none 0
none_at_more (first ∷ lists) list empty none (suc depth) = none_at_more lists list empty (λ d. none (suc d)) depth

-- one more segment at a depth
pub pushed_at : (lists : List (Vec (Segment ℕ))) (depth : ℕ) (got list : Vec (Segment ℕ)) (segment : Segment ℕ)
    (other : ℕ) → depth < length lists → got ≡ get_or lists depth got → list.items ≡ got.items ++ segment ∷ []
    → segments_at (slice_set lists depth list) other
    ≡ cond (other == depth) (segments_at lists other ++ segment ∷ []) (segments_at lists other)
pushed_at [] depth got list segment other within is added = absurd (omega arith)
pushed_at (first ∷ lists) zero got list segment zero within is added = rw (added, is) refl
pushed_at (first ∷ lists) zero got list segment (suc other) within is added = grind (arith, nat_tests)
pushed_at (first ∷ lists) (suc depth) got list segment zero within is added = grind (arith, nat_tests)
pushed_at (first ∷ lists) (suc depth) got list segment (suc other) within is added =
    let rest = pushed_at lists depth got list segment other (omega arith) is added in grind (arith, nat_tests)

-- the position of the last range over a number
last_position_is : (depth x : ℕ) (before : Option ListedRange) (ranges : List ListedRange)
    → last_position depth x (option_map (λ l. l.position) before) ranges ≡ option_map (λ l. l.position)
    (last_over (λ l. lies_over depth x l.range) before ranges)
last_position_is depth x before [] = refl
last_position_is depth x before (r ∷ ranges) =
    let now = cond (lies_over depth x r.range) (Some r) before in
    let same : cond (lies_over depth x r.range) (Some r.position) (option_map (λ l. l.position) before)
    ≡ option_map (λ (l : ListedRange). l.position) now = grind arith in
    ap (λ o. last_position depth x o ranges) same ∙ last_position_is depth x now ranges

-- the last of the ranges by their starts is the one that is picked
pub last_position_is_picked : (depth x : ℕ) (ranges : List InlineRange)
    → last_position depth x None (ranges_by_start ranges) ≡ picked_position ranges x depth
last_position_is_picked depth x ranges =
    last_position_is depth x None (ranges_by_start ranges)
    ∙ ap (λ o. option_map (λ (l : ListedRange). l.position) o)
    (last_is_picked (λ (l : ListedRange). lies_over depth x l.range) (λ l. l.range.start_offset) (listed 0 ranges))

-- lists that give at each depth what is picked there give what is picked at all of them
pub picked_at_all : (ranges : List InlineRange) (x depth : ℕ) (lists : List (Vec (Segment ℕ)))
    → ((k : ℕ) → k < length lists → painted_in_turn (segments_at lists k) None x ≡ picked_position ranges x (depth + k))
    → map (λ list. painted_in_turn list.items None x) lists ≡ picked_positions ranges x (length lists) depth
picked_at_all ranges x depth [] each = refl
picked_at_all ranges x depth (list ∷ lists) each =
    let first = rw (add-zero depth) at (each 0 (omega arith)) in
    let rest = picked_at_all ranges x (depth + 1) lists
    (λ k within. each (suc k) (omega arith) ∙ ap (λ d. picked_position ranges x d) (omega arith)) in
    rw (first, rest) refl

-- a range as a segment of its position
abbrev pub own_segment : ListedRange → Segment ℕ
own_segment l = record { start = l.range.start_offset; end = l.range.end_offset; value = l.position }

-- with one range more, what is held so far has its position if it lies over the number
last_step : (ranges : List ListedRange) (i depth x : ℕ) (d : ListedRange) (old new whole : Option ℕ) → i < length ranges
    → new ≡ cond (lies_over depth x (get_or ranges i d).range) (Some (get_or ranges i d).position) old
    → last_position depth x old (drop i ranges) ≡ whole → last_position depth x new (drop (i + 1) ranges) ≡ whole
last_step ranges i depth x d old new whole within is all = rw is (rw (drop_more ranges i d within) at all)

-- one range more is painted at its depth
pub painted_step : (ranges : List ListedRange) (i depth x : ℕ) (d : ListedRange) (old new : List (Vec (Segment ℕ)))
    (whole : Option ℕ)
    → i < length ranges
    → ((other : ℕ) → segments_at new other ≡ cond (other == (get_or ranges i d).range.call_depth) (segments_at old other
    ++ own_segment (get_or ranges i d) ∷ []) (segments_at old other))
    → last_position depth x (painted_in_turn (segments_at old depth) None x) (drop i ranges) ≡ whole
    → last_position depth x (painted_in_turn (segments_at new depth) None x) (drop (i + 1) ranges) ≡ whole
painted_step ranges i depth x d old new whole within pushed all =
    let is = pushed depth in
    let push = painted_in_turn-push (segments_at old depth) (own_segment (get_or ranges i d)) None x in
    last_step ranges i depth x d (painted_in_turn (segments_at old depth) None x)
    (painted_in_turn (segments_at new depth) None x) whole within (grind (arith, nat_tests)) all

-- one range more is too deep
pub passed_step : (ranges : List ListedRange) (i depth x depths : ℕ) (d : ListedRange) (lists : List (Vec (Segment ℕ)))
    (whole : Option ℕ) → i < length ranges → depths ≤ (get_or ranges i d).range.call_depth → depth < depths
    → last_position depth x (painted_in_turn (segments_at lists depth) None x) (drop i ranges) ≡ whole
    → last_position depth x (painted_in_turn (segments_at lists depth) None x) (drop (i + 1) ranges) ≡ whole
passed_step ranges i depth x depths d lists whole within deep less all =
    let old = painted_in_turn (segments_at lists depth) None x in
    last_step ranges i depth x d old old whole within (grind (arith, nat_tests)) all
