-- Each look halves the window, and what stands next to it stands next to the key in the end.
use Rattle.std.proofs.Common.{◌≡◌, ◌∙◌, ◌+◌, ◌-◌, ◌/◌, true, false, None, sym, ap, arith}
use Rattle.std.specs.Prelude.{slice_get}
use Rattle.std.specs.List.{position_or_len}
use Rattle.std.specs.Ordering.{is_lt, is_some_and}
use Rattle.std.proofs.Math.Nat.{sub-zero}
use Rattle.std.proofs.lemmas.List.Folds.{find_at}
use Rattle.std.proofs.lemmas.Option.{get_or_from_slice_get}
use Rattle.pdb_tables.specs.Keyed.{is_above}
use Rattle.pdb_tables.proofs.DigitLemmas.{digits_half}
use Rattle.pdb_tables.proofs.KeyedLemmas.{ascend_goes_on}
use Rattle.pdb_tables.specs.Last.{ahead_of}
use Rattle.pdb_tables.proofs.PositionLemmas.{last_ahead, position_past, position_up_to, position_within}
use Rattle.pdb_tables.proofs.search.neighbours_of.Goals as goal

pub loop-from-init : goal.loop-from-init
loop-from-init g c =
    let entries = c.args.entries.now in
    record {
      from_on = omega arith;
      up_to = position_within (is_above g.T.Key.Ord.cmp g.T.Keyed.key_of c.args.key) entries;
      to_end = omega arith;
      no_fewer = omega arith;
      few = rw sub-zero (omega arith);
    }

pub loop-from-preserved-then-lt : goal.loop-from-preserved-then-lt
loop-from-preserved-then-lt g c =
    let entries = c.args.entries.now in
    let above = is_above g.T.Key.Ord.cmp g.T.Keyed.key_of c.args.key in
    let size = c.loop-from.to - c.loop-from.from in
    let middle = c.loop-from.from + size / 2 in
    let fewer = digits_half (middle - c.loop-from.from) size (omega arith) (omega arith) in
    let entry = get_or_from_slice_get entries middle c.look.result.now c.look.result.now c.look.ensures.answer in
    let lower : above c.look.result.now ≡ true =
    sym (c.lt.ensures ∙ ap (is_some_and is_lt) (g.met.T.Key.Ord.matches_partial_cmp _ _)
    ∙ ap (λ k. is_lt (g.T.Key.Ord.cmp c.args.key k)) c.key.ensures) ∙ c.if-lt.true in
    record {
      from_on = c.loop-from.invariant.from_on;
      up_to = position_up_to above entries middle c.look.result.now (ap above entry ∙ lower);
      to_end = omega arith;
      no_fewer = omega (arith, c.look.ensures.no_fewer);
      few = omega (arith, fewer, c.look.ensures.one_more);
    }

pub loop-from-preserved : goal.loop-from-preserved
loop-from-preserved g c =
    let entries = c.args.entries.now in
    let above = is_above g.T.Key.Ord.cmp g.T.Keyed.key_of c.args.key in
    let size = c.loop-from.to - c.loop-from.from in
    let middle = c.loop-from.from + size / 2 in
    let fewer = digits_half (c.loop-from.to - (middle + 1)) size (omega arith) (omega arith) in
    let entry = get_or_from_slice_get entries middle c.look.result.now c.look.result.now c.look.ensures.answer in
    let not_lower : above c.look.result.now ≡ false =
    sym (c.lt.ensures ∙ ap (is_some_and is_lt) (g.met.T.Key.Ord.matches_partial_cmp _ _)
    ∙ ap (λ k. is_lt (g.T.Key.Ord.cmp c.args.key k)) c.key.ensures) ∙ c.if-lt.false in
    let on = ascend_goes_on g.met.T.Key.Ord.total g.T.Keyed.key_of c.args.key entries c.requires in
    let past =
    position_past above entries middle c.look.result.now on (omega arith) (ap above entry ∙ not_lower) in
    record {
      from_on = omega (arith, past);
      up_to = c.loop-from.invariant.up_to;
      to_end = c.loop-from.invariant.to_end;
      no_fewer = omega (arith, c.look.ensures.no_fewer);
      few = omega (arith, fewer, c.look.ensures.one_more);
    }

-- the window has closed at the first entry above the key
pub returns-clause-up_to : goal.returns-clause-up_to
returns-clause-up_to g c =
    let entries = c.args.entries.now in
    let above = is_above g.T.Key.Ord.cmp g.T.Keyed.key_of c.args.key in
    let at : c.loop-from.from ≡ position_or_len above entries =
    omega (arith, c.loop-from.invariant.from_on, c.loop-from.invariant.up_to) in
    c.entries_next_to.ensures.up_to ∙ ap (ahead_of None entries) at
    ∙ sym (last_ahead above None entries
    (ascend_goes_on g.met.T.Key.Ord.total g.T.Keyed.key_of c.args.key entries c.requires))

pub returns-clause-above : goal.returns-clause-above
returns-clause-above g c =
    let entries = c.args.entries.now in
    let above = is_above g.T.Key.Ord.cmp g.T.Keyed.key_of c.args.key in
    let at : c.loop-from.from ≡ position_or_len above entries =
    omega (arith, c.loop-from.invariant.from_on, c.loop-from.invariant.up_to) in
    c.entries_next_to.ensures.above ∙ ap (slice_get entries) at ∙ sym (find_at above entries)

pub returns-clause-place : goal.returns-clause-place
returns-clause-place g c =
    c.entries_next_to.ensures.place ∙ omega (arith, c.loop-from.invariant.from_on, c.loop-from.invariant.up_to)
