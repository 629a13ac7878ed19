use Rattle.std.proofs.Common.{rules, ◌≡◌, ◌<◌, ◌≤◌, ◌+◌, ◌-◌, ◌^◌, min, length, map, reverse, arith}
use Rattle.std.proofs.lemmas.Bool.Decides.{nat_tests}
use Rattle.pdb_tables.proofs.SegmentLemmas.{drop_is}
use Rattle.pdb_inline.specs.Sites.{walk, open_site, opened_at}
use Rattle.pdb_inline.proofs.SiteLemmas.{begun, turn_closed, turn_counted, closed_site, closed_procedure}
use Rattle.pdb_inline.proofs.SiteLemmas.{found_more, stopped}
use Rattle.pdb_inline.proofs.sites.procedure_sites.Goals as goal

pub loop-at-init : goal.loop-at-init
loop-at-init c =
    let fits : length c.args.symbols.now ≤ 2 ^ 64 - 1 = omega arith in
    let is : c.saturating_add-at.result ≡ min (c.args.position + 1) (2 ^ 64 - 1) = search rules in
    let same = begun c.args.fault c.args.end c.args.symbols.now c.args.position c.saturating_add-at.result
    (2 ^ 64 - 1) is fits (omega arith) (omega arith) in
    let empty = c.new-outer.ensures.items in
    let none = c.new-sites.ensures.items in
    rw (none, empty, same) (record { begun = omega arith; sites = search rules; fault = search rules })

pub returns-then-not-close_innermost : goal.returns-then-not-close_innermost
returns-then-not-close_innermost c =
    let ends = rw (c.first_end.ensures, c.deref.ensures.value) at c.if-first_end-at.true in
    let same = turn_closed c.args.fault c.args.end c.args.symbols.now c.loop-at.at 0
    (reverse (map open_site c.loop-at.outer.items)) (omega arith) c.loop-at.invariant.begun ends in
    let empty : length c.loop-at.outer.items ≡ 0 = grind (arith, nat_tests) in
    let last = rw (same, closed_procedure c.loop-at.outer.items _ empty) at c.loop-at.invariant in
    stopped (walk c.args.symbols.now c.args.fault c.args.position c.args.end) _ _ last.sites last.fault

pub loop-at-preserved-then-first_end-at : goal.loop-at-preserved-then-first_end-at
loop-at-preserved-then-first_end-at c =
    let ends = rw (c.first_end.ensures, c.deref.ensures.value) at c.if-first_end-at.true in
    let same = turn_closed c.args.fault c.args.end c.args.symbols.now c.loop-at.at 0
    (reverse (map open_site c.loop-at.outer.items)) (omega arith) c.loop-at.invariant.begun ends in
    let some : 0 < length c.loop-at.outer.items = grind (arith, nat_tests) in
    let next = rw (same, closed_site c.loop-at.outer.items _ some, ← c.close_innermost.ensures.state)
    at c.loop-at.invariant in
    record { begun = omega arith; sites = next.sites; fault = next.fault }

pub loop-at-preserved : goal.loop-at-preserved
loop-at-preserved c =
    let outer = reverse (map open_site c.loop-at.outer.items) in
    let within : c.loop-at.at < length c.args.symbols.now = omega arith in
    let fits : length c.args.symbols.now ≤ 2 ^ 64 - 1 = omega arith in
    let here = drop_is c.loop-at.at c.args.symbols.now c.index-symbols-at.result c.index-symbols-at.is within in
    let before = rw (c.first_end.ensures, c.deref.ensures.value) at c.if-first_end-at.false in
    let same = turn_counted c.args.fault c.args.end c.args.symbols.now c.loop-at.at c.position_after-at.result
    (2 ^ 64 - 1) outer c.index-symbols-at.result here c.loop-at.invariant.begun before c.position_after-at.ensures
    within fits in
    let next = rw (same, ← c.in_ok-open_at.ensures.opened) at c.loop-at.invariant in
    record {
      begun = omega (arith, c.position_after-at.ensures);
      sites = found_more (opened_at c.loop-at.at outer) _ _ _ _ _ next.sites c.in_ok-open_at.ensures.found;
      fault = next.fault;
    }
