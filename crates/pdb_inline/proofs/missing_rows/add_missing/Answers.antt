use Rattle.std.proofs.Common.{◌≡◌, refl}
use Rattle.std.proofs.lemmas.Result.{on_ok_weaker}
use Rattle.pdb_inline.specs.SiteRows.{row_ranges}
use Rattle.pdb_tables.specs.Runs.{missing_runs}
use Rattle.pdb_inline.specs.InlineRanges.{first_file}
use Rattle.pdb_tables.proofs.MissingRunLemmas.{missing_runs_are}
use Rattle.pdb_inline.proofs.missing_rows.add_missing.Goals as goal

pub returns-clause-added : goal.returns-clause-added
returns-clause-added c = on_ok_weaker c.push_added.result (λ pushed. λ inner same.
    let own : c.in_ok-own.own.items ≡ row_ranges c.args.inlinees.now.keys c.args.site.symbol.now =
    rw (c.in_ok-own.ensures, c.deref.ensures.value, c.in_ok-rows.ensures) refl in
    let runs : c.runs.result.now ≡ missing_runs inner (row_ranges c.args.inlinees.now.keys c.args.site.symbol.now) =
    rw c.runs.ensures.answer (missing_runs_are inner
    (row_ranges c.args.inlinees.now.keys c.args.site.symbol.now) c.in_ok-missing.missing c.runs.ensures.maximal
    (λ x. rw (c.in_ok-missing.ensures.answer x, same x, c.deref-2.ensures.value, own) refl)) in
    let file : c.first_file.result ≡ first_file c.args.inlinees.now.keys c.args.site.symbol.now =
    rw (c.first_file.ensures, c.deref-3.ensures.value, c.in_ok-rows.ensures) refl in
    rw (← runs, ← file) pushed) c.push_added.ensures
