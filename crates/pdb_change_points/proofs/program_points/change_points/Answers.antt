use Rattle.std.proofs.Common.{◌≡◌, List, [], ap, ◌∙◌, sym, subst}
use Rattle.std.specs.Prelude.{ℕ, IfOk, Option, Result, Ok}
use Rattle.pdb_errors.specs.Outcomes.{streamed}
use Rattle.pdb_records.specs.Records.{Records}
use Rattle.pdb_records.specs.declared.error.StreamError.{StreamError}
use Rattle.pdb_records.specs.declared.modules.ModuleInfo.{ModuleInfo}
use Rattle.std.specs.Result.{result_unwrap_or}
use Rattle.pdb_functions.specs.MergedContributions.{merged_contributions}
use Rattle.pdb_functions.specs.GlobalFunctions.{global_functions}
use Rattle.pdb_change_points.specs.ChangePoints.{program_points}
use Rattle.pdb_change_points.specs.UniqueNumbers.{HaveSameMembers}
use Rattle.pdb_change_points.proofs.ContextLemmas.{front_of, change_points_made, never_refused}
use Rattle.pdb_change_points.proofs.PieceLemmas.{answered}
use Rattle.pdb_change_points.proofs.program_points.change_points.Goals as goal

pub returns-clause-answer : goal.returns-clause-answer
returns-clause-answer c = λ flags inputs made.
    let r = c.args.records.now in
    let sections = c.in_ok-sections.sections.now in
    let ranges = c.in_ok-address_map.address_map.now in
    let symbols = c.in_ok-symbols.symbols.now in
    let debug = c.in_ok-debug_information.debug_information.now in
    let front = front_of flags r inputs made in
    let view = c.records.view_is in
    let listed = c.deref.ensures.value ∙ ap (λ (records : Records). records.module_infos) view in
    let debug_is : streamed r.debug_information ≡ Ok debug =
    sym (ap (λ (records : Records). streamed records.debug_information) view) ∙ c.in_ok-debug_information.ensures in
    let symbols_is : streamed r.global_symbols ≡ Ok symbols =
    sym (ap (λ (records : Records). streamed records.global_symbols) view) ∙ c.in_ok-symbols.ensures in
    let ranges_is : streamed r.address_map ≡ Ok ranges =
    sym (ap (λ (records : Records). streamed records.address_map) view) ∙ c.in_ok-address_map.ensures in
    let all = change_points_made r inputs front sections ranges symbols debug c.in_ok-sections.ensures
    ranges_is symbols_is debug_is in
    answered (λ v. v.items) inputs c.points_of_parts.result (merged_contributions sections debug)
    (never_refused r inputs front sections debug c.in_ok-sections.ensures debug_is)
    c.points_of_parts.ensures.order
    (subst (λ (points : List ℕ). IfOk c.points_of_parts.result (λ v. HaveSameMembers v.items points))
    (ap (λ (answers : List (Result (Option ModuleInfo) StreamError)). program_points ranges
    (result_unwrap_or (merged_contributions sections debug) []) (global_functions sections symbols.symbols.items debug)
    answers) listed ∙ all) c.points_of_parts.ensures.members)
    c.points_of_parts.ensures.refused
