use Rattle.std.proofs.Common.{◌∙◌, sym}
use Rattle.std.specs.Option.{option_copied}
use Rattle.std.proofs.lemmas.Result.{err_from_is_err_and}
use Rattle.pdb_functions.specs.FunctionMatches.{function_match}
use Rattle.pdb_type_printer.proofs.LoopLemmas.{adds-then}
use Rattle.pdb_function_info.proofs.FrameLemmas.{frames_refused, all_named}
use Rattle.pdb_function_info.proofs.frames.frames_info.Goals as goal

pub returns-in_err-frames-clause-answer : goal.returns-in_err-frames-clause-answer
returns-in_err-frames-clause-answer g c =
    let p = err_from_is_err_and c.from_residual-in_err-frames.result c.from_residual-in_err-frames.ensures.1 in
    rw (p.1, p.2) (λ no_memory. frames_refused g.P.ModuleProvider.info c.args.names.now.type_inputs
    c.args.files.now c.args.address_map.now c.args.functions.now
    (option_copied c.args.module_info) (function_match c.args.function) c.args.offset c.in_err-frames.field-0.0
    c.in-Some.addresses (sym c.addresses_of.ensures ∙ c.in-Some.is)
    (rw (c.name_of_function.ensures.type_inputs, c.in_ok-name.ensures.answer)
    at (c.in_err-frames.ensures.answer no_memory)))

pub returns-in_err-frames-clause-failed : goal.returns-in_err-frames-clause-failed
returns-in_err-frames-clause-failed g c =
    let p = err_from_is_err_and c.from_residual-in_err-frames.result c.from_residual-in_err-frames.ensures.1 in
    rw (p.1, p.2) (λ no_memory. all_named g.P.ModuleProvider.info c.args.names.now.type_inputs
    c.args.address_map.now c.args.functions.now
    (option_copied c.args.module_info) (function_match c.args.function) c.args.offset c.args.names.now.failed
    c.frames_of_function.new.names.failed
    c.in-Some.addresses (sym c.addresses_of.ensures ∙ c.in-Some.is)
    (rw (c.name_of_function.ensures.type_inputs, c.in_ok-name.ensures.failed)
    at (c.in_err-frames.ensures.failed no_memory)))

pub returns-in_err-frames-clause-broken : goal.returns-in_err-frames-clause-broken
returns-in_err-frames-clause-broken g c = adds-then c.name_of_function.ensures.broken
    (rw c.name_of_function.ensures.type_inputs at c.frames_of_function.ensures.broken)

pub returns-clause-broken : goal.returns-clause-broken
returns-clause-broken g c = adds-then c.name_of_function.ensures.broken
    (rw c.name_of_function.ensures.type_inputs at c.frames_of_function.ensures.broken)
