-- The function that was found, by the name of its symbol where it has no other.
use Rattle.std.proofs.Common.{◌∙◌, ap, sym}
use Rattle.std.specs.Prelude.{Option, option_map, string_bytes}
use Rattle.std.specs.Option.{option_or}
use Rattle.pdb_function_info.specs.Function.{function_view}
use Rattle.pdb_function_info.specs.declared.function.Function.{Function}
use Rattle.pdb_addr2line.specs.ContextInputs.{ContextInputs}
use Rattle.pdb_addr2line.specs.Lookups.{function_at}
use Rattle.pdb_addr2line.specs.NamedFunctions.{symbol_name_at}
use Rattle.pdb_addr2line.proofs.NamedLemmas.{function_is_named}
use Rattle.pdb_addr2line.proofs.context.Context.find_named_function.Goals as goal

pub returns-in_ok-found-in-Some-clause-answer : goal.returns-in_ok-found-in-Some-clause-answer
returns-in_ok-found-in-Some-clause-answer g c =
    let info = g.P.ModuleProvider.info in
    function_is_named c.in-Some.found c.in_ok-found-in-Some.field-0
    (symbol_name_at info c.args.self.now.inputs c.args.address) (function_at info c.args.self.now.inputs c.args.address)
    (c.in_ok-found-in-Some.ensures.answer
    ∙ ap (λ (s : ContextInputs g.row.P.Denot). option_or (option_map string_bytes c.in-Some.found.name)
    (symbol_name_at info s c.args.address)) c.in_ok-find_function.ensures.inputs)
    (ap (λ (f : Option Function). option_map function_view f) (sym c.in-Some.is) ∙ c.in_ok-find_function.ensures.answer)
