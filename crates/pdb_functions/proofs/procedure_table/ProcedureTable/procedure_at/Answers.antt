use Rattle.std.proofs.Common.{◌≡◌, ◌∙◌, ◌+◌, suc, length, refl, sym, ap, arith}
use Rattle.std.specs.Prelude.{option_map}
use Rattle.std.proofs.lemmas.Option.{slice_get_read}
use Rattle.pdb_tables.proofs.ElementLemmas.{got_at}
use Rattle.pdb_functions.specs.Procedures.{module_procedure}
use Rattle.pdb_functions.proofs.TableLemmas.{last_at_position, last_procedure}
use Rattle.pdb_functions.proofs.procedure_table.ProcedureTable.procedure_at.Goals as goal

pub returns-then-starts_behind-clause-answer : goal.returns-then-starts_behind-clause-answer
returns-then-starts_behind-clause-answer c =
    let procedures = c.self.inside.procedures.items in
    let procedure = c.index-procedure.result.now in
    let got = slice_get_read procedures (length procedures) c.args.position procedure refl
    (omega arith) c.index-procedure.ensures in
    let next = got_at c.get.result c.deref.result.now (c.args.position + 1) c.get.ensures.lookup.0 c.get.ensures.lookup.1 in
    let step : c.args.position + 1 ≡ suc c.args.position = omega arith in
    let last = last_at_position c.args.section_offset procedures c.args.position procedure c.self.invariant.ascend got
    (sym c.covers.ensures ∙ c.if-covers.true) (rw (next, c.deref.ensures.value, step) at (c.starts_behind.ensures c.if-starts_behind.true)) in
    rw (← c.self.view_is) (ap (option_map module_procedure) last
    ∙ last_procedure c.args.section_offset procedures c.self.invariant.ascend)
