-- The modules of contributions that are left out, ascending and each once, however they are written.
use Rattle.std.proofs.Common.{◌≡◌, ◌∙◌, ◌++◌, ℕ, ap, map}
use Rattle.std.specs.Ordering.{nat_cmp}
use Rattle.std.proofs.lemmas.Result.{on_ok_weaker}
use Rattle.pdb_tables.specs.Keyed.{first_of_each_key}
use Rattle.pdb_tables.proofs.KeyedLemmas.{map-first_of_each_key}
use Rattle.pdb_repairs.specs.declared.repairs.Repair.TheVariants.{ModuleContributions}
use Rattle.pdb_repairs.specs.declared.retained.LeftOut.{LeftOut}
use Rattle.pdb_repairs.proofs.retained.push_modules.Goals as goal

pub returns : goal.returns
returns c =
    let module_of : LeftOut → ℕ = λ one. one.module_index in
    let once : map module_of c.deref.result.now
    ≡ first_of_each_key nat_cmp (λ m. m) (map module_of c.args.left_out.items) =
    ap (map module_of) (c.deref.ensures.value ∙ c.in_ok-first_of_each_key.ensures)
    ∙ map-first_of_each_key module_of nat_cmp (λ m. m) c.args.left_out.items in
    on_ok_weaker c.tell_each.result
    (λ told. told ∙ ap (λ modules. c.args.repairs.now.items ++ map ModuleContributions modules) once)
    c.tell_each.ensures
