-- The table has the number of the name that was put.
use Rattle.std.proofs.Common.{◌≡◌, ℕ, List, cond, map, string_bytes, sym, subst}
use Rattle.std.specs.Prelude.{Some}
use Rattle.std.specs.BTreeMap.{get_by_text}
use Rattle.std.specs.Str.{bytes_eq}
use Rattle.pdb_breakpad.specs.RecordNumbers.{KnowsNumbers}
use Rattle.pdb_breakpad.proofs.NumberLemmas.{knows_put}
use Rattle.pdb_breakpad.proofs.record_numbers.NumberedNames.add.Goals as goal

pub invariant_of-self-2 : goal.invariant_of-self-2
invariant_of-self-2 c =
    subst (KnowsNumbers c.put.new.numbers) (sym c.in_ok-number.ensures.state)
    (knows_put c.self.inside.numbers c.put.new.numbers (map string_bytes c.self.inside.names.items) c.args.name.now
    c.in_ok-number.number c.self.invariant c.in_ok-number.ensures.answer
    (subst (λ name. (asked : List ℕ) → get_by_text c.put.new.numbers asked
    ≡ cond (bytes_eq name asked) (Some c.in_ok-number.number) (get_by_text c.self.inside.numbers asked))
    c.in_ok-known.ensures.ok c.in_ok-put.ensures.state))
