-- The offsets of the next module are kept.
use Rattle.std.proofs.Common.{rules, arith, ◌≡◌, ◌++◌, ◌∷◌, ℕ, List, map, sym, subst}
use Rattle.std.proofs.lemmas.Grind.{common_steps}
use Rattle.pdb_symbolication.specs.WantedModules.{HasOffset, IsOffset, offsets_of}
use Rattle.pdb_symbolication.specs.declared.wanted_modules.NamedModule.{NamedModule}
use Rattle.pdb_symbolication.proofs.GainLemmas.{no_more_amid}
use Rattle.pdb_symbolication.proofs.OffsetLemmas.{amid}
use Rattle.pdb_symbolication.proofs.named_modules.Collector.finish.Goals as goal

pub loop-module-preserved : goal.loop-module-preserved
loop-module-preserved c =
    let before = offsets_of c.loop-module.modules.items in
    let rest = map (λ (one : NamedModule). one.offsets.items) c.loop-module.module-iterator.rest.items in
    let others = map (λ (one : NamedModule). one.offsets.items) c.next.new.self.rest.items in
    let old = c.in-Some.module.offsets.items in
    let new = c.wanted.result.offsets.items in
    let was : rest ≡ old ∷ others = search rules in
    let all : offsets_of c.push.new.self.items ++ others ≡ before ++ new ∷ others =
    grind (arith, common_steps) in
    record {
      identities = grind (arith, common_steps);
      offsets = λ position offset has.
          subst (λ (offsets : List (List ℕ)). HasOffset offsets position offset) (sym all)
          (amid before old new others c.wanted.ensures.kept position offset
          (subst (λ (offsets : List (List ℕ)). HasOffset (before ++ offsets) position offset) was
          (c.loop-module.invariant.offsets position offset has)));
      no_more = λ position offset has.
          c.loop-module.invariant.no_more position offset
          (subst (λ (offsets : List (List ℕ)). IsOffset (before ++ offsets) position offset) (sym was)
          (no_more_amid before old new others c.wanted.ensures.only position offset
          (subst (λ (offsets : List (List ℕ)). IsOffset offsets position offset) all has)));
    }

pub returns-clause-offsets : goal.returns-clause-offsets
returns-clause-offsets c position offset has =
    let before = offsets_of c.loop-module.modules.items in
    let rest = map (λ (one : NamedModule). one.offsets.items) c.loop-module.module-iterator.rest.items in
    let none : before ++ rest ≡ before = grind (arith, common_steps) in
    subst (λ (offsets : List (List ℕ)). HasOffset offsets position offset) none
    (c.loop-module.invariant.offsets position offset has)

pub returns-clause-no_more : goal.returns-clause-no_more
returns-clause-no_more c position offset has =
    let before = offsets_of c.loop-module.modules.items in
    let rest = map (λ (one : NamedModule). one.offsets.items) c.loop-module.module-iterator.rest.items in
    let none : before ++ rest ≡ before = grind (arith, common_steps) in
    c.loop-module.invariant.no_more position offset
    (subst (λ (offsets : List (List ℕ)). IsOffset offsets position offset) (sym none) has)
