-- What is written fits its types, and the inlined calls ascend.
use Rattle.std.proofs.Common.{◌<◌, ◌^◌, arith, subst}
use Rattle.pdb_breakpad.specs.WrittenRecords.{AreReadable}
use Rattle.pdb_breakpad.proofs.AddressSpanLemmas.{ascend_each}
use Rattle.pdb_breakpad.proofs.function_records.FunctionRecords.text.Goals as goal

pub returns-clause-readable : goal.returns-clause-readable
returns-clause-readable c =
    subst (AreReadable c.args.parameters.now) c.self.view_is
    (record {
      fit = record {
        parameters_fit = subst (λ size. size < 2 ^ 32) c.parameter_size-size.ensures (omega arith);
        start = omega arith;
        last = omega arith;
        levels = c.in_ok-push_records.ensures.levels;
        inlines = c.in_ok-push_records.ensures.fits;
        lines = c.in_ok-push_lines.ensures.fits;
      };
      ascend = record {
        inlines = c.in_ok-push_records.ensures.order;
        lines = ascend_each _ c.in_ok-push_lines.ensures.order;
      };
    })
