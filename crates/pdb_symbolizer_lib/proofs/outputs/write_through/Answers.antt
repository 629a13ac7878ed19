-- The text is written whole, and the writer refuses to hand it on.
use Rattle.std.proofs.Common.{[], append-nil, sym}
use Rattle.pdb_symbolication.proofs.WriteLemmas.{goes_as, goes_first, goes_flushed, goes_on}
use Rattle.pdb_symbolizer_lib.proofs.outputs.write_through.Goals as goal

pub returns-in_err-flush-clause-text : goal.returns-in_err-flush-clause-text
returns-in_err-flush-clause-text g c =
    let text = c.args.text.now in
    goes_flushed c.from_residual-in_err-flush.result (g.W.Write.contents c.flush.new.self)
    (goes_on (g.W.Write.contents c.write_whole.new.out) text []
    (goes_as (sym (append-nil text)) (goes_first (g.W.Write.contents c.args.out.now) text))
    (rw (sym c.as_bytes.ensures.value) c.in_ok-write_whole.ensures))
    c.flush.ensures.bytes
