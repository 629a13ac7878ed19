-- The table knows the files with the new one, and those before if memory runs out.
use Rattle.std.proofs.Common.{◌≡◌, ◌++◌, ◌∷◌, [], length, rules}
use Rattle.pdb_source_urls.specs.ServerFiles.{files_of}
use Rattle.pdb_source_urls.proofs.ServerFileLemmas.{cut_again, knows_pushed, knows_same}
use Rattle.pdb_source_urls.proofs.server_files.ServerFiles.push_line.Goals as goal

pub invariant_of-self-in-Ok : goal.invariant_of-self-in-Ok
invariant_of-self-in-Ok c =
    let lines = c.self.inside.lines.items in
    let count : c.len-position.result ≡ length lines = search rules in
    let pushed : c.push.new.self.items ≡ lines ++ c.args.line ∷ [] = search rules in
    knows_pushed c.self.inside.positions c.insert_first.new.map lines c.push.new.self.items c.args.line
    c.args.lower_name c.len-position.result c.self.invariant count pushed c.requires c.in-Ok.ensures.state

pub invariant_of-self-in-Err : goal.invariant_of-self-in-Err
invariant_of-self-in-Err c =
    let lines = c.self.inside.lines.items in
    let count : c.len-position.result ≡ length lines = search rules in
    let pushed : c.push.new.self.items ≡ lines ++ c.args.line ∷ [] = search rules in
    knows_same c.self.inside.positions c.insert_first.new.map (files_of lines) (files_of c.truncate.new.self.items)
    c.self.invariant (cut_again lines c.push.new.self.items c.truncate.new.self.items c.args.line
    c.len-position.result count pushed c.truncate.ensures.items) c.in-Err.ensures.unchanged_if_refused
