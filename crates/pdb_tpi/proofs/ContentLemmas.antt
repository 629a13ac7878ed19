-- What an item holds, by what its record says.
use Rattle.std.proofs.Common.{◌≡◌, Result, Ok, Err, ap, sym}
use Rattle.std.specs.Prelude.{IfOk}
use Rattle.pdb_records.specs.declared.error.StreamError.{StreamError}
use Rattle.pdb_msf.specs.declared.faults.Fault.{Fault}
use Rattle.pdb_msf.specs.declared.faults.Fault.TheVariants.{Broken, OutOfMemory}
use Rattle.pdb_msf.specs.Faults.{Gives}
use Rattle.pdb_tpi.specs.Contents.{content_of, or_error}

-- where reading a record gives what is defined, the item holds that
pub given_content : {T : Type 0} (outcome : Result T Fault) (defined : Result T StreamError)
    → Gives (λ x. x) outcome defined → IfOk (content_of outcome) (λ content. content ≡ or_error defined)
given_content (Ok content) defined given = sym (ap or_error given)
given_content (Err (Broken fault)) defined given = sym (ap or_error given)
given_content (Err OutOfMemory) defined given = tt
