-- Values and faults of definitions, and how the result of a call relates to them.
use Rattle.std.specs.Prelude.{◌≡◌, ◌≢◌, ◌==◌, ℕ, List, codes, Result, Ok, Err, if◌then◌else◌}
use Rattle.pdb_records.specs.declared.error.StreamError.{StreamError}
use Rattle.pdb_msf.specs.declared.faults.Fault.{Fault}
use Rattle.pdb_msf.specs.declared.faults.TheConstants.{APART, BAD_LENGTH, BAD_NUMBER, BLOCK_OUTSIDE, CUT, NO_STREAM}
use Rattle.pdb_msf.specs.declared.faults.TheConstants.{POINTS_NOWHERE, REARRANGED, TOO_LONG, UNKNOWN_VERSION}
use Rattle.pdb_msf.specs.declared.faults.Fault.TheVariants.{Broken, OutOfMemory}
use Rattle.pdb_msf.specs.declared.container_error.ContainerError.{ContainerError}
use Rattle.pdb_msf.specs.declared.container_error.ContainerError.TheVariants as file

infixl 10 ◌>>=◌
-- passes the value of the first result to the second definition; a fault of the first is the result
abbrev pub ◌>>=◌ : {A B E : Type 0} → Result A E → (A → Result B E) → Result B E
(Ok value) >>= next = next value
(Err fault) >>= next = Err fault

-- a fault in the directory counts as a file that is cut short
abbrev pub cut_short : {A : Type 0} → Result A StreamError → Result A ContainerError
cut_short (Ok value) = Ok value
cut_short (Err error) = Err file.CutShort

-- the file's error for a fault in the directory: the file is cut short, or memory ran out
abbrev pub fault_of : Fault → ContainerError
fault_of (Broken e) = file.CutShort
fault_of OutOfMemory = file.OutOfMemory

-- the given error is the file's error for this fault
abbrev pub GivesFault : Fault → ContainerError → Type 0
GivesFault fault given = given ≡ fault_of fault

-- a call that fails has the defined fault, except after an allocation failure
abbrev pub Fails : {Y : Type 0} → Fault → Result Y StreamError → Type 0
Fails (Broken error) defined = defined ≡ Err error
Fails OutOfMemory defined = Unit {0}

-- a call's result is the defined one: the value as `seen` shows it, or the fault, except after an allocation failure
abbrev pub Gives : {X Y : Type 0} → (X → Y) → Result X Fault → Result Y StreamError → Type 0
Gives seen (Ok answer) defined = defined ≡ Ok (seen answer)
Gives seen (Err fault) defined = Fails fault defined

-- the result of reading one part: its value, or why only this part is broken. An allocation failure stays one
abbrev pub part_of : {T : Type 0} → Result T Fault → Result (Result T StreamError) Fault
part_of (Ok part) = Ok (Ok part)
part_of (Err (Broken error)) = Ok (Err error)
part_of (Err OutOfMemory) = Err OutOfMemory

-- opening has the defined result: the value as `seen` shows it, or the file's fault, except after an allocation failure
abbrev pub Opens : {X Y : Type 0} → (X → Y) → Result X ContainerError → Result Y ContainerError → Type 0
Opens seen (Ok answer) defined = defined ≡ Ok (seen answer)
Opens seen (Err fault) defined = fault ≢ file.OutOfMemory → defined ≡ Err fault

-- the text of a fault
abbrev pub fault_text : StreamError → List ℕ
fault_text error =
    if error.0 == CUT.0 then codes "the bytes end before what is said to stand there" else
    if error.0 == NO_STREAM.0 then codes "the file has no such stream" else
    if error.0 == BLOCK_OUTSIDE.0 then codes "a block lies outside of the file" else
    if error.0 == TOO_LONG.0 then codes "the streams are longer than the file together" else
    if error.0 == UNKNOWN_VERSION.0 then codes "a signature or a version that isn't known" else
    if error.0 == BAD_LENGTH.0 then codes "a length that can't stand there" else
    if error.0 == POINTS_NOWHERE.0 then codes "it begins behind its own end" else
    if error.0 == REARRANGED.0 then codes "addresses were rearranged after linking" else
    if error.0 == BAD_NUMBER.0 then codes "a number or a kind that can't stand there" else
    if error.0 == APART.0 then codes "code of an inlined body in a separated chunk" else
    codes "it can't be read"
