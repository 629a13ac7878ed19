-- Why a call writes no text, and the return values for the reasons.
use Rattle.std.specs.Prelude.{ℤ, pos, neg_ℤ}
use Rattle.pdb_errors.specs.declared.error.Error.{Error}
use Rattle.pdb_errors.specs.declared.error.Error.TheVariants as error
use Rattle.pdb_json_values.specs.declared.record_fault.RecordFault.{RecordFault}
use Rattle.pdb_json_values.specs.declared.record_fault.RecordFault.TheVariants as fault
use Rattle.pdb_json_values.specs.RecordFault.{Fault, not_json, module_files}
use Rattle.pdb_report_lib.specs.declared.reports.ReportFault.{ReportFault}
use Rattle.pdb_report_lib.specs.declared.reports.ReportFault.TheVariants.{Lookup, Write}
use Rattle.pdb_c.specs.declared.call_error.CallError.{CallError}
use Rattle.pdb_c.specs.declared.call_error.CallError.TheVariants.{NoAddresses, NotJson, NoRecords, ModuleFiles}
use Rattle.pdb_c.specs.declared.call_error.CallError.TheVariants.{RecordsRefused, AddressRefused}
use Rattle.pdb_c.specs.declared.call_error.CallError.TheVariants.{OutOfMemory, BufferTooSmall, Closed}
use Rattle.pdb_c.specs.declared.call_error.CallError.TheVariants.{NotAPdbFile, Program, PortablePdb, Compressed}
use Rattle.pdb_c.specs.declared.call_error.CallError.TheVariants.{OldPdbFile, CutShort, StreamsTooLong, OfObjects}
use Rattle.pdb_c.specs.declared.call_error.CallError.TheVariants.{OldTypes, NoSectionHeaders, Rearranged}
use Rattle.pdb_c.specs.declared.call_error.CallError.TheVariants.{BrokenStream, NoDebugId}
use Rattle.pdb_msf.specs.declared.container_error.ContainerError.{ContainerError}
use Rattle.pdb_msf.specs.declared.container_error.ContainerError.TheVariants as container
use Rattle.pdb_msf.specs.declared.source_error.OpenError.TheVariants as opening
use Rattle.pdb_msf.specs.declared.source_error.SourceError.{SourceError}
use Rattle.pdb_msf.specs.declared.source_error.SourceError.TheVariants as source
use Rattle.pdb_session.specs.declared.session_error.SessionError.{SessionError}
use Rattle.pdb_session.specs.declared.session_error.SessionError.TheVariants as session
use Rattle.pdb_container.specs.declared.pdb_file_error.PdbFileError as told
use Rattle.pdb_container.specs.declared.pdb_file_error.PdbFileError.TheVariants as file

-- the return value for a refusal
abbrev pub code : CallError → ℤ
code NoAddresses = neg_ℤ (pos 2)
code NotJson = neg_ℤ (pos 3)
code NoRecords = neg_ℤ (pos 4)
code ModuleFiles = neg_ℤ (pos 5)
code RecordsRefused = neg_ℤ (pos 6)
code AddressRefused = neg_ℤ (pos 7)
code OutOfMemory = neg_ℤ (pos 8)
code BufferTooSmall = neg_ℤ (pos 9)
code Closed = neg_ℤ (pos 10)
code NotAPdbFile = neg_ℤ (pos 11)
code Program = neg_ℤ (pos 12)
code PortablePdb = neg_ℤ (pos 13)
code Compressed = neg_ℤ (pos 14)
code OldPdbFile = neg_ℤ (pos 15)
code CutShort = neg_ℤ (pos 16)
code StreamsTooLong = neg_ℤ (pos 17)
code OfObjects = neg_ℤ (pos 18)
code OldTypes = neg_ℤ (pos 19)
code NoSectionHeaders = neg_ℤ (pos 20)
code Rearranged = neg_ℤ (pos 21)
code BrokenStream = neg_ℤ (pos 22)
code NoDebugId = neg_ℤ (pos 23)

-- the refusal for a fault in a records file
abbrev pub refusal_of : Fault → CallError
refusal_of not_json = NotJson
refusal_of (module_files wanted given) = ModuleFiles
refusal_of other = NoRecords

-- the refusal for a fault of the reader of records files
abbrev pub refusal_of_fault : RecordFault → CallError
refusal_of_fault fault.NotJson = NotJson
refusal_of_fault (fault.ModuleFiles wanted given) = ModuleFiles
refusal_of_fault fault.OutOfMemory = OutOfMemory
refusal_of_fault other = NoRecords

-- this refusal, except that an allocation failure stays one
abbrev pub refusal_or_memory : CallError → Error → CallError
refusal_or_memory refusal error.OutOfMemory = OutOfMemory
refusal_or_memory refusal other = refusal

-- the refusal for records that have no context
abbrev pub refusal_of_records : Error → CallError
refusal_of_records error = refusal_or_memory RecordsRefused error

-- the refusal for a report that ended early; its text is gathered in memory, so a refused write means an allocation
-- failure
abbrev pub refusal_of_report : ReportFault → CallError
refusal_of_report (Lookup error) = refusal_or_memory AddressRefused error
refusal_of_report Write = OutOfMemory

-- the refusal for bytes that can't be read as a PDB file
abbrev pub refusal_of_container : ContainerError → CallError
refusal_of_container container.NotAPdbFile = NotAPdbFile
refusal_of_container container.Program = Program
refusal_of_container container.PortablePdb = PortablePdb
refusal_of_container container.Compressed = Compressed
refusal_of_container container.OldPdbFile = OldPdbFile
refusal_of_container container.CutShort = CutShort
refusal_of_container container.StreamsTooLong = StreamsTooLong
refusal_of_container container.OutOfMemory = OutOfMemory

-- the refusal for a PDB file whose records can't be used
abbrev pub refusal_of_file : told.PdbFileError → CallError
refusal_of_file file.OfObjects = OfObjects
refusal_of_file (file.OldTypes version) = OldTypes
refusal_of_file file.NoSectionHeaders = NoSectionHeaders
refusal_of_file file.Rearranged = Rearranged
refusal_of_file (file.Broken stream why) = BrokenStream

-- what is answered where no session can be opened over bytes. Each range is in memory, so one that can't be read is
-- after the end
abbrev pub refusal_of_session : SessionError → CallError
refusal_of_session (session.File (opening.Container fault)) = refusal_of_container fault
refusal_of_session (session.File opening.Unreadable) = CutShort
refusal_of_session (session.Refused refusal) = refusal_of_file refusal
refusal_of_session (session.Records error) = refusal_of_records error

-- what is answered where no more of a file can be read
abbrev pub refusal_of_source : SourceError → CallError
refusal_of_source source.Unreadable = CutShort
refusal_of_source source.OutOfMemory = OutOfMemory
