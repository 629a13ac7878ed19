-- How a run ends, from what the values of its texts show.
use Rattle.std.proofs.Common.{◌≡◌, ℕ, List, Result, Ok, Err, Some, inl, inr, refl}
use Rattle.std.specs.Io.KnownBytes.{Keeps}
use Rattle.serde_json.specs.Data.{Data}
use Rattle.pdb_records.specs.Records.{Records}
use Rattle.pdb_json_values.specs.declared.record_fault.RecordFault.{RecordFault}
use Rattle.pdb_json.specs.RecordsFile.{value_of, records_of, records_of_files}
use Rattle.pdb_json_values.specs.RecordFault.{IsFaultOf}
use Rattle.pdb_json.proofs.TextLemmas.{text_shows_no_modules, wanted_by_text, records_by_text}
use Rattle.pdb_report_lib.specs.declared.command_error.CommandError.{CommandError}
use Rattle.pdb_report_lib.specs.declared.command_error.CommandError.TheVariants.{Refused, Usage, CannotRead, CannotReadModule}
use Rattle.pdb_report_lib.specs.declared.command_error.CommandError.TheVariants.{CannotWrite}
use Rattle.pdb_report_lib.specs.declared.command_error.CommandError.TheVariants as stop
use Rattle.pdb_report_lib.specs.ReportArguments.{Asked}
use Rattle.pdb_report_lib.specs.ReportRuns.{AreModuleReadStops, EndsOverSomeFile, StopsWithoutModules}
use Rattle.pdb_report_lib.specs.ReportRuns.{StopsAsked, EndsRun}
use Rattle.pdb_report_lib.specs.Sinks.{SinkState}
use Rattle.pdb_report_lib.specs.CommandError.{Ends, EndsOverFile}

-- a run stops at the fault of a text
pub text_stops_the_run : (asked : Asked) (sink : SinkState) (bytes : List ℕ) (fault : RecordFault)
    → IsFaultOf fault (value_of bytes) → StopsWithoutModules asked sink sink asked.path fault
text_stops_the_run asked sink bytes fault refused =
    record { shown = refl; bytes = bytes; refused = text_shows_no_modules bytes fault refused; same = refl }

-- a run stops where the module files of a text's value can't be read
pub module_files_stop_the_run : (A : Type 0) (asked : Asked) (sink : SinkState) (bytes : List ℕ) (value : Data)
    (why : CommandError) → value_of bytes ≡ Ok value → AreModuleReadStops asked.path value why
    → StopsAsked A asked sink sink why
module_files_stop_the_run A asked sink bytes value (CannotReadModule shown) is_value stops =
    record { bytes = bytes; shown = rw (wanted_by_text bytes value is_value) stops; same = refl }
module_files_stop_the_run A asked sink bytes value (Refused error) is_value stops = inl (stops, refl)
module_files_stop_the_run A asked sink bytes value (stop.Records shown fault) is_value stops =
    inl (record {
      shown = stops.0;
      bytes = bytes;
      refused = rw (wanted_by_text bytes value is_value) stops.1;
      same = refl;
    })
module_files_stop_the_run A asked sink bytes value (CannotRead shown) is_value stops = absurd stops
module_files_stop_the_run A asked sink bytes value Usage is_value stops = absurd stops
module_files_stop_the_run A asked sink bytes value CannotWrite is_value stops = absurd stops

-- a run that ends over what was read ends over some file
stops_over : {A : Type 0} (asked : Asked) (before written after : SinkState) (read : Result Records RecordFault)
    (why : CommandError)
    → Ends {A = A} asked.path asked.command asked.addresses read before written (Err why)
    → EndsOverSomeFile {A = A} asked before after (Err why) → StopsAsked A asked before after why
stops_over asked before written after read (Refused error) ends over = inr over
stops_over asked before written after read (stop.Records path fault) ends over = inr over
stops_over asked before written after read CannotWrite ends over = inl over
stops_over asked before written after (Ok records) (CannotRead path) ends over = absurd ends
stops_over asked before written after (Err fault) (CannotRead path) ends over = absurd ends
stops_over asked before written after (Ok records) (CannotReadModule path) ends over = absurd ends
stops_over asked before written after (Err fault) (CannotReadModule path) ends over = absurd ends
stops_over asked before written after (Ok records) Usage ends over = absurd ends
stops_over asked before written after (Err fault) Usage ends over = absurd ends

-- what a run ends with over a text's value it ends with over the text
pub ends_over_text : {A : Type 0} (asked : Asked) (before written : SinkState) (bytes : List ℕ) (files : List (List ℕ))
    (value : Data) (result : Result A CommandError) → value_of bytes ≡ Ok value
    → EndsOverFile asked.path asked.command asked.addresses (records_of files value) before written result
    → EndsOverFile asked.path asked.command asked.addresses (records_of_files bytes files) before written result
ends_over_text asked before written bytes files value result is_value ends =
    rw (records_by_text bytes files value is_value) ends

-- a run ends as it does over a text's value, once what the sink holds back is handed on
pub run_ends_over_value : {A : Type 0} (asked : Asked) (before written after : SinkState) (bytes : List ℕ)
    (files : List (List ℕ)) (value : Data) (result : Result A CommandError) → value_of bytes ≡ Ok value
    → EndsOverFile asked.path asked.command asked.addresses (records_of files value) before written result
    → Keeps written.held after.held → after.failed ≡ written.failed → EndsRun (Some asked) before after result
run_ends_over_value asked before written after bytes files value (Ok done) is_value ends same unchanged =
    let over = ends_over_text asked before written bytes files value (Ok done) is_value ends in
    record { bytes = bytes; files = files; written = written; ends = over; same = same; unchanged = unchanged }
run_ends_over_value asked before written after bytes files value (Err why) is_value ends same unchanged =
    let over = ends_over_text asked before written bytes files value (Err why) is_value ends in
    stops_over asked before written after ends.read why ends.ends
    (record { bytes = bytes; files = files; written = written; ends = over; same = same; unchanged = unchanged })
