-- The context of a program's records, and the formatter of its types.
use Rattle.std.specs.Prelude.{ℕ, List, [], Option, Some, None, Result, Ok, Err, slice_get, unwrap_or, option_map}
use Rattle.std.specs.Result.{result_ok}
use Rattle.pdb_records.specs.Records.{Records}
use Rattle.pdb_records.specs.declared.error.Error.TheVariants.{Stream}
use Rattle.pdb_records.specs.declared.error.StreamError.{StreamError}
use Rattle.pdb_records.specs.declared.addresses.ImageSectionHeader.{ImageSectionHeader}
use Rattle.pdb_records.specs.declared.debug_information.DebugInformation.{DebugInformation}
use Rattle.pdb_records.specs.declared.modules.ModuleInfo.{ModuleInfo}
use Rattle.pdb_errors.specs.declared.error.Error.{Error}
use Rattle.pdb_errors.specs.declared.error.Error.TheVariants.{PdbError}
use Rattle.pdb_types.specs.declared.flags.TypeFormatterFlags.{TypeFormatterFlags}
use Rattle.pdb_errors.specs.Outcomes.{streamed, unless, first_refusal, and_then}
use Rattle.pdb_types.specs.TypeInputs.{TypeInputs, program_pointer_size}
use Rattle.pdb_addr2line.specs.ContextInputs.{ContextInputs, accepted}

-- the fault of a stream, if it has one
abbrev pub stream_refusal : {A : Type 0} → Result A StreamError → Option Error
stream_refusal (Ok content) = None
stream_refusal (Err fault) = Some (PdbError (Stream fault))

-- the error of the first unreadable stream among those that a context needs
abbrev pub records_refusal : Records → Option Error
records_refusal r =
    first_refusal (stream_refusal r.global_symbols) (
    first_refusal (stream_refusal r.debug_information) (
    first_refusal (stream_refusal r.type_information) (
    first_refusal (stream_refusal r.id_information) (
    stream_refusal r.address_map))))

-- the records of the module with this index; `None` after the last module
abbrev pub info_at : Records → ℕ → Result (Option ModuleInfo) StreamError
info_at r index = unwrap_or (slice_get r.module_infos index) (Ok None)

-- the headers of the sections; records without any have an empty list
abbrev pub sections_read : Records → Result (List ImageSectionHeader) Error
sections_read r =
    and_then (streamed r.sections) (λ sections.
    Ok (unwrap_or sections []))

-- why signatures can't be printed: a fault of the list of modules, or an unreadable machine
abbrev pub formatter_refusal : DebugInformation → Option Error
formatter_refusal debug =
    first_refusal (option_map (λ fault. PdbError (Stream fault)) debug.modules.fault) (
    stream_refusal debug.machine_type)

-- the default flags: no return types, no `static`, a space after commas, and only names
abbrev pub default_flags : TypeFormatterFlags
default_flags = record { 0 = 23 }

-- the type inputs of the formatter of these records; an error for a faulty list of modules or machine
abbrev pub formatter_of : TypeFormatterFlags → Records → Result (TypeInputs Records) Error
formatter_of flags r =
    and_then (streamed r.debug_information) (λ debug.
    and_then (streamed r.type_information) (λ types.
    and_then (streamed r.id_information) (λ ids.
    unless (formatter_refusal debug) (
    and_then (program_pointer_size debug.machine_type) (λ pointer_size.
    Ok (record {
      provider = r;
      modules = debug.modules.items;
      strings = result_ok r.string_table;
      pointer_size = pointer_size;
      types = types.items;
      ids = ids.items;
      flags = flags;
    }))))))

-- the context over these records with these type inputs; an error for faulty sections or faulty contents
abbrev pub context_over : Records → TypeInputs Records → Result (ContextInputs Records) Error
context_over r type_inputs =
    and_then (streamed r.debug_information) (λ debug.
    and_then (streamed r.global_symbols) (λ symbols.
    and_then (streamed r.address_map) (λ ranges.
    and_then (sections_read r) (λ sections.
    accepted (record {
      provider = r;
      sections = sections;
      address_map = ranges;
      global_symbols = symbols;
      strings = result_ok r.string_table;
      debug_information = debug;
      type_inputs = type_inputs;
    })))))

-- the context of these records; an error if the formatter or the rest of the context has one
abbrev pub context_of : TypeFormatterFlags → Records → Result (ContextInputs Records) Error
context_of flags r = and_then (formatter_of flags r) (context_over r)
