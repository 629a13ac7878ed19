-- What a file says of its program, by whether its stream of debug information has a header.
use Rattle.std.proofs.Common.{◌≡◌, [], Ok, Err, ap}
use Rattle.pdb_records.specs.declared.error.StreamError.{StreamError}
use Rattle.pdb_msf.specs.Faults.{◌>>=◌}
use Rattle.pdb_msf.specs.Msf.{Msf}
use Rattle.pdb_dbi.specs.declared.debug_header.DebugHeader.{DebugHeader}
use Rattle.pdb_dbi.specs.ModuleSubstream.{module_streams}
use Rattle.pdb_container.specs.DebugRecords.{address_map, address_map_of, debug_header, debug_information}
use Rattle.pdb_container.specs.DebugRecords.{global_symbols, information_of, sections, sections_of, streams_by}
use Rattle.pdb_container.specs.DebugRecords.{streams_of_modules, symbol_stream}

-- without a header there is no debug information
pub information_without : (msf : Msf) (error : StreamError) → debug_header msf ≡ Err error
    → debug_information msf ≡ Err error
unfolding debug_information
information_without msf error is = ap (λ front. front >>= (λ h. Ok (information_of h))) is

-- nor are there sections
pub sections_without : (msf : Msf) (error : StreamError) → debug_header msf ≡ Err error → sections msf ≡ Err error
unfolding sections
sections_without msf error is = ap (λ front. front >>= sections_of msf) is

-- nor an address map
pub address_map_without : (msf : Msf) (error : StreamError) → debug_header msf ≡ Err error
    → address_map msf ≡ Err error
unfolding address_map
address_map_without msf error is = ap (λ front. front >>= address_map_of msf) is

-- nor symbols of the whole program
pub symbols_without : (msf : Msf) (error : StreamError) → debug_header msf ≡ Err error → global_symbols msf ≡ Err error
unfolding global_symbols
symbols_without msf error is = ap (λ front. front >>= (λ h. symbol_stream msf h.global_symbols)) is

-- nor are there modules
pub modules_without : (msf : Msf) (error : StreamError) → debug_header msf ≡ Err error → streams_of_modules msf ≡ []
unfolding streams_of_modules
modules_without msf error is = ap streams_by is

-- with a header there is what its substreams say
pub information_with : (msf : Msf) (front : DebugHeader) → debug_header msf ≡ Ok front
    → debug_information msf ≡ Ok (information_of front)
unfolding debug_information
information_with msf front is = ap (λ found. found >>= (λ h. Ok (information_of h))) is

-- the sections are those of the header
pub sections_with : (msf : Msf) (front : DebugHeader) → debug_header msf ≡ Ok front
    → sections msf ≡ sections_of msf front
unfolding sections
sections_with msf front is = ap (λ found. found >>= sections_of msf) is

-- the address map is that of the header
pub address_map_with : (msf : Msf) (front : DebugHeader) → debug_header msf ≡ Ok front
    → address_map msf ≡ address_map_of msf front
unfolding address_map
address_map_with msf front is = ap (λ found. found >>= address_map_of msf) is

-- the symbols of the whole program are those of the stream that the header names
pub symbols_with : (msf : Msf) (front : DebugHeader) → debug_header msf ≡ Ok front
    → global_symbols msf ≡ symbol_stream msf front.global_symbols
unfolding global_symbols
symbols_with msf front is = ap (λ found. found >>= (λ h. symbol_stream msf h.global_symbols)) is

-- the modules are those of the header's list
pub modules_with : (msf : Msf) (front : DebugHeader) → debug_header msf ≡ Ok front
    → streams_of_modules msf ≡ module_streams front.modules
unfolding streams_of_modules
modules_with msf front is = ap streams_by is

-- what is known without a header, and with one
pub ruleset without_header =
    (information_without, sections_without, address_map_without, symbols_without, modules_without)

pub ruleset with_header = (information_with, sections_with, address_map_with, symbols_with, modules_with)
