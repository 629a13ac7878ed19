-- How the options say that functions are named.
use Rattle.std.specs.Prelude.{◌&&◌, ◌+◌, Bool, true, false}
use Rattle.pdb_types.specs.declared.flags.TypeFormatterFlags.{TypeFormatterFlags}
use Rattle.pdb_answer_printer.specs.declared.printer_options.NameStyle.{NameStyle}
use Rattle.pdb_answer_printer.specs.declared.printer_options.NameStyle.TheVariants.{Short, Signature}
use Rattle.pdb_symbolizer_input.specs.declared.options.Options.{Options}

-- the flags for printing names: the default ones, and for short names also the one that omits arguments
abbrev pub flags_of : NameStyle → TypeFormatterFlags
flags_of Short = record { 0 = 23 + 32 }
flags_of names = record { 0 = 23 }

-- whether names are printed with the types of the arguments
abbrev pub is_signature : NameStyle → Bool
is_signature Signature = true
is_signature style = false

-- whether functions are renamed by their public symbols: if the options ask for that, and names are printed with
-- arguments
abbrev pub shows_decorated_names : Options → Bool
shows_decorated_names options = options.decorated && is_signature options.printer.names
