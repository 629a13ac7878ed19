-- Which modules of a memory map were found, by their keys.
use Rattle.std.specs.Prelude.{ℕ, ◌+◌, List, [], ◌∷◌, ◌++◌, codes, map, slice_get, string_bytes, unwrap_or}
use Rattle.std.specs.Prelude.{Option, None, Some}
use Rattle.std.specs.Cmp.Lexicographic.{slice_cmp}
use Rattle.std.specs.BTreeMap.{insert_entry, is_at}
use Rattle.std.specs.Map.{lookup}
use Rattle.std.specs.Ordering.{nat_cmp}
use Rattle.std.specs.declared.string.String.{String}
use Rattle.pdb_symbolication.specs.JsonObjects.{object}
use Rattle.pdb_symbolication.specs.JsonTexts.{quoted}
use Rattle.pdb_symbolication.specs.declared.frame_texts.FrameTexts.{FrameTexts}
use Rattle.pdb_symbolication.specs.declared.findings.Finding.{Finding}
use Rattle.pdb_symbolication.specs.declared.findings.Finding.TheVariants as finding
use Rattle.pdb_symbolication.specs.declared.requests.MemoryMapEntry.{MemoryMapEntry}
use Rattle.pdb_symbolication.specs.declared.wanted_modules.Search.{Search}
use Rattle.pdb_symbolication.specs.declared.wanted_modules.Search.TheVariants.{NotAsked, Impossible, Module}

-- the search for the entry of a memory map at this index; without an entry, none is asked for
abbrev pub search_of : List Search → ℕ → Search
search_of searches index = unwrap_or (slice_get searches index) NotAsked

-- a module is found if there are texts for it
abbrev pub finding_by_texts : Option (Option FrameTexts) → Finding
finding_by_texts (Some (Some texts)) = finding.Found
finding_by_texts texts = finding.NotFound

-- whether the module of a search is found, by the texts of each wanted module
abbrev pub finding_of : List (Option FrameTexts) → Search → Finding
finding_of found NotAsked = finding.NotAsked
finding_of found Impossible = finding.NotFound
finding_of found (Module position) = finding_by_texts (slice_get found position)

-- the greater of two findings: found, then not found, then not asked for
abbrev pub greater : Finding → Finding → Finding
greater finding.Found other = finding.Found
greater finding.NotFound finding.Found = finding.Found
greater finding.NotFound other = finding.NotFound
greater finding.NotAsked other = other

-- a finding, as JSON
abbrev pub finding_text : Finding → List ℕ
finding_text finding.NotAsked = codes "null"
finding_text finding.NotFound = codes "false"
finding_text finding.Found = codes "true"

-- the key of a module: its name, a slash and its debug id
abbrev pub module_key : MemoryMapEntry → List ℕ
module_key entry = string_bytes entry.name ++ (codes "/" ++ string_bytes entry.debug_id)

-- the finding for a key: the greater of the one before, if any, and another
abbrev pub standing : Option Finding → Finding → Finding
standing None found = found
standing (Some before) found = greater before found

-- findings sorted by key, with one more; each key keeps its greater finding
abbrev pub with_finding : List ℕ → Finding → List (List ℕ × Finding) → List (List ℕ × Finding)
with_finding key found known =
    insert_entry (slice_cmp nat_cmp) known key (standing (lookup (is_at (slice_cmp nat_cmp key)) known) found)

-- these findings with those of the entries of a memory map; `index` is that of the first entry
abbrev pub findings_after : List Search → List (Option FrameTexts) → ℕ → List MemoryMapEntry
    → List (List ℕ × Finding) → List (List ℕ × Finding)
findings_after searches found index [] known = known
findings_after searches found index (entry ∷ entries) known = findings_after searches found (index + 1) entries
    (with_finding (module_key entry) (finding_of found (search_of searches index)) known)

-- findings with their keys as bytes
abbrev pub by_bytes : {Y : Type 0} → List (String Y × Finding) → List (List ℕ × Finding)
by_bytes findings = map (λ known. (string_bytes known.0, known.1)) findings

-- a finding: its key and whether the module is found
abbrev pub finding_member : List ℕ × Finding → List ℕ
finding_member known = quoted known.0 ++ (codes ":" ++ finding_text known.1)

-- which modules of a memory map are found: an object whose members have the keys, each once, in ascending order
abbrev pub found_modules : List Search → List (Option FrameTexts) → List MemoryMapEntry → List ℕ
found_modules searches found entries = object (map finding_member (findings_after searches found 0 entries []))
