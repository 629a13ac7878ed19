-- Texts of answers, written by hand in the form of the symbolication API.
use Rattle.std.proofs.Common.{◌≡◌, ℕ, List, [], ◌∷◌, ◌++◌, refl, codes, string_bytes, Option, Some, None, Bor}
use Rattle.std.specs.Fmt.{digits}
use Rattle.std.specs.Str.{chars}
use Rattle.pdb_symbolication.specs.Findings.{with_finding}
use Rattle.pdb_symbolication.specs.FrameTexts.{place_members, texts_of}
use Rattle.pdb_symbolication.specs.JsonObjects.{later}
use Rattle.pdb_symbolication.specs.RequestAnswers.{error_text, frame_object, job_answer, text_at}
use Rattle.pdb_symbolication.specs.declared.findings.Finding.TheVariants.{Found, NotFound, NotAsked}
use Rattle.pdb_symbolication.specs.declared.frame_texts.FrameTexts.{FrameTexts}
use Rattle.pdb_symbolication.specs.declared.frame_texts.SymbolizedFrame.{SymbolizedFrame}
use Rattle.pdb_symbolication.specs.declared.requests.FrameModule.TheVariants.{Unknown, At}
use Rattle.pdb_symbolication.specs.declared.requests.MemoryMapEntry.{MemoryMapEntry}
use Rattle.pdb_symbolication.specs.declared.requests.Stack.{Stack}
use Rattle.pdb_symbolication.specs.declared.wanted_modules.Search.TheVariants as search
use Rattle.pdb_symbolication.specs.declared.wanted_modules.WantedModule.{WantedModule}

abbrev known : List ℕ → Option (Bor (List ℕ))
known text = Some (record { ref_ptr = (0, 0); now = text })

abbrev place : List ℕ → List ℕ → ℕ → SymbolizedFrame
place function file line = record { function = known function; file = known file; line = Some line }

-- a function with two calls that are inlined into it, the innermost first
pub inlined_calls : later (place_members 38 (place (codes "Point::length() const") (codes "C:\\shapes.h") 10
    ∷ (place (codes "Picture::draw(int)") (codes "C:\\main.cpp") 29
    ∷ (place (codes "Framed::draw(int)") (codes "C:\\main.cpp") 36 ∷ []))))
    ≡ codes ",\"function\":\"Framed::draw(int)\",\"function_offset\":\"0x26\",\"file\":\"C:\\\\main.cpp\",\"line\":36,"
    ++ (codes "\"inlines\":[{\"function\":\"Point::length() const\",\"file\":\"C:\\\\shapes.h\",\"line\":10},"
    ++ codes "{\"function\":\"Picture::draw(int)\",\"file\":\"C:\\\\main.cpp\",\"line\":29}]")
unfolding digits chars lib.Utf8.encode
inlined_calls = refl

-- a function of whose name alone something is known, and one of which nothing is
pub name_alone : later (place_members 0 (record { function = known (codes "f"); file = None; line = None } ∷ []))
    ≡ codes ",\"function\":\"f\",\"function_offset\":\"0x0\""
unfolding digits chars lib.Utf8.encode
name_alone = refl

pub nothing_known : later (place_members 0 (record { function = None; file = None; line = None } ∷ [])) ≡ []
nothing_known = refl

-- an inlined call of which nothing is known
pub unknown_call : later (place_members 1 (record { function = None; file = None; line = None }
    ∷ (record { function = None; file = None; line = Some 7 } ∷ [])))
    ≡ codes ",\"line\":7,\"inlines\":[{}]"
unfolding digits
unknown_call = refl

-- a frame whose module isn't known
pub unknown_frame : frame_object (record { memory_map = []; searches = []; modules = []; found = [] }) 3
    (record { «module» = Unknown; offset = 4406 })
    ≡ codes "{\"frame\":3,\"module\":\"<unknown>\",\"module_offset\":\"0x1136\"}"
unfolding digits chars lib.Utf8.encode
unknown_frame = refl

-- of two texts that of the second offset; and none of an offset that isn't there
pub second_text : text_at (4096 ∷ (4406 ∷ [])) (codes "a" ∷ (codes "b" ∷ [])) 4406 ≡ codes "b"
second_text = refl

pub no_text : text_at (4096 ∷ (4406 ∷ [])) (codes "a" ∷ (codes "b" ∷ [])) 4100 ≡ []
no_text = refl

-- findings in the order of their keys, of two with one key the greater
pub ordered_findings : with_finding (codes "b/1") NotFound (with_finding (codes "a/1") NotAsked
    (with_finding (codes "b/1") Found [])) ≡ (codes "a/1", NotAsked) ∷ ((codes "b/1", Found) ∷ [])
ordered_findings = refl

-- the line of what is no request
pub not_json : error_text (codes "no \"jobs\"") ≡ codes "{\"error\":\"no \\\"jobs\\\"\"}\n"
unfolding chars lib.Utf8.encode
not_json = refl

-- a job of one frame, at which a function was found
pub job_of_one_frame : (entry : MemoryMapEntry) (stack : Stack) (wanted : WantedModule) (texts : FrameTexts)
    → string_bytes entry.name ≡ codes "app.pdb" → string_bytes entry.debug_id ≡ codes "0A1"
    → stack.frames.items ≡ record { «module» = At 0; offset = 16 } ∷ [] → wanted.offsets.items ≡ 16 ∷ []
    → texts_of texts ≡ codes ",\"line\":7" ∷ []
    → job_answer (record {
      memory_map = entry ∷ [];
      searches = search.Module 0 ∷ [];
      modules = wanted ∷ [];
      found = Some texts ∷ [];
    }) (stack ∷ [])
    ≡ codes "{\"stacks\":[[{\"frame\":0,\"module\":\"app.pdb\",\"module_offset\":\"0x10\",\"line\":7}]],"
    ++ codes "\"found_modules\":{\"app.pdb/0A1\":true}}"
unfolding digits chars lib.Utf8.encode
job_of_one_frame entry stack wanted texts name id frames offsets text = rw (frames, offsets, text, name, id) refl
