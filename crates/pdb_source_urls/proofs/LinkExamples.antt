-- Source Link maps and the URLs that they give, worked out by hand.
use Rattle.std.proofs.Common.{◌≡◌, true, false, ℕ, List, [], ◌∷◌, ◌++◌, refl, codes}
use Rattle.std.specs.Prelude.{None, Some, ⊤}
use Rattle.std.specs.Fmt.{digits}
use Rattle.std.specs.Str.{chars, is_utf8}
use Rattle.serde_json.proofs.OnLiterals.{serde_json_on_literals}
use Rattle.pdb_source_urls.specs.LinkUrls.{link_url}
use Rattle.pdb_source_urls.specs.NamedStreams.{numbered_name}
use Rattle.pdb_source_urls.specs.SourceLinks.{Link, with_text}

-- the definitions of JSON and of UTF-8, which the examples compute
unfoldable texts : ⊤
unfolding is_utf8 chars serde_json_on_literals with_text
texts = tt

-- an entry for all files below a path, and one for a file
abbrev below : List ℕ → List ℕ → Link
below path url = record { path = path; any_rest = true; url = url }

abbrev single : List ℕ → List ℕ → Link
single path url = record { path = path; any_rest = false; url = url }

-- a map of two entries, in the order of their paths
two_entries : with_text (codes "{\"documents\":{\"C:\\\\b\":\"http://u/b\",\"C:\\\\a\\\\*\":\"http://u/*?x\"}}") []
    ≡ below (codes "C:\\a\\") (codes "http://u/*?x") ∷ (single (codes "C:\\b") (codes "http://u/b") ∷ [])
unfolding texts
two_entries = refl

-- a byte order mark before the text
after_mark : with_text (0xef ∷ 0xbb ∷ 0xbf ∷ codes "{\"documents\":{\"b\":\"http://u/b\"}}") []
    ≡ single (codes "b") (codes "http://u/b") ∷ []
unfolding texts
after_mark = refl

-- entries that don't count: a star within the path, and two stars in it
no_path : with_text (codes "{\"documents\":{\"a*b\":\"*\",\"**\":\"*\"}}") [] ≡ []
unfolding texts
no_path = refl

-- no star and two stars in the URL, one in the URL alone, and a value that is no text
no_url : with_text (codes "{\"documents\":{\"c*\":\"u\",\"d*\":\"**\",\"e\":\"*\",\"f\":1}}") [] ≡ []
unfolding texts
no_url = refl

-- texts that have no map
no_map : with_text (codes "{\"documents\":[]}") [] ≡ []
unfolding texts
no_map = refl

no_object : with_text (codes "[1]") [] ≡ []
unfolding texts
no_object = refl

no_json : with_text (codes "{\"documents\":{\"b\":\"u\"}") [] ≡ []
unfolding texts
no_json = refl

no_utf8 : with_text (codes "{\"documents\":{\"b\":\"u" ++ (0xff ∷ codes "\"}}")) [] ≡ []
unfolding texts
no_utf8 = refl

-- the longest path counts, in letters of any case; in the rest of the name a space, `é` (two bytes) and `#` are
-- escaped, and a backslash is written as a slash
abbrev links : List Link
links = below (codes "C:\\") (codes "http://u/all/*") ∷ (below (codes "C:\\Src\\") (codes "http://u/*?v=1")
    ∷ (below (codes "c:\\src\\") (codes "http://u/later/*") ∷ (below (codes "D:\\one.c") (codes "http://u/more/*")
    ∷ (single (codes "d:\\ONE.c") (codes "http://u/1") ∷ []))))

longest_path : link_url links (codes "c:\\sRC\\a b\\" ++ (0xc3 ∷ 0xa9 ∷ codes "-1_2.~#.c"))
    ≡ Some (codes "http://u/a%20b/%C3%A9-1_2.~%23.c?v=1")
unfolding digits
longest_path = refl

-- of equally long paths the one without a star counts
without_star : link_url links (codes "D:\\one.C") ≡ Some (codes "http://u/1")
unfolding digits
without_star = refl

-- the name without a star has to be the whole path
longer_name : link_url links (codes "d:\\one.c/x") ≡ Some (codes "http://u/more//x")
unfolding digits
longer_name = refl

-- no entry fits
no_link : link_url links (codes "E:\\one.c") ≡ None
no_link = refl

-- the name of a Source Link stream with a number
with_number : numbered_name 12 ≡ codes "sourcelink$12" ++ (0 ∷ [])
unfolding digits
with_number = refl
