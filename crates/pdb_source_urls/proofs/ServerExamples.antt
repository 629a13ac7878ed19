-- Source server data and the URLs that it gives, worked out by hand.
use Rattle.std.proofs.Common.{◌≡◌, false, ℕ, List, [], ◌∷◌, ◌++◌, refl, codes}
use Rattle.std.specs.Prelude.{None, Option, Some, ⊤, replicate}
use Rattle.std.specs.Str.{chars, is_utf8}
use Rattle.pdb_source_urls.specs.Expansion.{Given, Value, added, expand, value_of}
use Rattle.pdb_source_urls.specs.ServerUrls.{server_url, target}
use Rattle.pdb_source_urls.specs.ServerFiles.{file_of}
use Rattle.pdb_source_urls.specs.SourceServer.{Definition, Server, server_of}
use Rattle.pdb_source_urls.specs.SourceUrls.{Urls, url_of}

-- the definitions of expansion and of UTF-8, which the examples compute
unfoldable urls : ⊤
unfolding is_utf8 chars lib.Utf8.encode server_of target expand
urls = tt

abbrev variable : List ℕ → List ℕ → Definition
variable name value = record { name = name; value = value }

-- sections whose lines end in line feeds, one of them after a carriage return; what follows the end says nothing
sections : server_of (codes "A=0\nSRCSRV: ini ---\nVERSION=2" ++ (13 ∷ codes "\nSRCSRV: variables ---\nB==1=\nnone\n")
    ++ codes "SRCSRV: source files ---\nC:\\a.c*x=1\nd.c\nSRCSRV: end ---\nE=1")
    ≡ record {
      variables = variable (codes "VERSION") (codes "2") ∷ (variable (codes "B") (codes "=1=") ∷ []);
      files = record { name = codes "C:\\a.c"; line = codes "C:\\a.c*x=1" }
          ∷ (record { name = codes "d.c"; line = codes "d.c" } ∷ []);
    }
unfolding urls
sections = refl

-- data with these variables, and a line of a file with two more fields
abbrev data_of : List Definition → Server
data_of variables =
    record { variables = variables; files = file_of (codes "C:\\a.c*x/%y%*z") ∷ (file_of (codes "c:\\A.C*w") ∷ []) }

abbrev with_target : List ℕ → List Definition → List Definition
with_target text variables = variable (codes "SrcSrvTrg") text ∷ variables

-- variables that name others, in letters of any case; the last definition of a name and the first line of a file count,
-- and fields stand as they are
nested : server_url (data_of (with_target (codes "https://%Server%/%var2%-%VAR3%")
    (variable (codes "server") (codes "no") ∷ (variable (codes "SERVER") (codes "%host%") ∷ (variable (codes "host")
    (codes "h") ∷ []))))) (codes "c:\\a.C") ≡ Some (codes "https://h/x/%y%-z")
unfolding urls
nested = refl

-- functions of a text with parentheses in it, of a field, and of what another gives, in letters of any case
abbrev source : Given
source = record { variables = variable (codes "h") (codes "host") ∷ []; line = codes "C:\\a.c*h" }

abbrev expanded : List ℕ → ℕ → Option Value
expanded text used = Some (record { text = text; used = used })

backslashes : expand 2 source (codes "%FNBKSL%(a/(b)/c)/d") 5 ≡ expanded (codes "a\\(b)\\c/d") 5
unfolding urls
backslashes = refl

base : expand 2 source (codes "%fnfile%(%var1%)") 0 ≡ expanded (codes "a.c") 1
unfolding urls
base = refl

value : expand 3 source (codes "%fnvar%(%var2%)") 0 ≡ expanded (codes "host") 2
unfolding urls
value = refl

of_another : expand 3 source (codes "%fnvar%(%fnfile%(a/h))") 0 ≡ expanded (codes "host") 1
unfolding urls
of_another = refl

-- the values in it nest more deeply
too_deep : expand 2 source (codes "%fnvar%(%fnfile%(a/h))") 0 ≡ None
unfolding urls
too_deep = refl

-- the last variable that may be used, and one more
last_use : value_of (expand 1 source) source (codes "H") 999 ≡ expanded (codes "host") 1000
unfolding urls
last_use = refl

one_use_more : value_of (expand 1 source) source (codes "H") 1000 ≡ None
one_use_more = refl

-- a variable that isn't defined, a `%` and a `(` that aren't closed, and a variable that names itself
unknown_variable : server_url (data_of (with_target (codes "http://%targ%") [])) (codes "C:\\a.c") ≡ None
unfolding urls
unknown_variable = refl

no_field : server_url (data_of (with_target (codes "http://%var4%") [])) (codes "C:\\a.c") ≡ None
unfolding urls
no_field = refl

open_name : server_url (data_of (with_target (codes "http://%var2") [])) (codes "C:\\a.c") ≡ None
unfolding urls
open_name = refl

open_parenthesis : server_url (data_of (with_target (codes "http://%fnfile%((a)") [])) (codes "C:\\a.c") ≡ None
unfolding urls
open_parenthesis = refl

endless : server_url (data_of (with_target (codes "http://%srcsrvtrg%") [])) (codes "C:\\a.c") ≡ None
unfolding urls
endless = refl

-- a text of 4,096 bytes, and a longer one
abbrev zeros : ℕ → Value
zeros count = record { text = replicate count 48; used = 0 }

longest_text : added (zeros 4095) (record { value = zeros 1; rest = [] })
    ≡ Some (record { value = zeros 4096; rest = [] })
longest_text = refl

longer_text : added (zeros 4096) (record { value = zeros 1; rest = [] }) ≡ None
longer_text = refl

longer_value : expand 1 source (replicate 4097 48) 0 ≡ None
unfolding urls
longer_value = refl

-- a file that a command fetches, a URL of no server, and a file that has no line
by_command : server_url (data_of (with_target (codes "http://h") (variable (codes "srcsrvcmd") [] ∷ [])))
    (codes "C:\\a.c") ≡ None
unfolding urls
by_command = refl

no_server_url : server_url (data_of (with_target (codes "C:\\http://h") [])) (codes "C:\\a.c") ≡ None
unfolding urls
no_server_url = refl

no_line : server_url (data_of (with_target (codes "http://h") [])) (codes "a.c") ≡ None
unfolding urls
no_line = refl

-- Source Link counts before source server data
abbrev both : Urls
both = record {
  links = record { path = codes "c:\\b.c"; any_rest = false; url = codes "http://link/b" } ∷ [];
  server = record {
    variables = with_target (codes "http://server") [];
    files = file_of (codes "C:\\a.c")
        ∷ (file_of (codes "C:\\b.c") ∷ []);
  };
}

by_link : url_of both (codes "C:\\B.c") ≡ Some (codes "http://link/b")
unfolding urls
by_link = refl

by_server : url_of both (codes "C:\\A.c") ≡ Some (codes "http://server")
unfolding urls
by_server = refl
