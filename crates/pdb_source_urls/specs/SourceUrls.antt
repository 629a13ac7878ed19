-- Where the source files of a program can be fetched, as its PDB file says it.
use Rattle.std.specs.Prelude.{ℕ, List, Option, Some, None}
use Rattle.pdb_msf.specs.Msf.{Msf}
use Rattle.pdb_source_urls.specs.LinkUrls.{link_url}
use Rattle.pdb_source_urls.specs.NamedStreams.{links_of, server_in}
use Rattle.pdb_source_urls.specs.ServerUrls.{server_url}
use Rattle.pdb_source_urls.specs.SourceLinks.{Link}
use Rattle.pdb_source_urls.specs.SourceServer.{Server}

-- what a file says: the entries of its Source Link maps, and its source server data
pub record Urls : Type 0 where
  pub links : List Link
  pub server : Server

-- what a file says, by its streams
abbrev pub urls_of : Msf → Urls
urls_of msf = record { links = links_of msf; server = server_in msf }

-- the first of two URLs that there is
abbrev pub first_url : Option (List ℕ) → Option (List ℕ) → Option (List ℕ)
first_url (Some url) other = Some url
first_url None other = other

-- the URL of a source file: that by Source Link, or else that by source server data
abbrev pub url_of : Urls → List ℕ → Option (List ℕ)
url_of urls file = first_url (link_url urls.links file) (server_url urls.server file)
