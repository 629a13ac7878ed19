-- Sites that are nested like calls.
use Rattle.std.specs.Prelude.{◌<◌, ◌≤◌, List, Contains}
use Rattle.pdb_inline.specs.Sites.{Site}

-- sites are well nested: a site that begins between another's symbol and end also ends there
abbrev pub AreWellNested : List Site → Type 0
AreWellNested sites = (outer inner : Site) → Contains sites outer → Contains sites inner
    → outer.position < inner.position → inner.position < outer.symbol.end.0 → inner.symbol.end.0 ≤ outer.symbol.end.0
