-- The tree entry that a Rust value contains, and its link.
use Rattle.std.specs.Prelude.{Option}
use Rattle.gitobject.specs.Trees.{Entry, link_to}
use Rattle.gitobject.specs.declared.links.Link.{Link}
use Rattle.gitobject.specs.declared.trees.TreeEntry.{TreeEntry}

-- the mode, the name and the id of the entry
abbrev pub entry_of : TreeEntry → Entry
entry_of e = record { mode = e.mode.now; name = e.name.now; id = e.id }

-- the link of the entry, or `None` for a gitlink
abbrev pub link_of_entry : TreeEntry → Option Link
link_of_entry e = link_to e.links_to e.id
