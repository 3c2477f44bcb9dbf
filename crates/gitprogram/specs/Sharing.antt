-- A repository that several connections share, and the packs that their clients receive.
use Rattle.std.specs.Prelude.{◌≡◌, ◌≤◌, ◌++◌, ℕ, List, Option, None, length, ⊤}
use Rattle.std.specs.declared.alloc.Global.{Global}
use Rattle.gobject.specs.declared.fault.PackFault.{PackFault}
use Rattle.gobject.specs.declared.node.Entry.{Entry}
use Rattle.ganswer.specs.Servers.{Server}
use Rattle.gitrepository.specs.Packs.{IsPackOf, IsWholePack}
use Rattle.gitrepository.specs.Parts.{IsGoing}
use Rattle.gitrepository.specs.declared.parts.StoreParts.{StoreParts}
use Rattle.gitprogram.specs.declared.opening.Extent.{Extent}
use Rattle.gitprogram.specs.declared.opening.Extent.TheVariants as extent

-- the server for a repository, whether the whole history was read or only the objects that refs point to
abbrev pub server_in : Extent → Server Global
server_in (extent.Whole server) = server
server_in (extent.Tips server) = server

-- a packer sends a pack of the listed commits and tags
abbrev pub packs_listed : List (Entry Global) → List ℕ → Type 0
packs_listed list pack = IsPackOf list pack

-- the contract allows a packer to fail with any fault
abbrev pub fails_any : List (Entry Global) → PackFault → Type 0
fails_any list fault = ⊤

-- the bytes that a packer can still send: if no fault occurs, they complete the pack whose earlier bytes were already
-- sent
abbrev pub gives_rest : StoreParts Global → List ℕ → Option PackFault → Type 0
gives_rest parts bytes end = end ≡ None → (length bytes ≤ parts.outgoing.left)
    × ((count : ℕ) (before : List ℕ) → IsGoing count parts.outgoing before → IsWholePack count (before ++ bytes))

-- the maximum number of bytes that the rest of a pack may have
abbrev pub most_left : StoreParts Global → ℕ
most_left parts = parts.outgoing.left
