-- The properties of a parsed command.
use Rattle.std.specs.Prelude.{ℕ, ◌≤◌, List, length, IfSome}
use Rattle.gitwords.specs.Urls.{IsGitUrl, IsListenAddress}
use Rattle.gitwords.specs.declared.command.GitrepoCommand.{GitrepoCommand}
use Rattle.gitwords.specs.declared.command.GitrepoCommand.TheVariants.{Check, Clone, Fetch, Ls, Serve, UploadPack}
use Rattle.gitwords.specs.declared.url.GitUrl.{GitUrl}

-- the fields of this value are the parts of a valid URL
abbrev pub IsUrl : GitUrl → Type 0
IsUrl url = (text : List ℕ) × IsGitUrl text url.host.now url.port url.path.now

-- a valid limit on the number of connections, from 1 to 1,000,000
abbrev pub IsConnectionLimit : ℕ → Type 0
IsConnectionLimit count = (1 ≤ count) × (count ≤ 1_000_000)

-- The command is well-formed: its URL is valid, a fetch has a refspec, a server has an address HOST:PORT, and each
-- given limit on connections is valid.
abbrev pub IsCommand : GitrepoCommand → Type 0
IsCommand (Check dir) = Unit {0}
IsCommand (Clone asked) = IsUrl asked.url
IsCommand (Fetch asked) = IsUrl asked.url × (1 ≤ length asked.specs.items)
IsCommand (Ls asked) = IsUrl asked.url
IsCommand (Serve asked) =
    IsListenAddress asked.listen.now × IfSome asked.connections IsConnectionLimit
    × IfSome asked.max_connections IsConnectionLimit × IfSome asked.max_per_address IsConnectionLimit
IsCommand (UploadPack dir) = Unit {0}
