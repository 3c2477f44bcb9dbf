-- URLs of the `git://` transport (git-clone(1), "GIT URLS"): git://HOST[:PORT]/PATH
use Rattle.std.specs.Prelude.{◌≡◌, ◌≢◌, ◌⊎◌, ℕ, ◌≤◌, Bool, ◌==◌, ◌&&◌, ◌||◌, IsTrue, List, [], ◌∷◌, ◌++◌, All, codes}
use Rattle.std.specs.Prelude.{length, nat_le, not}
use Rattle.std.specs.List.{list_all}
use Rattle.std.specs.Net.Grammar.{IsIpv6Text, IsNumber}
use Rattle.std.specs.declared.net.ipv6_addr.Ipv6Addr.{Ipv6Addr}
use Rattle.gitwords.specs.Numbers.{IsPort}
use Rattle.gitwords.specs.declared.fault.Cause.{Cause}
use Rattle.gitwords.specs.declared.fault.Cause.TheVariants.{Transport, NoPath, BadHost, BadPort, BadPath}

-- ---- hosts

-- a byte of a host name: a letter, a digit, a dash, a dot or an underscore
abbrev pub is_name_byte : ℕ → Bool
is_name_byte b =
    (nat_le 65 b && nat_le b 90) || (nat_le 97 b && nat_le b 122) || (nat_le 48 b && nat_le b 57)
    || b == 45 || b == 46 || b == 95

-- the maximum length of a host in bytes, in URLs and in the first line of a `git://` connection
abbrev pub max_host : ℕ
max_host = 255

-- a host name or an IPv4 address
abbrev pub is_host_name : List ℕ → Bool
is_host_name host = nat_le 1 (length host) && nat_le (length host) max_host && list_all is_name_byte host

-- an IPv6 address in brackets
abbrev pub IsBracketed : List ℕ → Type 0
IsBracketed host = (inner : List ℕ) × (address : Ipv6Addr) × (host ≡ 91 ∷ (inner ++ 93 ∷ [])) × IsIpv6Text inner address

abbrev pub IsHost : List ℕ → Type 0
IsHost host = IsTrue (is_host_name host) ⊎ IsBracketed host

-- ---- addresses

-- the default port of `git://`
abbrev pub default_port : ℕ
default_port = 9418

-- the text is HOST[:PORT], with this host and this port
abbrev pub IsAuthority : List ℕ → List ℕ → ℕ → Type 0
IsAuthority text host port =
    IsHost host
    × (((text ≡ host) × (port ≡ default_port))
    ⊎ ((digits : List ℕ) × IsPort digits port × (text ≡ host ++ 58 ∷ digits)))

-- the text is HOST:PORT, the address of a listening socket; the port 0 lets the system pick a port
pub record IsListenAddress (text : List ℕ) : Type 0 where
  pub host : List ℕ
  pub digits : List ℕ
  pub port : ℕ
  pub parts : text ≡ host ++ 58 ∷ digits
  pub names : IsHost host
  pub number : IsNumber 10 digits port
  pub most : port ≤ 65_535

-- ---- paths

-- a printable ASCII byte that is not a percent sign
abbrev pub is_path_byte : ℕ → Bool
is_path_byte b = nat_le 32 b && nat_le b 126 && not (b == 37)

-- the maximum length of a path in bytes, in URLs and in the first line of a `git://` connection
abbrev pub max_path : ℕ
max_path = 1000

-- whether a text has at most 1,000 bytes, all of which are printable ASCII without percent signs
abbrev pub is_path_text : List ℕ → Bool
is_path_text text = nat_le (length text) max_path && list_all is_path_byte text

-- a path: a slash and any number of path bytes, with at most 1,000 bytes in total
abbrev pub IsPath : List ℕ → Type 0
IsPath path = ((rest : List ℕ) × (path ≡ 47 ∷ rest)) × IsTrue (is_path_text path)

-- ---- URLs

-- a text that begins with git:// is split at the next slash into HOST[:PORT] and the path
pub record IsCut (text authority path : List ℕ) : Type 0 where
  pub parts : text ≡ codes "git://" ++ (authority ++ path)
  pub before : All (λ b. b ≢ 47) authority
  pub slash : (rest : List ℕ) × (path ≡ 47 ∷ rest)

-- the text is git://HOST[:PORT]/PATH, with this host, port and path
pub record IsGitUrl (text host : List ℕ) (port : ℕ) (path : List ℕ) : Type 0 where
  pub authority : List ℕ
  pub cut : IsCut text authority path
  pub names : IsAuthority authority host port
  pub is_path : IsPath path

-- a URL has at most one host, one port and one path
abbrev pub UrlsHaveOneReading : Type 0
UrlsHaveOneReading = (text host other : List ℕ) (port number : ℕ) (path rest : List ℕ)
    → IsGitUrl text host port path → IsGitUrl text other number rest → (host ≡ other) × (port ≡ number) × (path ≡ rest)

-- the text does not have the form HOST[:PORT]
abbrev pub IsNoAuthority : List ℕ → Type 0
IsNoAuthority text = (host : List ℕ) (port : ℕ) → ¬ (IsAuthority text host port)

-- the text is a host and a colon, but no valid port follows
pub record HasBadPort (text : List ℕ) : Type 0 where
  pub host : List ℕ
  pub digits : List ℕ
  pub parts : text ≡ host ++ 58 ∷ digits
  pub names : IsHost host
  pub bad : (port : ℕ) → ¬ (IsPort digits port)

-- The condition under which a text is refused for this cause: the text does not begin with git://, has no slash after
-- the host, or has a malformed path, host or port.
abbrev pub IsCause : List ℕ → Cause → Type 0
IsCause text (Transport transport) = (rest : List ℕ) → ¬ (text ≡ codes "git://" ++ rest)
IsCause text NoPath = (rest : List ℕ) × (text ≡ codes "git://" ++ rest) × All (λ b. b ≢ 47) rest
IsCause text BadPath = (authority path : List ℕ) × IsCut text authority path × ¬ (IsPath path)
IsCause text BadHost = (authority path : List ℕ) × IsCut text authority path × IsNoAuthority authority
IsCause text BadPort = (authority path : List ℕ) × IsCut text authority path × HasBadPort authority

-- the condition under which this cause explains why a text does not have the form HOST[:PORT]
abbrev pub IsAuthorityCause : List ℕ → Cause → Type 0
IsAuthorityCause text BadHost = IsNoAuthority text
IsAuthorityCause text BadPort = IsNoAuthority text × HasBadPort text
IsAuthorityCause text (Transport transport) = ⊥
IsAuthorityCause text NoPath = ⊥
IsAuthorityCause text BadPath = ⊥
