-- The parts of URLs and addresses.
use Rattle.std.proofs.Common.{◌≡◌, ◌≢◌, ℕ, Bool, true, false, ◌≤◌, inl, inr, List, [], ◌∷◌, ◌++◌, All, Result, Ok, Err, MatchBool, codes, sym, ap, subst, ◌∙◌}
use Rattle.std.specs.Result.{is_ok}
use Rattle.std.specs.Net.Grammar.{IsIpv6Text, IsNumber, Parses}
use Rattle.std.specs.Str.Parse.{digits_value}
use Rattle.std.specs.Str.Pattern.{FindsTextPrefix, StripsPrefix}
use Rattle.std.specs.declared.net.ipv6_addr.Ipv6Addr.{Ipv6Addr}
use Rattle.std.proofs.lemmas.Bool.{both_ways}
use Rattle.std.proofs.lemmas.List.{append_cancel_left, append_cancel_right}
use Rattle.gitwords.specs.Numbers.{IsPort}
use Rattle.gitwords.specs.Urls.{HasBadPort, IsAuthority, IsAuthorityCause, IsBracketed, IsCut, IsGitUrl, IsHost, IsListenAddress, IsNoAuthority, IsPath, UrlsHaveOneReading, is_path_text}
use Rattle.gitwords.specs.declared.fault.Cause.{Cause}
use Rattle.gitwords.specs.declared.fault.Cause.TheVariants.{Transport, NoPath, BadHost, BadPort, BadPath}
use Rattle.gitwords.proofs.CutLemmas.{cut_first, cut_last, no_host, no_in, numeral_clean}

-- ---- texts that are not URLs

-- the contract of `strip_prefix`, applied to the prefix git://
pub git_begins : (text after : List ℕ) → StripsPrefix (FindsTextPrefix (codes "git://")) text after → text ≡ codes "git://" ++ after
git_begins text after is = is.1.1 ∙ ap (λ l. codes "git://" ++ l) (sym is.2)

module _ (text after : List ℕ) (begins : text ≡ codes "git://" ++ after) where
  after_is : (authority path : List ℕ) → IsCut text authority path → after ≡ authority ++ path
  after_is authority path cut = append_cancel_left (codes "git://") after (authority ++ path) (sym begins ∙ cut.parts)

  pub no_path : All (λ b. b ≢ 47) after → (host : List ℕ) (port : ℕ) (path : List ℕ) → ¬ (IsGitUrl text host port path)
  no_path none host port path url =
      let rest = url.cut.slash.0 in
      let is : after ≡ url.authority ++ 47 ∷ rest = after_is url.authority path url.cut ∙ ap (λ l. url.authority ++ l) url.cut.slash.1 in
      no_in 47 url.authority rest (subst (All (λ b. b ≢ 47)) is none)

  pub cut_of : (authority path : List ℕ) → (after ≡ authority ++ path) × All (λ b. b ≢ 47) authority × ((rest : List ℕ) × (path ≡ 47 ∷ rest)) → IsCut text authority path
  cut_of authority path parts = record { parts = begins ∙ ap (λ l. codes "git://" ++ l) parts.0; before = parts.1; slash = parts.2 }

-- a text can be split into HOST[:PORT] and a path in only one way
cut_once : (text a p b q : List ℕ) → IsCut text a p → IsCut text b q → (a ≡ b) × (p ≡ q)
cut_once text a p b q one two =
    let tails : a ++ p ≡ b ++ q = append_cancel_left (codes "git://") (a ++ p) (b ++ q) (sym one.parts ∙ two.parts) in
    let slashes : a ++ 47 ∷ one.slash.0 ≡ b ++ 47 ∷ two.slash.0 =
    sym (ap (λ l. a ++ l) one.slash.1) ∙ tails ∙ ap (λ l. b ++ l) two.slash.1 in
    let parts = cut_first 47 a b one.slash.0 two.slash.0 one.before two.before slashes in
    (parts.0, one.slash.1 ∙ ap (λ l. 47 ∷ l) parts.1 ∙ sym two.slash.1)

module _ (text authority path : List ℕ) (cut : IsCut text authority path) where
  pub bad_path : ¬ (IsPath path) → (host : List ℕ) (port : ℕ) (other : List ℕ) → ¬ (IsGitUrl text host port other)
  bad_path bad host port other url =
      bad (subst IsPath (cut_once text url.authority other authority path url.cut cut).1 url.is_path)

  pub bad_authority : IsNoAuthority authority → (host : List ℕ) (port : ℕ) (other : List ℕ) → ¬ (IsGitUrl text host port other)
  bad_authority bad host port other url =
      bad host port (subst (λ l. IsAuthority l host port) (cut_once text url.authority other authority path url.cut cut).0 url.names)

pub not_path : (path : List ℕ) → is_path_text path ≡ false → ¬ (IsPath path)
not_path path bad is = both_ways (is_path_text path) bad is.1

-- ---- texts that do not have the form HOST[:PORT]

pub no_colon : (text : List ℕ) → All (λ b. b ≢ 58) text → ¬ (IsHost text) → IsNoAuthority text
no_colon text none whole host port (named, inl alone) = whole (subst IsHost (sym alone.0) named)
no_colon text none whole host port (named, inr (digits, is_port, parts)) = no_in 58 host digits (subst (All (λ b. b ≢ 58)) parts none)

module _ (text front back : List ℕ) (parts : text ≡ front ++ 58 ∷ back) (clean : All (λ b. b ≢ 58) back) where
  one_colon : (host digits : List ℕ) → All (λ b. b ≢ 58) digits → text ≡ host ++ 58 ∷ digits → (front ≡ host) × (back ≡ digits)
  one_colon host digits other is = cut_last 58 front host back digits clean other (sym parts ∙ is)

  pub no_host_before : ¬ (IsHost text) → ¬ (IsHost front) → IsNoAuthority text
  no_host_before whole bad host port (named, inl alone) = whole (subst IsHost (sym alone.0) named)
  no_host_before whole bad host port (named, inr (digits, is_port, is)) =
      bad (subst IsHost (sym (one_colon host digits (numeral_clean digits is_port.number.0.1) is).0) named)

  pub no_port_after : ¬ (IsHost text) → ((port : ℕ) → ¬ (IsPort back port)) → IsNoAuthority text
  no_port_after whole bad host port (named, inl alone) = whole (subst IsHost (sym alone.0) named)
  no_port_after whole bad host port (named, inr (digits, is_port, is)) =
      bad port (subst (λ l. IsPort l port) (sym (one_colon host digits (numeral_clean digits is_port.number.0.1) is).1) is_port)

pub bad_port : (text front back : List ℕ) → text ≡ front ++ 58 ∷ back → IsHost front → ((port : ℕ) → ¬ (IsPort back port)) → HasBadPort text
bad_port text front back parts named bad = record { host = front; digits = back; parts = parts; names = named; bad = bad }

pub no_authority : (text : List ℕ) (cause : Cause) → IsAuthorityCause text cause → IsNoAuthority text
no_authority text BadHost is = is
no_authority text BadPort is = is.0
no_authority text (Transport transport) is = absurd is
no_authority text NoPath is = absurd is
no_authority text BadPath is = absurd is

-- ---- brackets

module _ (text inner : List ℕ) (parts : text ≡ 91 ∷ (inner ++ 93 ∷ [])) where
  same_inner : (other : List ℕ) → text ≡ 91 ∷ (other ++ 93 ∷ []) → other ≡ inner
  same_inner other is =
      let same : 91 ∷ (other ++ 93 ∷ []) ≡ 91 ∷ (inner ++ 93 ∷ []) = sym is ∙ parts in
      let tails : other ++ 93 ∷ [] ≡ inner ++ 93 ∷ [] = cc in append_cancel_right other inner (93 ∷ []) tails

  spelled : {E : Type 0} (r : Result Ipv6Addr E) → Parses IsIpv6Text inner r → MatchBool (is_ok r) (IsBracketed text) (¬ (IsBracketed text))
  spelled (Ok address) is = (inner, address, parts, is)
  spelled (Err e) none = λ (other, address, begins, is). none address (subst (λ l. IsIpv6Text l address) (same_inner other begins) is)

  pub bracketed : {E : Type 0} (r : Result Ipv6Addr E) (b : Bool) → Parses IsIpv6Text inner r → b ≡ is_ok r → MatchBool b (IsBracketed text) (¬ (IsBracketed text))
  bracketed r b is same = subst (λ t. MatchBool t (IsBracketed text) (¬ (IsBracketed text))) (sym same) (spelled r is)

-- ---- addresses of listening sockets

module _ (text front back : List ℕ) (parts : text ≡ front ++ 58 ∷ back) (clean : All (λ b. b ≢ 58) back) where
  address_parts : (address : IsListenAddress text) → (front ≡ address.host) × (back ≡ address.digits)
  address_parts address =
      one_colon text front back parts clean address.host address.digits (numeral_clean address.digits address.number.0.1) address.parts

  pub no_listen_host : ¬ (IsHost front) → ¬ (IsListenAddress text)
  no_listen_host bad address = bad (subst IsHost (sym (address_parts address).0) address.names)

  -- the text `back` after a host and a colon decides whether the whole text is a listening address: `b` states whether
  -- `back` denotes a number up to 65,535
  pub listens : (b : Bool) → IsHost front → MatchBool b ((port : ℕ) × IsNumber 10 back port × (port ≤ 65_535)) ((port : ℕ) → port ≤ 65_535 → ¬ (IsNumber 10 back port))
      → MatchBool b (IsListenAddress text) (¬ (IsListenAddress text))
  listens true named (port, number, most) = record { host = front; digits = back; port = port; parts = parts; names = named; number = number; most = most }
  listens false named none = λ address. none address.port address.most (subst (λ l. IsNumber 10 l address.port) (sym (address_parts address).1) address.number)

pub no_listen_colon : (text : List ℕ) → All (λ b. b ≢ 58) text → ¬ (IsListenAddress text)
no_listen_colon text none address = no_in 58 address.host address.digits (subst (All (λ b. b ≢ 58)) address.parts none)

-- ---- uniqueness of host, port and path

same_authority : (text host other : List ℕ) (port number : ℕ) → IsAuthority text host port → IsAuthority text other number → (host ≡ other) × (port ≡ number)
same_authority text host other port number (named, inl (is, default)) (names, inl (same, standard)) = (sym is ∙ same, default ∙ sym standard)
same_authority text host other port number (named, inl (is, default)) (names, inr (digits, is_port, parts)) =
    absurd (no_host text other digits parts is_port.number.0 (subst IsHost (sym is) named))
same_authority text host other port number (named, inr (digits, is_port, parts)) (names, inl (same, standard)) =
    absurd (no_host text host digits parts is_port.number.0 (subst IsHost (sym same) names))
same_authority text host other port number (named, inr (digits, is_port, parts)) (names, inr (others, is_number, same)) =
    let both = cut_last 58 host other digits others (numeral_clean digits is_port.number.0.1) (numeral_clean others is_number.number.0.1) (sym parts ∙ same) in
    (both.0, sym is_port.number.1 ∙ ap (digits_value 10) both.1 ∙ is_number.number.1)

pub urls_have_one_reading : UrlsHaveOneReading
urls_have_one_reading text host other port number path rest one two =
    let cuts = cut_once text one.authority path two.authority rest one.cut two.cut in
    let parts = same_authority one.authority host other port number one.names (subst (λ l. IsAuthority l other number) (sym cuts.0) two.names) in
    (parts.0, parts.1, cuts.1)
