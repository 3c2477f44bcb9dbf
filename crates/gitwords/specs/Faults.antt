-- The sentences for texts that are not `git://` URLs.
use Rattle.std.specs.Prelude.{ℕ, List, ◌++◌, codes}
use Rattle.gitwords.specs.declared.fault.UrlFault.{UrlFault}
use Rattle.gitwords.specs.declared.fault.Cause.{Cause}
use Rattle.gitwords.specs.declared.fault.Cause.TheVariants as cause
use Rattle.gitwords.specs.declared.fault.Transport.{Transport}
use Rattle.gitwords.specs.declared.fault.Transport.TheVariants.{Ssh, Http, File, Unknown}

abbrev pub transport_text : Transport → List ℕ
transport_text Ssh = codes "is reached by ssh: use git, since gitrepo has no ssh"
transport_text Http = codes "is reached by HTTP: use git, since gitrepo has no HTTP"
transport_text File = codes "is a file: use git, since gitrepo has no local transport"
transport_text Unknown = codes "has an unknown transport: write git://HOST[:PORT]/PATH"

abbrev pub cause_text : Cause → List ℕ
cause_text (cause.Transport transport) = transport_text transport
cause_text cause.NoPath = codes "names no repository: write git://HOST[:PORT]/PATH"
cause_text cause.BadHost = codes "has a malformed host: write a name, an IPv4 address, or [an IPv6 address]"
cause_text cause.BadPort = codes "has a malformed port: write a number from 1 to 65535"
cause_text cause.BadPath = codes "has a malformed path: write at most 1000 printable ASCII characters, and no %"

-- the sentence: the URL in quotes, followed by the text for the cause
abbrev pub url_fault_text : UrlFault → List ℕ
url_fault_text fault = codes "'" ++ fault.url.now ++ codes "' " ++ cause_text fault.cause
