-- The messages that a server receives: the first line of a connection, or a request.
use Rattle.std.specs.Prelude.{◌≡◌, Bool, List}
use Rattle.gpkt.specs.Packets.{Packet}
use Rattle.ggrammar.specs.Grammar.{Judge}
use Rattle.ghello.specs.Hello as hello
use Rattle.ghello.specs.steps.HelloReading.{hello_in}
use Rattle.grequest.specs.Requests as request
use Rattle.grequest.specs.steps.RequestState.{HoldsPackets}
use Rattle.gserver.specs.declared.heard.Heard.{Heard}
use Rattle.gserver.specs.declared.heard.Heard.TheVariants as heard

abbrev pub judge_of : {A : Type 0} → Heard A → Judge
judge_of (heard.Hello reader) = hello.judge
judge_of (heard.Request reader) = request.judge reader.limits reader.format

abbrev pub brings_of : {A : Type 0} → Heard A → List Packet → Packet → Bool
brings_of (heard.Hello reader) = hello.brings
brings_of (heard.Request reader) = request.brings

abbrev pub holds_of : {A : Type 0} → Heard A → List Packet → Type 0
holds_of (heard.Hello reader) packets = reader.hello ≡ hello_in packets
holds_of (heard.Request reader) packets = HoldsPackets reader packets
