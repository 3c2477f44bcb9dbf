-- Definitions for the proofs of reading a hello.
use Rattle.std.specs.Prelude.{List, [], ◌∷◌, Option, None}
use Rattle.gpkt.specs.Packets.{Packet, Data}
use Rattle.ghello.specs.Hello.{Hello, hello_of}
use Rattle.ghello.specs.declared.hello.HelloText.{HelloText}

-- the value of a borrowed hello, without the addresses of its bytes
abbrev pub hello_view : HelloText → Hello
hello_view lent = record { path = lent.path.now; host = lent.host.now }

-- the hello that the packets so far encode
abbrev pub hello_in : List Packet → Option Hello
hello_in (Data payload ∷ []) = hello_of payload
hello_in _ = None
