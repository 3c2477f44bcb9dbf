-- A law about hellos only. The other laws about hellos use definitions that all kinds of messages share.
use Rattle.std.specs.Prelude.{◌≡◌, ◌↔◌, [], ◌∷◌, Some}
use Rattle.gpkt.specs.Packets.{Bytes, Data}
use Rattle.ghello.specs.Hello.{Hello, Says, hello_of}

-- the parser of payloads returns a hello if and only if the packet encodes that hello
abbrev pub PayloadSaysHello : Type 0
PayloadSaysHello =
    (payload : Bytes) (hello : Hello) → (hello_of payload ≡ Some hello) ↔ Says (Data payload ∷ []) hello
