-- The location of a served repository (git-fetch(1), "GIT URLS").
use Rattle.std.specs.Prelude.{◌≡◌, ◌<◌, ◌++◌, codes}
use Rattle.std.specs.Str.Parse.{IsNumeral, digits_value}
use Rattle.gpkt.specs.Packets.{Bytes}
use Rattle.ghello.specs.Hello.{Hello, IsHello}

-- a decimal number up to 65,535
abbrev pub IsPort : Bytes → Type 0
IsPort port = IsNumeral 10 port × (digits_value 10 port < 65_536)

-- The first line for an address and a path. The host is the text of the address before its port.
pub record IsPlace (address path : Bytes) (hello : Hello) : Type 0 where
  pub port : Bytes
  pub is_port : IsPort port
  pub parts : address ≡ hello.host ++ codes ":" ++ port
  pub path_is : hello.path ≡ path
  pub form : IsHello hello
