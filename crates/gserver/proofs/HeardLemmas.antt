-- A message to a server is a first line or a request.
use Rattle.std.proofs.Common.{◌≡◌, ◌<◌, ◌∙◌, ℕ, Bool, List, length, Result, Ok, Err, subst}
use Rattle.gpkt.specs.Packets.{Packet}
use Rattle.ggrammar.specs.Grammar.{Judge, HasEndings, IsOpen, Open, Whole}
use Rattle.ggrammar.specs.MessageReading.{IsReason, TakesPacket}
use Rattle.ggrammar.specs.declared.fault.Why.{Why}
use Rattle.ggrammar.specs.declared.message.Step.{Step}
use Rattle.ggrammar.specs.declared.message.Step.TheVariants as step
use Rattle.ganswer.specs.Servers.{Server}
use Rattle.gdialogue.specs.Sides.{HearsPacket}
use Rattle.ghello.specs.Hello as hello
use Rattle.ghello.specs.declared.hello.HelloReader.{HelloReader}
use Rattle.grequest.specs.declared.reading.RequestReader.{RequestReader}
use Rattle.grequest.specs.Requests as request
use Rattle.gserver.specs.Heard.{brings_of, holds_of, judge_of}
use Rattle.gserver.specs.Serving.{HearsMessage, side_brings, side_judge}
use Rattle.gserver.specs.declared.side.ServerSide.{ServerSide}
use Rattle.gserver.specs.declared.heard.Heard.{Heard}
use Rattle.gserver.specs.declared.heard.Heard.TheVariants as heard

module _ {A : Type 0} where
  pub endings_of : ((reader : HelloReader A) → HasEndings hello.judge)
      → ((reader : RequestReader A) → HasEndings (request.judge reader.limits reader.format))
      → (message : Heard A) → HasEndings (judge_of message)
  endings_of hellos requests (heard.Hello reader) = hellos reader
  endings_of hellos requests (heard.Request reader) = requests reader

  pub bounded_of : (most : ℕ)
      → ((reader : HelloReader A) (front : List Packet) → IsOpen hello.judge front → length front < most)
      → ((reader : RequestReader A) (front : List Packet) → IsOpen (request.judge reader.limits reader.format) front → length front < most)
      → (message : Heard A) (front : List Packet) → IsOpen (judge_of message) front → length front < most
  bounded_of most hellos requests (heard.Hello reader) front goes = hellos reader front goes
  bounded_of most hellos requests (heard.Request reader) front goes = requests reader front goes

-- ---- a message of the side, with one more packet

module _ {A H R : Type 0} (server_of : R → Server A) (side : ServerSide A H R) (old new : Heard A) (front : List Packet) (packet : Packet) where
  pub hears_packet : (result : Result Step Why) → HearsMessage server_of side old front → judge_of new ≡ judge_of old → brings_of new ≡ brings_of old
      → TakesPacket (judge_of old) (brings_of old) holds_of (λ message packets. Unit {0}) front packet new result
      → HearsPacket (side_judge side.limits server_of side.repo) (side_brings side.repo) (HearsMessage server_of side) front packet new result
  hears_packet (Ok step.Open) hears judged brought takes = (
    subst (λ (j : Judge). j front packet ≡ Open) hears.judged takes.0,
    record { judged = judged ∙ hears.judged; brought = brought ∙ hears.brought; held = takes.1 },
  )
  hears_packet (Ok step.Whole) hears judged brought takes = (
    subst (λ (j : Judge). j front packet ≡ Whole) hears.judged takes.0,
    record { judged = judged ∙ hears.judged; brought = brought ∙ hears.brought; held = takes.1 },
  )
  hears_packet (Err why) hears judged brought takes = (
    subst (λ (b : List Packet → Packet → Bool). IsReason (side_judge side.limits server_of side.repo front packet) (b front packet) why) hears.brought
        (subst (λ (j : Judge). IsReason (j front packet) (brings_of old front packet) why) hears.judged takes.0),
    tt,
  )
