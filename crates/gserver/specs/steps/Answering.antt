-- The answer to a message, as a reply or an error packet.
use Rattle.std.specs.Prelude.{◌≡◌, ◌≢◌, Bool, true, false, List, Result, Ok, Err}
use Rattle.gparts.specs.Parts.{Gives}
use Rattle.gpkt.specs.Packets.{Bytes, Packet}
use Rattle.ganswer.specs.Servers.{Server}
use Rattle.gdialogue.specs.Sides.{MayAnswer}
use Rattle.gdialogue.specs.declared.side.Answer.{Answer}
use Rattle.gdialogue.specs.declared.side.Answer.TheVariants as answer
use Rattle.gserver.specs.Replying.{may_of}
use Rattle.gserver.specs.ErrTexts.{error_packets}
use Rattle.gserver.specs.declared.reply.ServerReply.{ServerReply}

module _ {A R P : Type 0} (server_of : R → Server A) (gives : R → P → Gives) where
  -- the answer is an error packet with this text, after which the connection ends
  pub record IsRefusal (text : Bytes) (result : Answer (ServerReply A R P)) : Type 0 where
    pub refuses : (said : List Packet) (goes : Bool) → MayAnswer (may_of server_of gives) result said goes
        → (said ≡ error_packets text) × (goes ≡ false)
    pub last : (reply : ServerReply A R P) → result ≢ answer.GoesOn reply

  -- The answer is the reply in `Ok`, or an error packet with the text in `Err`. If the boolean is false, the dialogue
  -- ends after the reply.
  abbrev pub AnswersOf : Result (ServerReply A R P) Bytes → Bool → Answer (ServerReply A R P) → Type 0
  AnswersOf (Ok reply) true result = result ≡ answer.GoesOn reply
  AnswersOf (Ok reply) false result = result ≡ answer.Last reply
  AnswersOf (Err text) goes_on result = IsRefusal text result
