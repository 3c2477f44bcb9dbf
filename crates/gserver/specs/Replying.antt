-- The packets that may complete a reply of a server from a given state.
use Rattle.std.specs.Prelude.{ℕ}
use Rattle.gparts.specs.Parts.{Gives}
use Rattle.ganswer.specs.Servers.{Server}
use Rattle.gserver.specs.Greetings.{SaysGreeting, steps_of_greeting}
use Rattle.gserver.specs.Listings.{SaysListing, steps_of_listing}
use Rattle.gserver.specs.PackSaying.{May}
use Rattle.gserver.specs.Saying.{SaysRest, steps_of}
use Rattle.gserver.specs.declared.reply.ServerReply.{ServerReply}
use Rattle.gserver.specs.declared.reply.ServerReply.TheVariants as reply

module _ {A R P : Type 0} (server_of : R → Server A) where
  abbrev pub may_of : (R → P → Gives) → ServerReply A R P → May
  may_of gives (reply.Greeting greeting) = SaysGreeting greeting.next greeting.advert
  may_of gives (reply.Listing listing) =
      SaysListing (server_of listing.repo) listing.asked.asked listing.ends listing.goes_on listing.next
  may_of gives (reply.Speech speech) = SaysRest gives speech.ends speech.goes_on speech.rest

  abbrev pub reply_steps : (R → P → ℕ) → ServerReply A R P → ℕ
  reply_steps most (reply.Greeting greeting) = steps_of_greeting greeting.next greeting.advert
  reply_steps most (reply.Listing listing) = steps_of_listing (server_of listing.repo) listing.next
  reply_steps most (reply.Speech speech) = steps_of most speech.rest
