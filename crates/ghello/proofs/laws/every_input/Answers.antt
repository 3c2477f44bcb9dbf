use Rattle.ghello.specs.Hello as hello
use Rattle.ghello.specs.Adverts as advert
use Rattle.ghello.proofs.PacketReasons.{hello_refuses_packets, advert_refuses_packets}
use Rattle.ghello.proofs.laws.every_input.Goals as goal

pub returns : goal.returns
returns c =
    let read = c.messages_are_read.ensures in record {
      hello_packets = hello_refuses_packets;
      hello = (read hello.judge).every c.endings.ensures.hello hello_refuses_packets hello.brings;
      advert_packets = advert_refuses_packets;
      advert = (read advert.judge).every c.endings.ensures.advert advert_refuses_packets advert.brings;
    }
