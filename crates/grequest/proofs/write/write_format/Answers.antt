use Rattle.grequest.proofs.write.write_format.Goals as goal

pub returns-in-Sha256 : goal.returns-in-Sha256
returns-in-Sha256 g c =
    rw c.in-Sha256.is (c.writes_packets.ensures.part _ _ _ _ (rw (c.as_bytes.ensures.value, c.name.ensures, c.in-Sha256.is) at c.write_text.ensures))
