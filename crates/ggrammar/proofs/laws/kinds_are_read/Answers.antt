use Rattle.ggrammar.proofs.KindLemmas.{reads_exactly, reads_back, reads_exactly_if_any, reads_back_if_any}
use Rattle.ggrammar.proofs.laws.kinds_are_read.Goals as goal

pub returns : goal.returns
returns g c =
    let read = c.messages_are_read.ensures in
    let spells = c.canonical_spells.ensures.lines in record {
      exactly = λ given whole one. reads_exactly _ _ _ (read _) whole one;
      back = λ given whole one canonical. reads_back _ _ _ (read _) whole one spells _ _ canonical;
      exactly_if_any = λ given whole one. reads_exactly_if_any _ _ _ (read _) whole one;
      back_if_any = λ given whole one canonical. reads_back_if_any _ _ _ (read _) whole one spells _ _ canonical;
    }
