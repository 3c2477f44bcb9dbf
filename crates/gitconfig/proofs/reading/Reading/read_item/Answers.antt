use Rattle.gitconfig.specs.Configs.{Begins, Sets}
use Rattle.gitconfig.proofs.ReadingLemmas.{if_ok}
use Rattle.gitconfig.proofs.reading.Reading.read_item.Goals as goal

pub returns-in-91-clause-item : goal.returns-in-91-clause-item
returns-in-91-clause-item g c = if_ok c.read_header.result (λ rest has. (Begins has.0, has.1, has.2)) c.read_header.ensures.item

pub returns-in_default-2-clause-item : goal.returns-in_default-2-clause-item
returns-in_default-2-clause-item g c = if_ok c.read_setting.result (λ rest has. (Sets has.0 has.1, has.2, has.3)) c.read_setting.ensures.item
