use Rattle.gfetch.proofs.TalkLemmas as talk
use Rattle.gfetch.proofs.laws.dialogues_are_turns.Goals as goal

pub returns : goal.returns
returns g c = λ first now heard said answered. talk.dialogues_are_turns g.K.KeepingIndexer.indexes g.K.KeepingIndexer.index_fails g.K.KeepingIndexer.keeps first heard said now answered
