use Rattle.gobject.proofs.plain_pack.read.after_part.Goals as goal

pub returns-in-Header-clause-ok : goal.returns-in-Header-clause-ok
returns-in-Header-clause-ok g c = rw c.in-Header.is (c.after_header.ensures c.args.entries.now.items)

pub returns-in-Word-clause-ok : goal.returns-in-Word-clause-ok
returns-in-Word-clause-ok g c = rw c.in-Word.is (c.after_word.ensures c.args.entries.now.items)
