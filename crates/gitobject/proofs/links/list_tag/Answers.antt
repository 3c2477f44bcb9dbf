use Rattle.gitobject.proofs.links.list_tag.Goals as goal

pub returns-in_default : goal.returns-in_default
returns-in_default g c has = c.in_default.ensures has.1.0 has.1.1 has.1.2
