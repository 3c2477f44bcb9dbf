use Rattle.std.proofs.Common.{rules, ap}
use Rattle.std.specs.Option.{is_some}
use Rattle.gname.specs.Ids.{IsIdOf}
use Rattle.gname.specs.declared.formats.Format.TheVariants.{Sha1}
use Rattle.gitobject.proofs.EntryLemmas.{id_is_made}
use Rattle.gitobject.proofs.ids.id_of_bytes.Goals as goal

pub unwrap-requires : goal.unwrap-requires
unwrap-requires c =
    let id : IsIdOf Sha1 c.args.bytes.now = search rules in
    ap is_some (id_is_made c.args.bytes.now c.from_bytes.result id c.from_bytes.ensures)

pub returns-clause-bytes : goal.returns-clause-bytes
returns-clause-bytes c =
    let id : IsIdOf Sha1 c.args.bytes.now = search rules in
    let made = id_is_made c.args.bytes.now c.from_bytes.result id c.from_bytes.ensures in
    let ok = c.unwrap.ensures in
    cc
