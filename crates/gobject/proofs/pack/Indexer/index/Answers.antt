use Rattle.std.proofs.Common.{[]}
use Rattle.std.proofs.lemmas.List.{append-nil}
use Rattle.std.proofs.lemmas.Result.{err_from_is_err_and}
use Rattle.gobject.proofs.pack.Indexer.index.Goals as goal

pub returns-in_err-feed-2 : goal.returns-in_err-feed-2
returns-in_err-feed-2 g c =
    let p = err_from_is_err_and c.from_residual-in_err-feed-2.result c.from_residual-in_err-feed-2.ensures.1 in
    rw (p.1, p.2) (rw (append-nil c.args.bytes.now) at (c.in_err-feed-2.ensures [] [] c.in_ok-feed.ensures))
