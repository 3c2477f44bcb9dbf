use Rattle.std.proofs.Common.{◌≡◌, rules, subst}
use Rattle.std.specs.Prelude.{IfOk}
use Rattle.gitpack.specs.Indexes.{HasText, index_of, index_text}
use Rattle.gitpack.proofs.RowLemmas.{written_back}
use Rattle.gitpack.proofs.SortLemmas.{has_text}
use Rattle.gitpack.proofs.indexing.IndexedPack.write_index.Goals as goal

pub returns-clause-read_back : goal.returns-clause-read_back
returns-clause-read_back g c =
    let has = subst (λ pack. HasText (index_of pack)) c.self.view_is (has_text _ c.self.invariant) in
    let text : IfOk c.write_index.result (λ text. text.items ≡ index_text (index_of c.args.self.now)) = search rules in
    written_back c.write_index.result (λ text. text.items) (index_of c.args.self.now) has text
