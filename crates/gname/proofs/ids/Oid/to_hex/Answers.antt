use Rattle.std.proofs.Common.{ℕ, List, subst, sym, arith}
use Rattle.std.proofs.lemmas.Grind.{common_steps}
use Rattle.gname.specs.Ids.{IsIdText}
use Rattle.gname.proofs.IdLemmas.{ids_have_texts}
use Rattle.gname.proofs.ids.Oid.to_hex.Goals as goal

pub returns-clause-reads_back : goal.returns-clause-reads_back
returns-clause-reads_back c =
    subst (λ (text : List ℕ). IsIdText text c.args.self.now) (sym (grind (arith, common_steps)))
    (ids_have_texts c.args.self.now c.as_bytes-bytes.ensures.id).0
