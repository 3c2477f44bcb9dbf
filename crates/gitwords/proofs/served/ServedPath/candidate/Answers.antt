use Rattle.std.proofs.Common.{rules, ◌≡◌, ◌++◌, string_bytes}
use Rattle.gitwords.specs.Served.{ending_text}
use Rattle.gitwords.proofs.ServedLemmas.{candidate_stays}
use Rattle.gitwords.proofs.served.ServedPath.candidate.Goals as goal

pub returns-clause-below : goal.returns-clause-below
returns-clause-below g c =
    let is : string_bytes c.push_str.new.self ≡ c.self.inside.relative.now ++ ending_text c.args.ending = search rules in
    candidate_stays _ c.self.inside.relative.now (string_bytes c.push_str.new.self) c.args.ending c.self.invariant is
