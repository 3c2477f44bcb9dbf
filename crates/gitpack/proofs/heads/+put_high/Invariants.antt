use Rattle.gitpack.proofs.heads.+put_high.Given as goal

abbrev pub decreases-put_high : goal.decreases-put_high
decreases-put_high g l = l.number
