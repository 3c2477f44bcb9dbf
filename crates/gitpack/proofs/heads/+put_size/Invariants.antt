use Rattle.gitpack.proofs.heads.+put_size.Given as goal

abbrev pub decreases-put_size : goal.decreases-put_size
decreases-put_size g l = l.number
