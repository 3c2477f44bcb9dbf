use Rattle.gitpack.proofs.delta.+split_sparse.Given as goal

abbrev pub decreases-split_sparse : goal.decreases-split_sparse
decreases-split_sparse l = l.count
