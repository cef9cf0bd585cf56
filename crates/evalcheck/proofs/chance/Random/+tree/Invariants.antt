use Rattle.evalcheck.proofs.chance.Random.+tree.Given as goal

abbrev pub decreases-tree : goal.decreases-tree
decreases-tree l = l.levels
