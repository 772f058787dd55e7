use Rattle.t414_assembly.proofs.shortest.+prefixes.Given as goal

abbrev pub decreases-prefixes : goal.decreases-prefixes
decreases-prefixes l = l.value
