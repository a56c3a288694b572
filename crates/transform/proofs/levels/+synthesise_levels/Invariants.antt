use Rattle.transform.proofs.levels.+synthesise_levels.Given as goal

-- The recursion goes down the depth.
abbrev pub decreases-synthesise_levels : goal.decreases-synthesise_levels
decreases-synthesise_levels l = l.n
