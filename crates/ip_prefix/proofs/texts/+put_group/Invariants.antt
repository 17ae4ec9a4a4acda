use Rattle.ip_prefix.proofs.texts.+put_group.Given as goal

abbrev pub decreases-put_group : goal.decreases-put_group
decreases-put_group l = l.group
