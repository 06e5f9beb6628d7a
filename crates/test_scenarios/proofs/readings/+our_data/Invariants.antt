use Rattle.test_scenarios.proofs.readings.+our_data.Given as goal

abbrev pub decreases-our_data : goal.decreases-our_data
decreases-our_data l = l.depth
