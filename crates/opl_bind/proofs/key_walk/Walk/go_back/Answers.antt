use Rattle.std.proofs.Common.{arith}
use Rattle.opl_bind.proofs.Keys.{walks}
use Rattle.opl_bind.proofs.key_walk.Walk.go_back.Goals as goal

pub returns-in-None-clause-distance : goal.returns-in-None-clause-distance
returns-in-None-clause-distance c = grind (arith, walks)

pub returns-in-None-clause-keys : goal.returns-in-None-clause-keys
returns-in-None-clause-keys c = grind (arith, walks)

pub returns-in_ok-self-in-Some-clause-distance : goal.returns-in_ok-self-in-Some-clause-distance
returns-in_ok-self-in-Some-clause-distance c = grind (arith, walks)

pub returns-in_ok-self-in-Some-clause-keys : goal.returns-in_ok-self-in-Some-clause-keys
returns-in_ok-self-in-Some-clause-keys c = grind (arith, walks)
