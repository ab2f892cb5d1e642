use Rattle.std.proofs.Common.{◌≡◌, drop, fold, map}
use Rattle.opl_value.specs.Hashed.{value_writes, joined}
use Rattle.opl_value.proofs.compare.+feeds.Given as goal

abbrev pub invariant-feed_all-loop-value : goal.invariant-feed_all-loop-value
invariant-feed_all-loop-value g l = fold g.H.Hasher.write l.initial.state (joined (map value_writes l.values)) ≡ fold g.H.Hasher.write l.state (joined (map value_writes (drop l.value-index l.values)))
