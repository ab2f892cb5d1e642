-- How deep marks behind one another nest.
use Rattle.std.proofs.Common.{◌≡◌, max, [], ◌∷◌, ◌++◌, arith}
use Rattle.opl_tree.specs.Depth.{depth_of}
use Rattle.opl_tree.specs.Marks.{place, token, unbraced, opens, Marks}

pub depth_of-append : (ms ns : Marks) → depth_of (ms ++ ns) ≡ max (depth_of ms) (depth_of ns)
depth_of-append [] ns = omega arith
depth_of-append (place at ∷ ms) ns = depth_of-append ms ns
depth_of-append (token p ∷ ms) ns = depth_of-append ms ns
depth_of-append (unbraced ∷ ms) ns = depth_of-append ms ns
depth_of-append (opens k ∷ ms) ns = let e = depth_of-append ms ns in omega arith
