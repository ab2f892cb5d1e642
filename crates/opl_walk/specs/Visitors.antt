-- What the two visitors become by what they are told.
use Rattle.std.specs.Prelude.{ℕ, max, Bool, not, [], ◌∷◌, ◌++◌}
use Rattle.opl_token.specs.declared.token.Kind.{Kind}
use Rattle.opl_tree.specs.Marks.{Part}
use Rattle.opl_tree.specs.Spelling.{kind_of}
use Rattle.opl_walk.specs.declared.spelling.Spelling.{Spelling}
use Rattle.opl_walk.specs.declared.depth.Depth.{Depth}

-- whether there was memory for all tokens so far
abbrev pub has_all : Spelling → Bool
has_all spelling = not spelling.lacks_memory

-- a token more
abbrev pub added : Kind → Spelling → Spelling
added kind spelling = record { alloc = spelling.alloc; kinds = spelling.kinds ++ kind ∷ []; lacks_memory = spelling.lacks_memory }

-- a token of a tree is written down
abbrev pub written : Part → Spelling → Spelling
written p = added (kind_of p)

-- the greatest level so far
abbrev pub deepened : ℕ → Depth → Depth
deepened level depth = record { greatest = max depth.greatest level }
