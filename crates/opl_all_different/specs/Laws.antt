-- What is proved of constraints that parts differ.
use Rattle.std.specs.Prelude.{◌≡◌, List, length}
use Rattle.opl_domain.specs.Family.{Family, Full}
use Rattle.opl_expr.specs.declared.model.Core.{Core}
use Rattle.opl_expr.specs.Forms.{Terms, Fact}
use Rattle.opl_filter.specs.Filtering.{refutes}
use Rattle.opl_linear_filter.specs.Ends.{SeesEnds}
use Rattle.opl_all_different.specs.declared.different_filter.DifferentFilter.{DifferentFilter}
use Rattle.opl_all_different.specs.declared.part.Part.{Part}
use Rattle.opl_all_different.specs.DifferentForms.{IsFilterOf}
use Rattle.opl_all_different.specs.Parts.{clashes, AreSeparate, ArePartsOf}

-- a family refutes that parts differ, no two of the same variable, where two of them have one value each, and the same
abbrev pub DifferentByParts : Type 0
DifferentByParts = (ts : Terms) (ps : List Part) (F : Family) → Full F → ArePartsOf (length F) ts ps → AreSeparate (length F) ps → refutes (Fact.different ts) F ≡ clashes ps F

-- so the ends of the sets tell what a family refutes of it
abbrev pub DifferentByEnds : Type 0
DifferentByEnds = (core : Core) (c : Fact) (f : DifferentFilter) → IsFilterOf core c f → SeesEnds (length core.sets) c
