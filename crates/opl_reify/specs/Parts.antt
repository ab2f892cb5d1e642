-- The parts of a disjunction, and which of them a family leaves open.
use Rattle.std.specs.Prelude.{◌≡◌, ℕ, ◌≤◌, ◌<◌, Bool, true, false, List, [], ◌∷◌, ◌++◌, map, length, slice_get, Option, Some, None}
use Rattle.opl_domain.specs.Family.{Family}
use Rattle.opl_expr.specs.declared.model.Core.{Core}
use Rattle.opl_expr.specs.declared.forms.Op.{Op}
use Rattle.opl_expr.specs.declared.forms.Op.TheVariants.{Eq, Ne, Lt, Le, Gt, Ge}
use Rattle.opl_expr.specs.Forms.{Fact, fact, facts_of}
use Rattle.opl_expr.specs.Range.{fact_range}
use Rattle.opl_expr.specs.Sound.{IsSoundFact}
use Rattle.opl_filter.specs.Mentions.{AreVariables}
use Rattle.opl_filter.specs.Filtering.{refutes}
use Rattle.opl_linear_filter.specs.LinearForms.{IsFilterOf}
use Rattle.opl_reify.specs.declared.part.Part.{Part}

-- how sides compare where they don't so
abbrev pub opposite_of : Op → Op
opposite_of Eq = Ne
opposite_of Ne = Eq
opposite_of Lt = Ge
opposite_of Le = Gt
opposite_of Gt = Le
opposite_of Ge = Lt

abbrev pub signed_op : Bool → Op → Op
signed_op false op = op
signed_op true op = opposite_of op

-- a constraint, or its opposite
abbrev pub signed : Bool → Fact → Fact
signed false c = c
signed true c = Fact.not c

-- the constraint of a part
abbrev pub fact_in : Core → Part → Fact
fact_in core p = fact core.tables core.resources p.constraint

-- a part: a sound comparison of linear sides, with its variables and its filter
pub record IsPart (core : Core) (p : Part) : Type 0 where
  pub sound : IsSoundFact core.sets (fact_in core p)
  pub named : AreVariables p.variables (fact_in core p)
  pub filter : IsFilterOf core (fact_in core p) p.filter

abbrev pub AreParts : Core → List Part → Type 0
AreParts core [] = Unit {0}
AreParts core (p ∷ ps) = IsPart core p × AreParts core ps

-- that some part holds
abbrev pub any_of : Core → List Part → Fact
any_of core ps = Fact.or (facts_of (map (fact_in core) ps))

-- the part has the range of a constraint, over every family
pub record IsPartOf (core : Core) (c : Fact) (p : Part) : Type 0 where
  pub part : IsPart core p
  pub same : (F : Family) → fact_range F c ≡ fact_range F (fact_in core p)

-- so it is, if there is a part
abbrev pub IsPartIfAny : Core → Fact → Option Part → Type 0
IsPartIfAny core c None = Unit {0}
IsPartIfAny core c (Some p) = IsPartOf core c p

-- the part for a constraint was added at the end, if there is one
abbrev pub AddsPartIfAny : Core → Fact → List Part → List Part → Bool → Type 0
AddsPartIfAny core c before now false = Unit {0}
AddsPartIfAny core c before now true = (p : Part) × (now ≡ before ++ p ∷ []) × IsPartOf core c p

-- one part for each constraint, in their order
abbrev pub ArePartsOf : Core → List Fact → List Part → Type 0
ArePartsOf core [] [] = Unit {0}
ArePartsOf core [] (p ∷ ps) = ⊥
ArePartsOf core (c ∷ cs) [] = ⊥
ArePartsOf core (c ∷ cs) (p ∷ ps) = IsPartOf core c p × ArePartsOf core cs ps

abbrev pub ArePartsIfAny : Core → List Fact → Option (List Part) → Type 0
ArePartsIfAny core cs None = Unit {0}
ArePartsIfAny core cs (Some ps) = ArePartsOf core cs ps

-- the family refutes the part at a place, if there is one
abbrev pub IsRefutedAt : Core → Family → List Part → ℕ → Type 0
IsRefutedAt core F ps i = (p : Part) → slice_get ps i ≡ Some p → refutes (fact_in core p) F ≡ true

-- there is a part at the place, and the family does not refute it
pub record IsOpenAt (core : Core) (F : Family) (ps : List Part) (i : ℕ) : Type 0 where
  pub there : i < length ps
  pub not_refuted : (p : Part) → slice_get ps i ≡ Some p → refutes (fact_in core p) F ≡ false

-- the first open part from a place on
pub record IsNextOpen (core : Core) (F : Family) (ps : List Part) (from at : ℕ) : Type 0 where
  pub least : from ≤ at
  pub is_open : IsOpenAt core F ps at
  pub before : (i : ℕ) → from ≤ i → i < at → IsRefutedAt core F ps i

-- so it is, or none is open from there on
abbrev pub NextOpen : Core → Family → List Part → ℕ → Option ℕ → Type 0
NextOpen core F ps from None = (i : ℕ) → from ≤ i → IsRefutedAt core F ps i
NextOpen core F ps from (Some at) = IsNextOpen core F ps from at
