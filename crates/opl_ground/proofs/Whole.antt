-- Cores are ground cores.
use Rattle.std.proofs.Common.{◌≡◌, ℕ, ◌≤◌, nat_le, true, false, ◌&&◌, length, List, [], ◌∷◌, Option, None, Some, refl, sym, subst, arith}
use Rattle.std.specs.List.{All, list_all}
use Rattle.std.proofs.lemmas.Bool.{and_parts}
use Rattle.std.proofs.lemmas.List.Elements.{All-head, All-map, All-nil, All-tail}
use Rattle.opl_draft.specs.Laws.{arrays}
use Rattle.opl_expr.specs.declared.forms.Cons.{Cons}
use Rattle.opl_expr.specs.declared.model.Core.{Core}
use Rattle.opl_expr.specs.declared.model.Goal.{Goal}
use Rattle.opl_expr.specs.declared.tables.Table.{Table}
use Rattle.opl_expr.specs.Sound.{IsSoundTable}
use Rattle.opl_form.specs.Laws.{declared_ends}
use Rattle.opl_form.specs.Parts.{table_of}
use Rattle.opl_trace.specs.GroundCores.{IsGroundCore, IsSoundResource, cons_depth, cons_fits, cons_stands, core_nodes, expr_depth, goal_fits}
use Rattle.opl_trace.specs.SoundCores.{IsSoundCore}
use Rattle.opl_ground.specs.Declared.{core_of}
use Rattle.opl_ground.specs.Measured.{IsShallow}
use Rattle.opl_ground.specs.Names.{variable_names}
use Rattle.opl_ground.specs.Whole.{GroundedIsGround, asks_no_capacity, goal_stands}
use Rattle.opl_ground.proofs.Arrays.{arrays_are_sound}
use Rattle.opl_ground.proofs.Ground.{core-parts, grounded_is_sound}
use Rattle.opl_ground.proofs.Limits.{variables_are_within_limits}
use Rattle.opl_ground.proofs.Measured.{grounded_is_measured}
use Rattle.opl_ground.proofs.Named.{grounded_is_named}
use Rattle.opl_ground.proofs.Variables.{variables_are_laid_out}

within : (m n : ℕ) → m ≤ n → nat_le m n ≡ true
within m n h = grind (arith, h)

all-fit : (tables : List Table) (cs : List Cons) → All (λ c. cons_depth c ≤ 2048) cs → list_all (cons_stands tables [] false) cs ≡ true → list_all (cons_fits tables [] false 2048) cs ≡ true
all-fit tables [] d h = refl
all-fit tables (c ∷ cs) d h =
    let p = and_parts (cons_stands tables [] false c) (list_all (cons_stands tables [] false) cs) h in
    (λ i. (within (cons_depth c) 2048 (All-head (λ c. cons_depth c ≤ 2048) c cs d) i && p.0 i) && all-fit tables cs (All-tail (λ c. cons_depth c ≤ 2048) c cs d) p.1 i)

goal-fits : (tables : List Table) (goal : Option Goal) → IsShallow goal → goal_stands tables goal ≡ true → goal_fits tables [] goal ≡ true
goal-fits tables None d h = refl
goal-fits tables (Some g) d h = λ i. within (expr_depth g.value) 2048 d i && h i

pub grounded_is_ground : GroundedIsGround
grounded_is_ground enumerations t env core keyed filled h stands =
    let c = core-parts enumerations t env core h in
    let limits = variables_are_within_limits env t.decls c.items c.variables in
    let measured = grounded_is_measured enumerations t env core keyed filled h in
    let own : Core = core_of (variable_names enumerations c.items) env c.items c.goal c.constraints in
    let p = and_parts (list_all (cons_stands own.tables [] false) c.constraints) (goal_stands own.tables c.goal) (subst (λ c. asks_no_capacity c ≡ true) (sym c.is) stands) in
    subst IsGroundCore c.is (record {
      sound = subst IsSoundCore (sym c.is) (grounded_is_sound enumerations t env core keyed filled h);
      named = subst (λ c. length c.names ≡ length c.sets) (sym c.is) (grounded_is_named enumerations t env core h);
      tables = All-map (λ t. IsSoundTable (declared_ends c.items) (Some t)) table_of (arrays env c.items) (arrays_are_sound env c.items keyed filled (variables_are_laid_out env t.decls c.items c.variables));
      resources = All-nil (IsSoundResource (declared_ends c.items));
      constraints = all-fit own.tables c.constraints (subst (λ c. All (λ c. cons_depth c ≤ 2048) c.cons) (sym c.is) measured.depth) p.0;
      goal = goal-fits own.tables c.goal (subst (λ c. IsShallow c.goal) (sym c.is) measured.goal) p.1;
      search = refl;
      few = limits.few;
      values = limits.values;
      nodes = subst (λ c. core_nodes c ≤ 4194304) (sym c.is) measured.nodes;
    })
