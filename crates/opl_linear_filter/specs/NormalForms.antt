-- The constraint that a filter stands for, by its form alone.
use Rattle.std.specs.Prelude.{neg_ℤ}
use Rattle.opl_expr.specs.declared.forms.Op.{Op}
use Rattle.opl_expr.specs.declared.forms.Op.TheVariants.{Eq, Ne, Lt, Le}
use Rattle.opl_expr.specs.Forms.{Term, Fact, compared}
use Rattle.opl_linear.specs.declared.kind.Kind.{Kind}
use Rattle.opl_linear.specs.declared.kind.Kind.TheVariants as kind
use Rattle.opl_linear_filter.specs.declared.linear_filter.LinearFilter.{LinearFilter}
use Rattle.opl_linear_filter.specs.ShortForms.{scaled}

-- how a form that is to be so compares with a number
abbrev pub op_of : Kind → Op
op_of kind.AtMost = Le
op_of kind.Below = Lt
op_of kind.Zero = Eq
op_of kind.Different = Ne

-- the sum of the parts, compared with the opposite of the constant
abbrev pub normal_form : LinearFilter → Fact
normal_form f = compared (op_of f.kind) (Term.sum (scaled f.parts)) (Term.const (neg_ℤ f.constant))
