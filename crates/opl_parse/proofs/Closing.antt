-- The laws of expressions, closed over the levels of nesting.
use Rattle.std.proofs.Common.{ℕ, zero, suc, ◌≤◌, List, [], ◌∷◌, Option, Some, None, refl, arith}
use Rattle.opl_token.specs.declared.token.Kind.{Kind}
use Rattle.opl_tree.specs.declared.declaration.FieldTree.{FieldTree}
use Rattle.opl_tree.specs.declared.expression.AddTree.{AddTree}
use Rattle.opl_grammar.specs.Tables.{starts_type}
use Rattle.opl_grammar.specs.Rules as g
use Rattle.opl_parse.proofs.Dims.{dims_law, type_law, fields_law}
use Rattle.opl_parse.proofs.Examples.{post_sample, operand_sample, add_sample, neg_sample, imp_sample, expr_sample, params_sample, ordered_sample, type_sample, adds_sample, ends_sample, aggregated_sample, names_sample, fields_sample, dims_sample, listed_sample, keyed_sample, braced_sample}
use Rattle.opl_reader_laws.proofs.Many.{many_shape}
use Rattle.opl_parse.proofs.Params.{names_law, params_law, aggregated_law, ordered_law, adds_law, listed_law, keyed_law, braced_law, ends_rule}
use Rattle.opl_parse.proofs.Posts.{post_law}
use Rattle.opl_parse.proofs.Shapes.{upper_shape, optional_upper, ends_shape, field_shape, RulesLaw}
use Rattle.opl_parse.proofs.Sums.{operand_closing, operand_law, add_law}
use Rattle.opl_parse.proofs.Truths.{neg_law, imp_law, expr_law}

ends_closing : (x : ends_shape.Tag) (k : Option Kind) → ends_shape.closes k → ends_shape.ends x k
ends_closing x k h = by_upper x.1 where
  by_upper : (y : Option upper_shape.Tag) → optional_upper.ends y k
  by_upper None = (h.0.1, h.1)
  by_upper (Some y) = (h.0.0, h.1)

ends_fit : (o : Option AddTree) → optional_upper.fits o
ends_fit None = tt
ends_fit (Some t) = tt

fields_fit : (xs : List FieldTree) → (many_shape starts_type field_shape).fits xs
fields_fit [] = tt
fields_fit (x ∷ xs) = (tt, fields_fit xs)

-- with no level left
rules_zero : (k : ℕ) → RulesLaw 0 (g.rules 0) (g.rules k)
unfolding g.rules
rules_zero k = record {
  expr = record { levels = record { is = λ at i. refl; sample = expr_sample; closing = λ x k h. h; fit = λ c. tt } };
  add = record { levels = record { is = λ at i. refl; sample = add_sample; closing = λ x k h. h; fit = λ c. tt } };
  post = record { levels = record { is = λ at i. refl; sample = post_sample; closing = λ x k h. h; fit = λ c. tt } };
  params = record { levels = record { is = λ at i. refl; sample = params_sample; closing = λ x k h. h; fit = λ c. tt } };
  ordered = record { levels = record { is = λ at i. refl; sample = ordered_sample; closing = λ x k h. h; fit = λ c. tt } };
  ends = record { levels = record { is = λ at i. refl; sample = ends_sample; closing = ends_closing; fit = λ c. (tt, ends_fit c.1) } };
  imp = record { levels = record { is = λ at i. refl; sample = imp_sample; closing = λ x k h. h; fit = λ c. tt } };
  neg = record { levels = record { is = λ at i. refl; sample = neg_sample; closing = λ x k h. h; fit = λ c. tt } };
  operand = record { levels = record { is = λ at i. refl; sample = operand_sample; closing = operand_closing; fit = λ c. tt } };
  aggregate = record { levels = record { is = λ at i. refl; sample = aggregated_sample; closing = λ x k h. h; fit = λ c. (tt, tt) } };
  adds = record { levels = record { is = λ at i. refl; sample = adds_sample; closing = λ x k h. h; fit = λ c. (tt, tt) } };
  listed = record { levels = record { is = λ at i. refl; sample = listed_sample; closing = λ x k h. h; fit = λ c. tt } };
  keyed = record { levels = record { is = λ at i. refl; sample = keyed_sample; closing = λ x k h. h; fit = λ c. tt } };
  braced = record { levels = record { is = λ at i. refl; sample = braced_sample; closing = λ x k h. h; fit = λ c. tt } };
  names = record { levels = record { is = λ at i. refl; sample = names_sample; closing = λ x k h. h; fit = λ c. (tt, tt) } };
  type_tree = record { levels = record { is = λ at i. refl; sample = type_sample; closing = λ x k h. h; fit = λ c. tt } };
  fields = record { levels = record { is = λ at i. refl; sample = fields_sample; closing = λ x k h. h; fit = λ c. (tt, fields_fit c.1) } };
  dims = record { levels = record { is = λ at i. refl; sample = dims_sample; closing = λ x k h. h; fit = λ c. (tt, tt) } };
}

-- with one more level
rules_next : (n k : ℕ) → RulesLaw n (g.rules n) (g.rules k) → RulesLaw (suc n) (g.rules (suc n)) (g.rules (suc k))
unfolding g.rules g.level
rules_next n k R = record {
  expr = record { levels = record { read = g.expr (g.rules n); more = g.expr (g.rules k); is = λ at i. refl; are = λ at i. refl; law = expr_law R } };
  add = record { levels = record { read = g.add (g.rules n); more = g.add (g.rules k); is = λ at i. refl; are = λ at i. refl; law = add_law R } };
  post = record { levels = record { read = g.post (g.rules n); more = g.post (g.rules k); is = λ at i. refl; are = λ at i. refl; law = post_law R } };
  params = record { levels = record { read = g.params (g.rules n); more = g.params (g.rules k); is = λ at i. refl; are = λ at i. refl; law = params_law R } };
  ordered = record { levels = record { read = g.ordered_params (g.rules n); more = g.ordered_params (g.rules k); is = λ at i. refl; are = λ at i. refl; law = ordered_law R } };
  ends = record { levels = record { read = g.ends (g.rules n); more = g.ends (g.rules k); is = λ at i. refl; are = λ at i. refl; law = ends_rule R } };
  imp = record { levels = record { read = g.imp (g.rules n); more = g.imp (g.rules k); is = λ at i. refl; are = λ at i. refl; law = imp_law R } };
  neg = record { levels = record { read = g.neg (g.rules n); more = g.neg (g.rules k); is = λ at i. refl; are = λ at i. refl; law = neg_law R } };
  operand = record { levels = record { read = g.operand (g.rules n); more = g.operand (g.rules k); is = λ at i. refl; are = λ at i. refl; law = operand_law R } };
  aggregate = record { levels = record { read = g.aggregated (g.rules n); more = g.aggregated (g.rules k); is = λ at i. refl; are = λ at i. refl; law = aggregated_law R } };
  adds = record { levels = record { read = g.adds (g.rules n); more = g.adds (g.rules k); is = λ at i. refl; are = λ at i. refl; law = adds_law R } };
  listed = record { levels = record { read = g.listed (g.rules n); more = g.listed (g.rules k); is = λ at i. refl; are = λ at i. refl; law = listed_law R } };
  keyed = record { levels = record { read = g.keyed (g.rules n); more = g.keyed (g.rules k); is = λ at i. refl; are = λ at i. refl; law = keyed_law R } };
  braced = record { levels = record { read = g.braced (g.rules n); more = g.braced (g.rules k); is = λ at i. refl; are = λ at i. refl; law = braced_law R } };
  names = record { levels = record { read = g.names; more = g.names; is = λ at i. refl; are = λ at i. refl; law = names_law } };
  type_tree = record { levels = record { read = g.type_tree (g.rules n); more = g.type_tree (g.rules k); is = λ at i. refl; are = λ at i. refl; law = type_law R } };
  fields = record { levels = record { read = g.fields (g.rules n); more = g.fields (g.rules k); is = λ at i. refl; are = λ at i. refl; law = fields_law R } };
  dims = record { levels = record { read = g.dims (g.rules n); more = g.dims (g.rules k); is = λ at i. refl; are = λ at i. refl; law = dims_law R } };
}

-- all that stands behind an opening token, over so many levels and over more
pub rules_law : (n k : ℕ) → n ≤ k → RulesLaw n (g.rules n) (g.rules k)
rules_law zero k h = rules_zero k
rules_law (suc n) zero h = absurd (omega arith)
rules_law (suc n) (suc k) h = rules_next n k (rules_law n k (omega arith))
