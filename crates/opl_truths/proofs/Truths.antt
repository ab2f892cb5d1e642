-- What disjunctions and conjunctions are made, from values and from conditions.
use Rattle.std.proofs.Common.{◌≡◌, Bool, true, false, map, Result, Ok, sym, ap, ◌∙◌}
use Rattle.std.specs.List.{list_any, list_all}
use Rattle.opl_value.specs.declared.value.Value.TheVariants as values
use Rattle.opl_eval.specs.Evaluation.{is_true}
use Rattle.opl_expr.specs.declared.forms.Cons.TheVariants as C
use Rattle.opl_form.specs.Parts.{all_known, as_condition}
use Rattle.opl_form.specs.Nodes.{all_hold, condition_node, known_node, one_holds}
use Rattle.opl_nodes.specs.declared.context.Context.{Context}
use Rattle.opl_nodes.specs.declared.fault.FormFault.{FormFault}
use Rattle.opl_nodes.specs.declared.part.Part.{Part}
use Rattle.opl_nodes.specs.declared.parts.Parts.{Parts}
use Rattle.opl_nodes.specs.Pieces.{AreParts, Makes, forms}
use Rattle.opl_nodes.proofs.Tests.{makes-same}
use Rattle.opl_truths.specs.Conditions.{conditions, is_true_part}
use Rattle.opl_truths.proofs.Known.{all-known, any-known, conditions-are, folded-all, folded-live, none-known}

module _ (c : Context) (ps : Parts) (k : AreParts c ps) where
  -- the truths of values decide, where all parts are values
  pub one-holds-known : (b : Bool) (r : Result Part FormFault) → ps.are_known ≡ true → b ≡ list_any is_true_part ps.items → Makes c (known_node c.item ps.before (values.Bool b)) r → Makes c (one_holds c.item ps.before (forms ps.items)) r
  one-holds-known b r t e m =
      makes-same c (known_node c.item ps.before (values.Bool b)) (one_holds c.item ps.before (forms ps.items)) r
      (sym (folded-all c.item ps.before (all_known (forms ps.items)) (list_any is_true) b (condition_node c.item ps.before (C.Or (map as_condition (forms ps.items)))) (λ vs h. e ∙ any-known ps.items vs h) (sym k.are_known ∙ t))) m

  -- else there is a node
  pub one-holds-live : (r : Result Part FormFault) → ps.are_known ≡ false → Makes c (condition_node c.item ps.before (C.Or (conditions ps.items))) r → Makes c (one_holds c.item ps.before (forms ps.items)) r
  one-holds-live r t m =
      makes-same c (condition_node c.item ps.before (C.Or (conditions ps.items))) (one_holds c.item ps.before (forms ps.items)) r
      (ap (λ cs. condition_node c.item ps.before (C.Or cs)) (conditions-are ps.items)
      ∙ sym (folded-live c.item ps.before (all_known (forms ps.items)) (λ vs. Ok (values.Bool (list_any is_true vs))) (condition_node c.item ps.before (C.Or (map as_condition (forms ps.items)))) (none-known (all_known (forms ps.items)) (sym k.are_known ∙ t)))) m

  -- the same of all
  pub all-hold-known : (b : Bool) (r : Result Part FormFault) → ps.are_known ≡ true → b ≡ list_all is_true_part ps.items → Makes c (known_node c.item ps.before (values.Bool b)) r → Makes c (all_hold c.item ps.before (forms ps.items)) r
  all-hold-known b r t e m =
      makes-same c (known_node c.item ps.before (values.Bool b)) (all_hold c.item ps.before (forms ps.items)) r
      (sym (folded-all c.item ps.before (all_known (forms ps.items)) (list_all is_true) b (condition_node c.item ps.before (C.And (map as_condition (forms ps.items)))) (λ vs h. e ∙ all-known ps.items vs h) (sym k.are_known ∙ t))) m

  pub all-hold-live : (r : Result Part FormFault) → ps.are_known ≡ false → Makes c (condition_node c.item ps.before (C.And (conditions ps.items))) r → Makes c (all_hold c.item ps.before (forms ps.items)) r
  all-hold-live r t m =
      makes-same c (condition_node c.item ps.before (C.And (conditions ps.items))) (all_hold c.item ps.before (forms ps.items)) r
      (ap (λ cs. condition_node c.item ps.before (C.And cs)) (conditions-are ps.items)
      ∙ sym (folded-live c.item ps.before (all_known (forms ps.items)) (λ vs. Ok (values.Bool (list_all is_true vs))) (condition_node c.item ps.before (C.And (map as_condition (forms ps.items)))) (none-known (all_known (forms ps.items)) (sym k.are_known ∙ t)))) m
