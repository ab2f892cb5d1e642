-- The rules of expressions, where of the scope but names only the model's counts.
use Rattle.std.proofs.Common.{◌≡◌, ℕ, true, false, ◌&&◌, ◌||◌, List, [], ◌∷◌, Option, Some, None, is_some, refl, ap, ◌∙◌}
use Rattle.std.specs.List.{list_all}
use Rattle.opl_tree.specs.declared.expression.NameTree.{NameTree}
use Rattle.opl_tree.specs.declared.expression.QuestionOp.{QuestionOp}
use Rattle.opl_tree.specs.declared.expression.Relation.{Relation}
use Rattle.opl_tree.specs.declared.expression.Relation.TheVariants as relations
use Rattle.opl_type_rules.specs.Types.{Sort, Sorts, fits, joined, is_single, is_storable}
use Rattle.opl_type_rules.specs.Types.Sort.{structure, array}
use Rattle.opl_type_rules.specs.Types.Sorts.{no_sorts, more_sorts}
use Rattle.opl_type_rules.specs.Scope.{Scope, field_sort, fits_in, joined_in}
use Rattle.opl_type_rules.specs.Expressions.{Node, made, are_ordered, are_related, is_member, subscripts_fit, may_be_decided, is_data, element_node, known_field, field_node, element_type, question_type, question_node}
use Rattle.opl_expression_types.proofs.Inside.{Alike}

module _ (sc other : Scope) (like : Alike sc other) where
  pub related-alike : (r : Relation) (a b : Sort) → are_related sc r a b ≡ are_related other r a b
  related-alike relations.Equal a b = ap (λ x. are_ordered a b || x) (like.records a b)
  related-alike relations.NotEqual a b = ap (λ x. are_ordered a b || x) (like.records a b)
  related-alike relations.Less a b = refl
  related-alike relations.LessOrEqual a b = refl
  related-alike relations.Greater a b = refl
  related-alike relations.GreaterOrEqual a b = refl

  pub member-alike : (element : Option Sort) (a : Sort) → is_member sc element a ≡ is_member other element a
  member-alike None a = refl
  member-alike (Some s) a = ap (λ f. is_storable a && is_some (joined f s a)) like.sorts

  subscripts-alike : (wants : Sorts) (ns : List Node) → subscripts_fit sc wants ns ≡ subscripts_fit other wants ns
  subscripts-alike no_sorts [] = refl
  subscripts-alike no_sorts (n ∷ ns) = refl
  subscripts-alike (more_sorts want wants) [] = refl
  subscripts-alike (more_sorts want wants) (n ∷ ns) =
      ap (λ f. fits f want n.sort && subscripts_fit sc wants ns) like.sorts ∙ ap (λ x. fits_in other want n.sort && x) (subscripts-alike wants ns)

  pub element-alike : (at : ℕ) (base : Node) (ns : List Node) (s : Sort) → element_node sc at base ns s ≡ element_node other at base ns s
  element-alike at base ns (array indices element) =
      ap (λ b. record (made at element (base ∷ ns) (b && may_be_decided ns element)) { is_one = base.decides && (is_single element && list_all is_data ns) }) (subscripts-alike indices ns)
  element-alike at base ns s = refl

  pub field-alike : (at : ℕ) (base : Node) (name : NameTree) (s : Sort) → field_node sc at base name s ≡ field_node other at base name s
  field-alike at base name (structure k) = ap (λ fs. known_field at base name (field_sort name.text fs)) (like.structs k)
  field-alike at base name s = refl

  pub elements-alike : (s : Option Sort) (ns : List Node) → element_type sc s ns ≡ element_type other s ns
  elements-alike s [] = refl
  elements-alike None (n ∷ ns) = refl
  elements-alike (Some s) (n ∷ ns) =
      elements-alike (joined_in sc s n.sort) ns ∙ ap (λ f. element_type other (joined f s n.sort) ns) like.sorts

  pub question-alike : (at : ℕ) (op : QuestionOp) (n : Node) → question_node sc at op n ≡ question_node other at op n
  question-alike at op n = ap (λ b. record (made at (question_type op) (n ∷ []) (b && n.is_one)) { decides = false; asks = true }) like.search
